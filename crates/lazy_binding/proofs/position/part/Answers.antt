use Rattle.std.proofs.Common.{ap, ◌∙◌}
use Rattle.std.specs.declared.alloc.Global.{Global}
use Rattle.std.specs.declared.rc.Rc.{Rc}
use Rattle.std.specs.declared.vec.Vec.{Vec}
use Rattle.lazy_binding.specs.declared.position.Position.{Position}
use Rattle.lazy_binding.proofs.SortedRows.{list_part}
use Rattle.lazy_binding.proofs.position.part.Goals as goal

pub returns-in-Sorted : goal.returns-in-Sorted
returns-in-Sorted c =
    list_part c.in-Sorted.list c.in-Sorted.at c.deref-in-Sorted.result.now (c.deref-in-Sorted.ensures.value ∙ ap (λ (v : Vec (Rc Position Global) Global). v.items) c.deref.ensures) c.args.here.now c.in-Sorted.is c.get.result c.get.ensures.lookup
