use Rattle.std.proofs.Common.{map, ap, ◌∙◌}
use Rattle.std.proofs.lemmas.Result.{IfOk-weaker}
use Rattle.std.specs.declared.alloc.Global.{Global}
use Rattle.std.specs.declared.rc.Rc.{Rc}
use Rattle.std.specs.declared.vec.Vec.{Vec}
use Rattle.lazy_binding.specs.declared.position.Position.{Position}
use Rattle.lazy_steps.proofs.sort_steps.first_sorted.Goals as goal

pub returns-clause-ok : goal.returns-clause-ok
returns-clause-ok c =
    IfOk-weaker c.sorted_at.result _ _ (λ r h. (c.in_ok-list.list.value, ap (λ (v : Vec (Rc Position Global) Global). v.items) c.in_ok-list.ensures.ok ∙ c.in_ok-places.ensures ∙ ap (map (λ x. x.place)) c.in_ok-sort_labelled.ensures, h)) c.sorted_at.ensures.ok
