use Rattle.std.proofs.Common.{ap, ◌∙◌, sym, Some, None}
use Rattle.std.specs.declared.alloc.Global.{Global}
use Rattle.std.specs.declared.rc.Rc.{Rc}
use Rattle.std.specs.declared.vec.Vec.{Vec}
use Rattle.plan_core.specs.Shapes.{shape_of, shape_at}
use Rattle.lazy_binding.specs.declared.position.Position.{Position}
use Rattle.lazy_binding.specs.Parts.{operators}
use Rattle.lazy_binding.proofs.SortedRows.{list_part}
use Rattle.lazy_evidence.specs.Noted.{noted}
use Rattle.lazy_evidence.proofs.Listed.{noted_start, list_noted, one_input}
use Rattle.lazy_evidence.proofs.visited.+note.Goals as goal

pub returns-in-Some-clause-spots : goal.returns-in-Some-clause-spots
returns-in-Some-clause-spots t c =
    let s = one_input c.operator.result.now c.in-Select.input c.in-Select.is in
    let items = c.deref-in-Sorted-2.ensures.value ∙ ap (λ (v : Vec (Rc Position Global) Global). v.items) c.deref-in-Sorted.ensures in
    let part = list_part c.in-Sorted.list c.in-Sorted.index c.deref-in-Sorted-2.result.now items c.args.at.now c.in-Sorted.is (Some c.in-Some.below) c.in-Some.ensures.lookup in
    c.note-in-Some.ensures.spots
    ∙ ap (λ (p : Position). noted (operators c.args.fixed.now) c.in-Select.input (shape_at (operators c.args.fixed.now) c.in-Select.input) p c.args.spots.now.items) (c.deref-in-Some.ensures ∙ part)
    ∙ sym (list_noted c.in-Sorted.list c.in-Sorted.index c.args.at.now c.in-Sorted.is (operators c.args.fixed.now) c.args.n c.in-Select.input s.0 (sym (ap shape_of c.operator.ensures) ∙ s.1) c.args.spots.now.items)

pub returns-in_default-get-clause-spots : goal.returns-in_default-get-clause-spots
returns-in_default-get-clause-spots t c =
    let s = one_input c.operator.result.now c.in-Select.input c.in-Select.is in
    let items = c.deref-in-Sorted-2.ensures.value ∙ ap (λ (v : Vec (Rc Position Global) Global). v.items) c.deref-in-Sorted.ensures in
    let part = list_part c.in-Sorted.list c.in-Sorted.index c.deref-in-Sorted-2.result.now items c.args.at.now c.in-Sorted.is None c.in_default-get.ensures.lookup in
    sym (list_noted c.in-Sorted.list c.in-Sorted.index c.args.at.now c.in-Sorted.is (operators c.args.fixed.now) c.args.n c.in-Select.input s.0 (sym (ap shape_of c.operator.ensures) ∙ s.1) c.args.spots.now.items
    ∙ ap (λ (p : Position). noted (operators c.args.fixed.now) c.in-Select.input (shape_at (operators c.args.fixed.now) c.in-Select.input) p c.args.spots.now.items) part
    ∙ noted_start (operators c.args.fixed.now) c.in-Select.input (shape_at (operators c.args.fixed.now) c.in-Select.input) c.args.spots.now.items)
