use Rattle.std.proofs.Common.{◌≡◌, rules, ap, ◌∙◌, sym, None, Some, arith}
use Rattle.std.specs.Prelude.{◌==◌}
use Rattle.std.specs.List.{list_any}
use Rattle.std.proofs.lemmas.Option.{slice_get-get_or}
use Rattle.std.specs.declared.alloc.Global.{Global}
use Rattle.std.specs.declared.rc.Rc.{Rc}
use Rattle.std.specs.declared.vec.Vec.{Vec}
use Rattle.plan_core.specs.PlanMade.{op_of}
use Rattle.plan_core.specs.Shapes.{shape_of}
use Rattle.lazy_binding.specs.declared.position.Position.{Position}
use Rattle.lazy_binding.specs.Parts.{operators}
use Rattle.lazy_binding.specs.Reading.{held_in}
use Rattle.lazy_binding.specs.Spots.{spot_in}
use Rattle.lazy_binding.proofs.RightSides.{right_spot}
use Rattle.lazy_binding.proofs.SortedRows.{list_spots}
use Rattle.lazy_binding.proofs.parts.Fixed.+holder.Goals as goal

pub returns-in_ok-get-in-Sorted-clause-held : goal.returns-in_ok-get-in-Sorted-clause-held
returns-in_ok-get-in-Sorted-clause-held t c =
    let is = ap shape_of (sym c.operator.ensures ∙ ap op_of c.in-OrderBy.is) in
    let items = c.deref-in-Sorted-2.ensures.value ∙ ap (λ (v : Vec (Rc Position Global) Global). v.items) c.deref-in-Sorted.ensures in
    c.holder-in-Sorted.ensures.held ∙ ap (λ (p : Position). spot_in (operators c.args.self.now) c.in-OrderBy.input p c.args.v) c.deref-in_ok-get-in-Sorted.ensures ∙ sym (list_spots c.in-Sorted.list c.in-Sorted.index c.deref-in-Sorted-2.result.now items c.args.at.now c.in-Sorted.is
    (operators c.args.self.now) c.args.n c.in-OrderBy.input c.in-OrderBy.var c.in-OrderBy.desc c.args.v is (Some c.in_ok-get-in-Sorted.field-0) c.in_ok-get-in-Sorted.ensures.lookup)

pub returns-in_err-get-in-Sorted-clause-held : goal.returns-in_err-get-in-Sorted-clause-held
returns-in_err-get-in-Sorted-clause-held t c =
    let is = ap shape_of (sym c.operator.ensures ∙ ap op_of c.in-OrderBy.is) in
    let items = c.deref-in-Sorted-2.ensures.value ∙ ap (λ (v : Vec (Rc Position Global) Global). v.items) c.deref-in-Sorted.ensures in
    let none : c.from_residual.result ≡ None = search rules in
    ap held_in none ∙ sym (list_spots c.in-Sorted.list c.in-Sorted.index c.deref-in-Sorted-2.result.now items c.args.at.now c.in-Sorted.is
    (operators c.args.self.now) c.args.n c.in-OrderBy.input c.in-OrderBy.var c.in-OrderBy.desc c.args.v is None c.in_err-get-in-Sorted.ensures.lookup)

pub returns-in-Pair-clause-held : goal.returns-in-Pair-clause-held
returns-in-Pair-clause-held t c =
    let is = ap shape_of (sym c.operator.ensures ∙ ap op_of c.in-Join.is) in
    let there = slice_get-get_or c.args.self.now.rights.items c.args.n c.index.result.now (let s = c.requires.fixed.sides in let h = c.requires.op in omega (arith, s, h)) ∙ ap Some (sym c.index.ensures) in
    let vars = c.deref-in-Join.ensures.value ∙ c.requires.fixed.rights c.args.n c.index.result.now there in
    c.holder-in-Pair.ensures.held
    ∙ ap (λ (p : Position). spot_in (operators c.args.self.now) c.in-Join.right p c.args.v) c.deref-in-Pair.ensures
    ∙ right_spot (operators c.args.self.now) c.requires.fixed.typed c.args.n c.in-Join.left c.in-Join.right c.in-Join.tests.items (record { ptr = c.in-Pair.field-0.ptr; value = tt })
    (record { ptr = c.in-Pair.r.ptr; value = tt }) c.in-Pair.field-0.value c.in-Pair.r.value c.in-Pair.field-2 c.args.v c.requires.op is
    (ap (list_any (λ u. u == c.args.v)) (sym vars) ∙ sym c.is_among.ensures ∙ c.if-is_among.true)
    ∙ ap (λ (p : Position). spot_in (operators c.args.self.now) c.args.n p c.args.v) (sym c.in-Pair.is)
