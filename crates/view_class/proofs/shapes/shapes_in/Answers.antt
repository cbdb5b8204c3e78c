use Rattle.std.proofs.Common.{◌≡◌, ◌+◌, List, subst, sym, arith, length}
use Rattle.browse_visit.specs.declared.shape.Shape.{Shape}
use Rattle.view_class.proofs.ShapeLists.{AreShapesTo, all_shapes, one_shape_more}
use Rattle.view_class.proofs.shapes.shapes_in.Goals as goal

pub loop-s-preserved : goal.loop-s-preserved
loop-s-preserved c =
    subst (λ (shapes : List Shape). AreShapesTo c.args.catalog.now (c.loop-s.s + 1) shapes) (sym c.in_ok-push.ensures.items)
    (one_shape_more c.args.catalog.now c.loop-s.s c.loop-s.shapes.items c.spec.result.now c.in_ok-spec_shape.field-0 c.loop-s.invariant c.spec.ensures.spec c.in_ok-spec_shape.ensures)

pub returns : goal.returns
returns c =
    let all : c.loop-s.s ≡ length c.args.catalog.now = (let a = c.loop-s-test.false in let e = c.len-s-end.ensures.len in let w = c.loop-s.auto.s-end in omega (arith, a, e, w)) in
    all_shapes c.args.catalog.now c.loop-s.s c.loop-s.shapes.items all c.loop-s.invariant
