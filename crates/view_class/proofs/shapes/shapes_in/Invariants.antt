use Rattle.view_class.proofs.ShapeLists.{AreShapesTo}
use Rattle.view_class.proofs.shapes.shapes_in.Given as goal

abbrev pub invariant-loop-s : goal.invariant-loop-s
invariant-loop-s l = AreShapesTo l.catalog l.s l.shapes.items
