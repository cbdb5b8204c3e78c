use Rattle.std.proofs.Common.{◌≡◌, false}
use Rattle.lxp_core.specs.Open.{nil, begins_with_hole}
use Rattle.lxp_core.specs.Plain.{stacked}
use Rattle.tree_buffer.specs.Fills.{fills_left, IsSettling}
use Rattle.tree_buffer.proofs.stacks.settle.Given as goal

abbrev pub invariant-loop-hole : goal.invariant-loop-hole
invariant-loop-hole g l =
    record {
      came : g.S.Sources.came_from l.initial.s l.s;
      settling : IsSettling (g.S.Sources.view l.initial.s) (g.S.Sources.view l.s) l.number (stacked l.initial.stack.items nil) (stacked l.stack.items nil);
      whole : begins_with_hole (stacked l.initial.stack.items nil) ≡ false → (l.s ≡ l.initial.s) × (l.stack.items ≡ l.initial.stack.items);
    }

abbrev pub decreases-loop-hole : goal.decreases-loop-hole
decreases-loop-hole g l = fills_left ((g.S.Sources.view l.s).weight l.number) (stacked l.stack.items nil)
