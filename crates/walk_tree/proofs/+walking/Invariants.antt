use Rattle.std.proofs.Common.{◌≡◌, ◌+◌, ◌*◌, ◌≤◌, ◌++◌, true, length}
use Rattle.std.specs.Prelude.{IfSome}
use Rattle.tree_buffer.specs.Buffer.{IsSpot, Ran, number_of, below}
use Rattle.walk_tree.specs.Walk.{labels_from, left}
use Rattle.walk_tree.proofs.+walking.Given as goal

abbrev pub decreases-walk : goal.decreases-walk
decreases-walk g l = 2 * below (g.S.Sources.view l.s.now) l.b.now l.p.now + 1

abbrev pub decreases-walk_from : goal.decreases-walk_from
decreases-walk_from g l = 2 * left (g.S.Sources.view l.s.now) l.b.now l.first

abbrev pub invariant-walk_from-loop-at : goal.invariant-walk_from-loop-at
invariant-walk_from-loop-at g l = record {
  ran : Ran g.S.Sources.view g.S.Sources.came_from l.initial.s l.initial.b l.s l.b;
  spot : IfSome l.at (IsSpot l.b);
  less : left (g.S.Sources.view l.s) l.b l.at ≤ left (g.S.Sources.view l.initial.s) l.initial.b l.initial.at;
  few : length l.out.items + left (g.S.Sources.view l.s) l.b l.at ≤ length l.initial.out.items + left (g.S.Sources.view l.initial.s) l.initial.b l.initial.at;
  labels : (g.S.Sources.view l.initial.s).told (number_of l.initial.b) ≡ true
      → l.out.items ++ labels_from (g.S.Sources.view l.s) l.b l.at ≡ l.initial.out.items ++ labels_from (g.S.Sources.view l.initial.s) l.initial.b l.initial.at;
  lazy : (g.S.Sources.view l.initial.s).forward (number_of l.initial.b) ≡ true
      → (g.S.Sources.view l.s).fills + 2 * length l.initial.out.items ≤ (g.S.Sources.view l.initial.s).fills + 2 * length l.out.items;
}

abbrev pub decreases-walk_from-loop-at : goal.decreases-walk_from-loop-at
decreases-walk_from-loop-at g l = left (g.S.Sources.view l.s) l.b l.at
