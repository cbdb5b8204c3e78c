use Rattle.std.proofs.Common.{◌≤◌}
use Rattle.lazy_plan.specs.Bench.{state_of, IsBenchOf}
use Rattle.lazy_site.specs.Ids.{IsRest, rest_trees, weight, left}
use Rattle.lazy_site.specs.Heights.{rest_rank}
use Rattle.lazy_site.specs.Standing.{StaysLeft}
use Rattle.lazy_site.proofs.Turns.{Paid}
use Rattle.lazy_site.proofs.turning.first_node.Given as goal

abbrev pub invariant-turns : goal.invariant-turns
invariant-turns g l = record {
  came : g.S.Sources.came_from l.fn.s l.s;
  bench : IsBenchOf (g.S.Sources.view l.s) l.bench;
  rest : IsRest (state_of (g.S.Sources.view l.s) l.bench) l.now.value;
  paid : Paid (state_of (g.S.Sources.view l.fn.s) l.fn.bench) (state_of (g.S.Sources.view l.s) l.bench)
      (rest_trees (state_of (g.S.Sources.view l.fn.s) l.fn.bench) l.fn.rest.value) (rest_trees (state_of (g.S.Sources.view l.s) l.bench) l.now.value);
  rank : rest_rank l.now.value ≤ rest_rank l.fn.rest.value;
  list : StaysLeft (state_of (g.S.Sources.view l.fn.s) l.fn.bench) (state_of (g.S.Sources.view l.s) l.bench) l.fn.rest.value l.now.value;
  left : left (state_of (g.S.Sources.view l.s) l.bench) l.now.value ≤ left (state_of (g.S.Sources.view l.fn.s) l.fn.bench) l.fn.rest.value;
}

abbrev pub decreases-turns : goal.decreases-turns
decreases-turns g l = weight (state_of (g.S.Sources.view l.s) l.bench) l.now.value
