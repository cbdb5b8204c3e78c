use Rattle.std.proofs.Common.{◌-◌, ◌≤◌, length}
use Rattle.lxp_wire.proofs.Streams.{Serving}
use Rattle.lxp_wire.proofs.serve.serve.Given as goal

abbrev pub invariant-loop-request : goal.invariant-loop-request
invariant-loop-request g l = record {
  came : g.S.Sources.came_from l.fn.sources l.sources;
  serving : Serving (g.S.Sources.view l.fn.sources) (g.S.Sources.view l.sources) l.text l.fn.out.items l.out.items l.at;
  within : l.at ≤ length l.text;
}

abbrev pub decreases-loop-request : goal.decreases-loop-request
decreases-loop-request g l = length l.text - l.at
