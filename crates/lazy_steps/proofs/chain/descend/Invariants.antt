use Rattle.std.proofs.Common.{◌<◌, ◌≤◌, ◌+◌, length}
use Rattle.lazy_binding.specs.Parts.{operators}
use Rattle.lazy_steps.specs.Chains.{Descends}
use Rattle.lazy_steps.proofs.chain.descend.Given as goal

-- the way so far
abbrev pub invariant-operators : goal.invariant-operators
invariant-operators l = record {
  op : l.op < length (operators l.walk.fixed.now);
  few : l.levels + l.op ≤ l.walk.op;
  way : Descends (operators l.walk.fixed.now) l.walk.op l.fn.from.value l.levels l.op l.at.value;
}

abbrev pub decreases-operators : goal.decreases-operators
decreases-operators l = l.op
