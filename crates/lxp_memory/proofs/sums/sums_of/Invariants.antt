use Rattle.std.proofs.Common.{◌≡◌, ◌≤◌, ℕ, suc, length, slice_index}
use Rattle.lxp_memory.specs.Sums.{total_from}
use Rattle.lxp_memory.proofs.sums.sums_of.Given as goal

abbrev pub invariant-nodes : goal.invariant-nodes
invariant-nodes l = record {
  count : length l.sums.items ≡ suc (length l.nodes);
  within : l.at ≤ length l.nodes;
  sums : (i : ℕ) → l.at ≤ i → i ≤ length l.nodes → slice_index l.sums.items i ≡ total_from l.nodes i;
}

abbrev pub decreases-nodes : goal.decreases-nodes
decreases-nodes l = l.at
