-- The lists in the values of the variables so far.
use Rattle.std.proofs.Common.{◌≡◌, ℕ}
use Rattle.list_costs.specs.Lists.{lists_below, lists_in}
use Rattle.list_costs.proofs.lists.answer_lists.Given as goal

abbrev pub invariant-ops : goal.invariant-ops
invariant-ops l = (v : ℕ) → lists_in l.nested v ≡ lists_below l.ops l.number v
