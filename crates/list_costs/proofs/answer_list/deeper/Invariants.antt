-- The lists so far, each one element deeper.
use Rattle.std.proofs.Common.{◌≡◌, take}
use Rattle.list_costs.specs.Lists.{deeper}
use Rattle.list_costs.proofs.answer_list.deeper.Given as goal

abbrev pub invariant-loop-list : goal.invariant-loop-list
invariant-loop-list l = l.inner.items ≡ deeper (take l.list-index l.lists)
