-- What is said of the lists so far.
use Rattle.std.proofs.Common.{◌≡◌, ◌++◌, take}
use Rattle.std.specs.List.{flat_map}
use Rattle.plan_class.specs.Profiles.{list_in}
use Rattle.list_costs.specs.Told.{heading, said_of}
use Rattle.list_costs.proofs.told.lists_said.Given as goal

abbrev pub invariant-loop-list : goal.invariant-loop-list
invariant-loop-list l = l.said.items ≡ heading ++ flat_map (said_of (λ input. list_in l.profiles) l.ops l.reasons) (take l.list-index l.lists)
