use Rattle.std.proofs.Common.{◌≡◌, true}
use Rattle.std.specs.List.{list_all}
use Rattle.far_keep.specs.Listed.{is_small}
use Rattle.command_cases.proofs.far.list.Given as goal

abbrev pub invariant-loop-part : goal.invariant-loop-part
invariant-loop-part l = list_all is_small l.fars.items ≡ true
