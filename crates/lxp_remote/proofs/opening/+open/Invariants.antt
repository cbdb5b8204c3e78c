use Rattle.std.proofs.Common.{◌≡◌}
use Rattle.lxp_core.specs.Plain.{plain as open_plain}
use Rattle.wire_text.specs.Wired.{without_weights}
use Rattle.wire_text.specs.Plain.{plain}
use Rattle.lxp_remote.proofs.opening.+open.Given as goal

abbrev pub invariant-open_list-loop-tree : goal.invariant-open_list-loop-tree
invariant-open_list-loop-tree l = open_plain l.list.items ≡ without_weights (plain l.yielded)
