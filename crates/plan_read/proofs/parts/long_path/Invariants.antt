use Rattle.std.proofs.Common.{◌≡◌, ◌≤◌, ◌-◌, length, replicate}
use Rattle.path_expr.specs.Form.{any, none}
use Rattle.plan_read.proofs.parts.long_path.Given as goal

abbrev pub invariant-loop-members : goal.invariant-loop-members
invariant-loop-members l = record {
  few : length l.members.items ≤ 121;
  same : l.members.items ≡ replicate (length l.members.items) (record { head = any; members = none });
}

abbrev pub decreases-loop-members : goal.decreases-loop-members
decreases-loop-members l = 121 - length l.members.items
