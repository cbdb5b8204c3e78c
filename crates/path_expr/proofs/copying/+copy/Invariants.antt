use Rattle.std.proofs.Common.{◌≡◌, ◌+◌, ◌*◌, ◌≤◌, ◌++◌, drop}
use Rattle.path_expr.specs.Form.{paths_of}
use Rattle.path_expr.specs.Size.{size_of, form_size}
use Rattle.path_expr.proofs.copying.+copy.Given as goal

abbrev pub decreases-copy_path : goal.decreases-copy_path
decreases-copy_path l = 3 * form_size l.path.now

abbrev pub decreases-copy_member : goal.decreases-copy_member
decreases-copy_member l = 3 * form_size l.member.now + 1

abbrev pub decreases-copy_members : goal.decreases-copy_members
decreases-copy_members l = 3 * size_of (paths_of l.members.now) + 1

abbrev pub invariant-copy_members-loop-member : goal.invariant-copy_members-loop-member
invariant-copy_members-loop-member l = record {
  copies : l.copies.items ++ drop l.member-index l.members ≡ l.members;
  size : size_of (paths_of (drop l.member-index l.members)) ≤ size_of (paths_of l.fn.members);
}
