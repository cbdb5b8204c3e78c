use Rattle.std.proofs.Common.{◌≡◌, ◌+◌, ◌*◌, ◌≤◌, ◌++◌, drop}
use Rattle.path_expr.specs.Form.{paths_of}
use Rattle.path_expr.specs.Size.{size_of, form_size}
use Rattle.path_expr.specs.Canonical.{canon_rest, canon_between, members_of}
use Rattle.path_expr.specs.Writer.{wraps_in}
use Rattle.path_expr.proofs.writing.+write.Given as goal

abbrev pub decreases-push_path : goal.decreases-push_path
decreases-push_path l = 3 * form_size l.path.now

abbrev pub decreases-push_member : goal.decreases-push_member
decreases-push_member l = 3 * form_size l.path.now + 1

abbrev pub decreases-push_marked : goal.decreases-push_marked
decreases-push_marked l = 3 * form_size l.path.now + 2

abbrev pub decreases-push_members : goal.decreases-push_members
decreases-push_members l = 3 * size_of (paths_of l.members.now) + 2

abbrev pub invariant-push_members-loop-member : goal.invariant-push_members-loop-member
invariant-push_members-loop-member l = record {
  text : l.out.items ++ canon_rest (wraps_in l.around) l.separator (members_of (paths_of (drop l.member-index l.rest)))
      ≡ l.fn.out.items ++ canon_between (wraps_in l.around) l.separator (members_of (paths_of l.fn.members));
  size : size_of (paths_of (drop l.member-index l.rest)) ≤ size_of (paths_of l.fn.members);
}
