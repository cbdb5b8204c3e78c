use Rattle.std.proofs.Common.{◌≡◌, ◌≤◌, ◌-◌}
use Rattle.lxp_core.specs.Open.{without_holes}
use Rattle.lxp_core.specs.Plain.{put_all}
use Rattle.document_store.specs.Between.{between}
use Rattle.bracket_wrap.proofs.bracket.BracketDoc.+subtrees.Given as goal

abbrev pub decreases-subtrees : goal.decreases-subtrees
decreases-subtrees l = l.to - l.from

abbrev pub invariant-loop-i : goal.invariant-loop-i
invariant-loop-i l = record {
  within : l.to ≤ l.initial.to;
  list : put_all l.list.items (without_holes (between l.self.nodes l.from l.to)) ≡ without_holes (between l.self.nodes l.from l.initial.to);
}

abbrev pub decreases-loop-i : goal.decreases-loop-i
decreases-loop-i l = l.to
