use Rattle.std.proofs.Common.{◌≡◌, ◌≤◌}
use Rattle.lxp_core.specs.Plain.{put_all}
use Rattle.document_store.specs.Between.{before}
use Rattle.bracket_wrap.specs.Holes.{given_from}
use Rattle.bracket_wrap.proofs.bracket.BracketDoc.next_children.Given as goal

abbrev pub invariant-loop-left : goal.invariant-loop-left
invariant-loop-left l = record {
  within : l.to ≤ l.rest.to;
  from : before l.self.nodes l.rest.node ≤ l.to;
  list : put_all l.list.items (given_from l.self.nodes l.whole l.rest.node l.left l.to) ≡ given_from l.self.nodes l.whole l.rest.node l.most l.rest.to;
}

abbrev pub decreases-loop-left : goal.decreases-loop-left
decreases-loop-left l = l.left
