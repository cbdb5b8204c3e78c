use Rattle.std.proofs.Common.{◌≤◌, length}
use Rattle.bracket_wrap.proofs.bracket.BracketDoc.count.Given as goal

abbrev pub invariant-loop-count : goal.invariant-loop-count
invariant-loop-count l = l.to ≤ length l.self.nodes
