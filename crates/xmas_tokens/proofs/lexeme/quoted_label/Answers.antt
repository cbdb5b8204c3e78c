use Rattle.std.proofs.Common.{subst}
use Rattle.mix_tree.specs.LabelReads.{ReadsLabel}
use Rattle.xmas_tokens.proofs.Lexemes.{quoted_longest, quoted_somewhere}
use Rattle.xmas_tokens.proofs.lexeme.quoted_label.Goals as goal

pub returns : goal.returns
returns c = quoted_longest c.args.text.now c.in-Got.label c.in-Got.end c.requires.quoted (subst (ReadsLabel c.args.text.now 0) c.in-Got.is c.in_ok-label.ensures.reads)

pub unreachable-requires : goal.unreachable-requires
unreachable-requires c =
    let found = subst (ReadsLabel c.args.text.now 0) c.in-Unexpected.is c.in_ok-label.ensures.reads in
    quoted_somewhere c.args.text.now c.requires.utf8 c.requires.quoted found.nowhere

pub unreachable-requires-in-Ends : goal.unreachable-requires-in-Ends
unreachable-requires-in-Ends c =
    let found = subst (ReadsLabel c.args.text.now 0) c.in-Ends.is c.in_ok-label.ensures.reads in
    quoted_somewhere c.args.text.now c.requires.utf8 c.requires.quoted found.nowhere
