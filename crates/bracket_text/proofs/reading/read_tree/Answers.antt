use Rattle.std.proofs.Common.{sym, subst}
use Rattle.bracket_text.specs.Grammar.{SpellsShallow}
use Rattle.bracket_text.proofs.reading.read_tree.Goals as goal

pub returns-clause-answers : goal.returns-clause-answers
returns-clause-answers c =
    let found = c.in_ok-document.ensures.answers in
    (found.2, subst (SpellsShallow c.args.text.now) (sym (c.in_ok-tree.ensures found.0 found.1)) found.3)
