use Rattle.std.proofs.Common.{rules, ◌≡◌, subst, sym}
use Rattle.bracket_text.specs.Canonical.{canon}
use Rattle.bracket_text.specs.Grammar.{Spells}
use Rattle.bracket_text.proofs.Written.{canon_spells}
use Rattle.bracket_text.proofs.writing.write_tree.Goals as goal

pub returns-clause-spells : goal.returns-clause-spells
returns-clause-spells c =
    let written : c.push_tree.new.out.items ≡ canon c.args.tree.now = search rules in
    subst (λ x. Spells x c.args.tree.now) (sym written) (canon_spells c.args.tree.now)
