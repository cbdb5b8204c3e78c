use Rattle.std.proofs.Common.{rules, ◌≡◌, subst, sym}
use Rattle.mix_tree.specs.Spelling.{spelling}
use Rattle.mix_tree.specs.LabelGrammar.{SpellsLabel}
use Rattle.mix_tree.proofs.LabelCanonical.{spelling_spells}
use Rattle.mix_tree.proofs.spelling.write_label.Goals as goal

pub returns-clause-spells : goal.returns-clause-spells
returns-clause-spells c =
    let written : c.push_label.new.out.items ≡ spelling c.args.label.now = search rules in
    subst (λ x. SpellsLabel x c.args.label.now) (sym written) (spelling_spells c.args.label.now)
