use Rattle.std.proofs.Common.{length, drop, ◌++◌, sym, subst}
use Rattle.std.specs.Prelude.{replicate}
use Rattle.mix_tree.specs.LabelText.{IsText}
use Rattle.mix_tree.specs.declared.label_text.LabelText.TheVariants.{Short}
use Rattle.mix_tree.proofs.LabelWords.{text_in_place}
use Rattle.mix_tree.proofs.label_text.short.Goals as goal

pub returns-clause-text : goal.returns-clause-text
returns-clause-text c =
    subst (λ bytes. IsText (Short (length c.args.text.now) (bytes ++ drop (length c.args.text.now) (replicate 14 0)))) (sym c.copy_from_slice.ensures.after)
    (text_in_place c.args.text.now c.requires.short c.requires.utf8)
