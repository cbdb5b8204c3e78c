use Rattle.std.proofs.Common.{◌∙◌, sym}
use Rattle.mix_tree.proofs.LabelWords.{words_are}
use Rattle.mix_tree.proofs.label_text.same_bytes.Goals as goal

pub returns-then-prefix_word : goal.returns-then-prefix_word
returns-then-prefix_word c =
    rw (c.back_word.ensures, c.back_word-then-prefix_word.ensures)
    (words_are c.args.a.now c.args.b.now c.told-a c.told-b c.fits-a c.fits-b (sym c.prefix_word.ensures ∙ c.if-prefix_word.true ∙ c.prefix_word-2.ensures))
