use Rattle.std.proofs.Common.{◌<◌, ◌∙◌, length, sym, arith}
use Rattle.mix_words.specs.Words.{is_blank}
use Rattle.mix_words.proofs.Pieces.{Free-grown}
use Rattle.mix_script.proofs.LineWords.{word_before_blank, word_at_end}
use Rattle.mix_script.proofs.words.word_end.Goals as goal

pub loop-end-preserved : goal.loop-end-preserved
loop-end-preserved c =
    let text = c.args.text.now in
    let order = c.loop-end.invariant.order in
    let inside : c.loop-end.end < length text = omega (arith, c.loop-end-test.true) in
    record {
      order = omega (arith, order);
      inside = omega arith;
      free = Free-grown is_blank text c.args.from c.loop-end.end order inside c.loop-end.invariant.free (sym c.is_blank_byte.ensures ∙ c.if-not-is_blank_byte.true);
    }

pub returns-else-not-is_blank_byte-clause-words : goal.returns-else-not-is_blank_byte-clause-words
returns-else-not-is_blank_byte-clause-words c =
    word_before_blank c.args.text.now c.args.from c.loop-end.end c.loop-end.invariant.order c.loop-end.invariant.free (omega (arith, c.loop-end-test.true)) (sym c.is_blank_byte.ensures ∙ c.if-not-is_blank_byte.false)

pub returns-after-loop-end-clause-words : goal.returns-after-loop-end-clause-words
returns-after-loop-end-clause-words c =
    word_at_end c.args.text.now c.args.from c.loop-end.end c.loop-end.invariant.order c.loop-end.invariant.free (omega (arith, c.loop-end-test.false, c.loop-end.invariant.inside))
