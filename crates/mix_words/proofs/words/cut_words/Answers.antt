use Rattle.std.proofs.Common.{◌+◌, ◌∙◌, sym, arith}
use Rattle.mix_words.specs.Words.{is_blank}
use Rattle.mix_words.proofs.Pieces.{Free-grown, Free-empty, Free-rest}
use Rattle.mix_words.proofs.WordCuts.{word_cut, last_word}
use Rattle.mix_words.proofs.words.cut_words.Goals as goal
use Rattle.mix_words.proofs.words.cut_words.Goals.{then-is_blank_byte+in_ok-push_word, else-is_blank_byte}

pub loop-at-preserved : goal.loop-at-preserved
loop-at-preserved c = elim c.if-is_blank_byte.branch [
  | then-is_blank_byte+in_ok-push_word w ↦ record {
    inside = omega (arith, w.from-is);
    free = rw w.from-is (Free-empty is_blank c.args.line.now (c.loop-at.at + 1));
    cut = rw (w.words-is, w.from-is) (word_cut c.args.line.now c.loop-at.from c.loop-at.at _ _ _ c.loop-at.invariant.inside c.loop-at-test.true c.loop-at.invariant.free
        (sym c.is_blank_byte.ensures ∙ w.if-is_blank_byte.true) w.in_ok-push_word.ensures c.loop-at.invariant.cut);
  }
  | else-is_blank_byte w ↦ record {
    inside = omega (arith, w.from-is);
    free = rw w.from-is (Free-grown is_blank c.args.line.now c.loop-at.from c.loop-at.at c.loop-at.invariant.inside c.loop-at-test.true c.loop-at.invariant.free
        (sym c.is_blank_byte.ensures ∙ w.if-is_blank_byte.false));
    cut = rw (w.words-is, w.from-is) c.loop-at.invariant.cut;
  }
]

pub returns : goal.returns
returns c =
    last_word c.args.line.now c.loop-at.from _ _ _
    (Free-rest is_blank c.args.line.now c.loop-at.from c.loop-at.at c.loop-at.invariant.inside (omega (arith, c.loop-at-test.false)) c.loop-at.invariant.free)
    c.in_ok-push_word-2.ensures c.loop-at.invariant.cut
