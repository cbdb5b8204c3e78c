use Rattle.std.proofs.Common.{◌<◌, ◌∙◌, length, sym, arith}
use Rattle.mix_script.proofs.LineWords.{blank_passed}
use Rattle.mix_script.proofs.words.blanks_end.Goals as goal

pub loop-at-preserved : goal.loop-at-preserved
loop-at-preserved c =
    let text = c.args.text.now in
    let inside : c.loop-at.at < length text = omega (arith, c.loop-at-test.true) in
    record {
      inside = omega arith;
      words = blank_passed text c.loop-at.at inside (sym c.is_blank_byte.ensures ∙ c.if-is_blank_byte.true) ∙ c.loop-at.invariant.words;
    }
