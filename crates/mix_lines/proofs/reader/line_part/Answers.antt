use Rattle.std.proofs.Common.{◌≡◌, ◌==◌, false, sym, subst, arith, take, get_or}
use Rattle.std.proofs.lemmas.List.{take_more}
use Rattle.mix_lines.specs.Reading.{HasNoLf}
use Rattle.mix_lines.proofs.Long.{no_lf_append}
use Rattle.mix_lines.proofs.reader.line_part.Goals as goal

pub loop-at-preserved : goal.loop-at-preserved
loop-at-preserved c =
    let bytes = c.args.bytes.now in
    let at = c.loop-at.at in
    let other : get_or bytes at 0 == 10 ≡ false = grind (arith, c.if-byte-eq10.false) in
    subst HasNoLf (sym (take_more bytes at 0 c.loop-at-test.true)) (no_lf_append (take at bytes) _ c.loop-at.invariant (other, tt))
