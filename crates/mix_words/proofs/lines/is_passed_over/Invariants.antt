use Rattle.std.proofs.Common.{◌≡◌, drop}
use Rattle.mix_words.specs.Lines.{is_passed}
use Rattle.mix_words.proofs.lines.is_passed_over.Given as goal

abbrev pub invariant-loop-byte : goal.invariant-loop-byte
invariant-loop-byte l = is_passed (drop l.byte-index l.line) ≡ is_passed l.line
