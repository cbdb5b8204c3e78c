use Rattle.std.proofs.Common.{take}
use Rattle.mix_lines.specs.Reading.{HasNoLf}
use Rattle.mix_lines.proofs.reader.line_part.Given as goal

abbrev pub invariant-loop-at : goal.invariant-loop-at
invariant-loop-at l = HasNoLf (take l.at l.bytes)
