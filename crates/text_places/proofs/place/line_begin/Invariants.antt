-- The line that the bytes so far end in begins where the count says.
use Rattle.text_places.specs.Lines.{HasLineBegin}
use Rattle.text_places.proofs.place.line_begin.Given as goal

abbrev pub invariant-loop-at : goal.invariant-loop-at
invariant-loop-at l = HasLineBegin l.front l.at l.begin
