-- No LF stands from the place to the index.
use Rattle.text_places.specs.Lines.{IsWithoutLf}
use Rattle.text_places.proofs.place.line_end.Given as goal

abbrev pub invariant-loop-end : goal.invariant-loop-end
invariant-loop-end l = IsWithoutLf l.text l.fn.at l.end
