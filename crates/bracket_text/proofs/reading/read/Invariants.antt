use Rattle.std.proofs.Common.{◌≡◌, ◌≤◌, ◌-◌, length, drop}
use Rattle.std.specs.Str.{IsCharBoundary}
use Rattle.bracket_text.specs.Machine.{State, empty, verdict}
use Rattle.bracket_text.specs.ReaderState.{Holds}
use Rattle.bracket_text.proofs.reading.read.Given as goal

abbrev pub invariant-loop-at : goal.invariant-loop-at
invariant-loop-at l = record {
  inside : l.at ≤ length l.text;
  boundary : IsCharBoundary l.text l.at;
  held : (s : State) × Holds l.reader s.open' s.mode × (verdict s l.at (drop l.at l.text) ≡ verdict empty 0 l.text);
}

abbrev pub decreases-loop-at : goal.decreases-loop-at
decreases-loop-at l = length l.text - l.at
