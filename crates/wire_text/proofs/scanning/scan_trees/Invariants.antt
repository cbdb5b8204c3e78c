use Rattle.std.proofs.Common.{ℕ, ◌<◌, get_or, ◌≤◌, ◌+◌, ◌*◌, ◌^◌, length}
use Rattle.wire_text.specs.Reading.{Verdict, Judges}
use Rattle.wire_text.specs.Heads.{IsTreesText}
use Rattle.wire_text.proofs.scanning.scan_trees.Given as goal

abbrev pub invariant-loop-pending : goal.invariant-loop-pending
invariant-loop-pending l = record {
  goes_on : (v : Verdict) → Judges (IsTreesText l.pending) l.rest v → Judges (IsTreesText l.count) l.text v;
  fits : (i : ℕ) → get_or l.rest i 0 < 256;
  bound : l.pending + 2 ^ 32 * length l.rest ≤ 2 ^ 32 * (length l.text + 1);
}

abbrev pub decreases-loop-pending : goal.decreases-loop-pending
decreases-loop-pending l = length l.rest
