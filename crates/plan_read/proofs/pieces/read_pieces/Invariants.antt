use Rattle.std.proofs.Common.{◌≡◌, ◌≤◌, ◌-◌, length, map, drop, option_map}
use Rattle.plan_read.specs.Reading.{pieces_read}
use Rattle.plan_read.proofs.PieceSteps.{after_pieces}
use Rattle.plan_read.proofs.pieces.read_pieces.Given as goal

abbrev pub invariant-loop-at : goal.invariant-loop-at
invariant-loop-at l = record {
  inside : l.at ≤ length l.words;
  whole : option_map (after_pieces l.pieces.items) (pieces_read l.names (map (λ w. w.now) (drop l.at l.words))) ≡ pieces_read l.names (map (λ w. w.now) l.words);
}

abbrev pub decreases-loop-at : goal.decreases-loop-at
decreases-loop-at l = length l.words - l.at
