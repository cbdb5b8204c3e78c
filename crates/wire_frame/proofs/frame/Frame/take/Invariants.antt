use Rattle.std.proofs.Common.{length, ◌-◌, ◌≡◌, ◌≤◌, take}
use Rattle.wire_frame.specs.Standing.{lost, after}
use Rattle.wire_frame.specs.Frames.{standing_of}
use Rattle.wire_frame.proofs.frame.Frame.take.Given as goal

abbrev pub invariant-loop-count : goal.invariant-loop-count
invariant-loop-count l = record {
  within : l.count ≤ length l.piece;
  stands : standing_of l.self ≡ after (standing_of l.initial.self) (take l.count l.piece);
  kept : standing_of l.self ≡ lost → l.count ≡ 0;
}

abbrev pub decreases-loop-count : goal.decreases-loop-count
decreases-loop-count l = length l.piece - l.count
