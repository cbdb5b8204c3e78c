use Rattle.std.proofs.Common.{◌≡◌, ◌≤◌, length}
use Rattle.std.specs.Io.KnownBytes.{Consumes}
use Rattle.mix_io.specs.declared.whole.TheConstants.{WHOLE_LIMIT}
use Rattle.wire_frame.specs.Standing.{standing_after}
use Rattle.wire_frame.specs.Frames.{GoesOn, standing_of}
use Rattle.file_link.proofs.receiving.receive.Given as goal

abbrev pub invariant-loop : goal.invariant-loop
invariant-loop g l = record {
  consumed : Consumes (g.R.Read.remaining l.initial.from) (g.R.Read.remaining l.from) l.bytes.items;
  stands : standing_of l.frame ≡ standing_after l.bytes.items;
  goes_on : GoesOn (standing_after l.bytes.items);
  short : length l.bytes.items ≤ WHOLE_LIMIT;
}
