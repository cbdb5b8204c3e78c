-- The lines of the candidates so far.
use Rattle.std.proofs.Common.{◌≡◌, take}
use Rattle.std.specs.List.{flat_map}
use Rattle.refusal_words.specs.Listing.{candidate_line}
use Rattle.refusal_words.proofs.listing.candidate_lines.Given as goal

abbrev pub invariant-loop-candidate : goal.invariant-loop-candidate
invariant-loop-candidate l = l.lines.items ≡ flat_map candidate_line (take l.candidate-index l.candidates)
