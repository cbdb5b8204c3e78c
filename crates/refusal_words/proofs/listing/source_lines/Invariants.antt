-- The lines of the sources so far.
use Rattle.std.proofs.Common.{◌≡◌, take}
use Rattle.std.specs.List.{flat_map}
use Rattle.xmas_read.specs.Results.{names_of_sources}
use Rattle.refusal_words.specs.Listing.{item_line}
use Rattle.refusal_words.proofs.listing.source_lines.Given as goal

abbrev pub invariant-loop-number : goal.invariant-loop-number
invariant-loop-number l = l.lines.items ≡ flat_map item_line (names_of_sources (take l.number l.catalog))
