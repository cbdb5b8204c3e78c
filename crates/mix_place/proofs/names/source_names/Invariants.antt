use Rattle.std.proofs.Common.{◌≡◌, take}
use Rattle.xmas_read.specs.Results.{names_of_sources}
use Rattle.mix_place.proofs.names.source_names.Given as goal

abbrev pub invariant-loop-number : goal.invariant-loop-number
invariant-loop-number l = l.names.items ≡ names_of_sources (take l.number l.catalog)
