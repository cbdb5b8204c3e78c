use Rattle.std.proofs.Common.{◌≡◌, map, take}
use Rattle.mix_catalog.specs.declared.source.SourceSpec.{SourceSpec}
use Rattle.plan_read.proofs.reading.source_names.Given as goal

abbrev pub invariant-loop-s : goal.invariant-loop-s
invariant-loop-s l = l.names.items ≡ map (λ (s : SourceSpec). s.name) (take l.s l.catalog)
