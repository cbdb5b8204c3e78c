use Rattle.std.proofs.Common.{◌≡◌, map, drop}
use Rattle.mix_catalog.specs.declared.source.SourceSpec.{SourceSpec}
use Rattle.xmas_read.specs.Refusals.{first_in, unknown_sources}
use Rattle.xmas_read.proofs.scopes.unknown_source.Given as goal

abbrev pub invariant-loop-cond : goal.invariant-loop-cond
invariant-loop-cond l =
    first_in (unknown_sources (map (λ (s : SourceSpec). s.name) l.catalog) (drop l.cond-index l.conds))
    ≡ first_in (unknown_sources (map (λ (s : SourceSpec). s.name) l.catalog) l.conds)
