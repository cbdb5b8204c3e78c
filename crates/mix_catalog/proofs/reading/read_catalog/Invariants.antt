use Rattle.std.proofs.Common.{[], map, take}
use Rattle.mix_catalog.specs.Sources.{Accepts}
use Rattle.mix_catalog.proofs.reading.read_catalog.Given as goal

abbrev pub invariant-loop-before : goal.invariant-loop-before
invariant-loop-before l = Accepts [] (take l.before (map (λ line. line.now) l.line-items)) l.catalog
