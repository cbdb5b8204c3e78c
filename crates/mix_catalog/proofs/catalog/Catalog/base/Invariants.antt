use Rattle.std.proofs.Common.{◌≡◌, false, take}
use Rattle.mix_catalog.specs.Sources.{has_view}
use Rattle.mix_catalog.proofs.catalog.Catalog.base.Given as goal

abbrev pub invariant-loop-s : goal.invariant-loop-s
invariant-loop-s l = record {
  taken : l.base ≡ take l.s l.self;
  others : has_view l.base ≡ false;
}
