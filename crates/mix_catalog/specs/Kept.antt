-- How a catalog keeps its sources.
use Rattle.std.specs.Prelude.{◌≡◌, ◌≤◌, ℕ, true, List, map, length, Vec}
use Rattle.std.specs.declared.alloc.Global.{Global}
use Rattle.mix_catalog.specs.declared.source.SourceSpec.{SourceSpec}
use Rattle.mix_catalog.specs.Sources.{AreNumbered, views_last}

-- the key of each entry is the name of its source
abbrev pub AreNamed : List (Vec ℕ Global × SourceSpec) → Type 0
AreNamed es = map (λ e. e.0.items) es ≡ map (λ e. e.1.name) es

-- at most 32 entries, whose keys are the names of their sources, and no name is of two sources; views stand after the others
pub record IsKept (es : List (Vec ℕ Global × SourceSpec)) : Type 0 where
  pub keys : AreNamed es
  pub few : length es ≤ 32
  pub numbered : AreNumbered (map (λ e. e.1) es)
  pub last : views_last (map (λ e. e.1) es) ≡ true
