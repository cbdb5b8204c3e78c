-- What sources of other machines mean to a caller: all that generic code may speak of.
use Rattle.std.specs.Prelude.{◌≡◌, ◌≤◌, ◌-◌, ◌^◌, ℕ, Bool, true, [], ◌∷◌}
use Rattle.mix_tree.specs.Forest.{Forest}
use Rattle.lxp_core.specs.declared.open_tree.HoleId.{HoleId}
use Rattle.lxp_core.specs.Fill.{Piecewise}
use Rattle.far_keep.specs.declared.far_source.FarSource.{FarSource}

-- the hole that stands for the whole document of a far source, whichever it is: each of its words is 2^64 - 1
abbrev pub far_root : HoleId
far_root = record { words = (2 ^ 64 - 1) ∷ (2 ^ 64 - 1) ∷ (2 ^ 64 - 1) ∷ [] }

-- what sources of other machines mean
pub record FarsView : Type 0 where
  -- whether a far source tells its document; no list that answers a fill of it begins with a hole then
  pub told : FarSource → Bool
  -- whether a far source knows a hole
  pub knows : FarSource → HoleId → Bool
  -- the trees that a known hole of a told far source stands for
  pub forest : FarSource → HoleId → Forest
  -- the weight of a known hole
  pub weight : FarSource → HoleId → ℕ
  -- how often a far source failed
  pub faults : FarSource → ℕ

-- the document of a far source that tells it, as a list of trees
abbrev pub document : FarsView → FarSource → Forest
document v far = v.forest far far_root

-- the document of a far source, given piece by piece: each list is small, and none of a told one begins with a hole
abbrev pub far_document : FarsView → FarSource → Piecewise
far_document v far = record {
  told = v.told far;
  knows = v.knows far;
  forest = v.forest far;
  weight = v.weight far;
  forward = v.told far;
  small = true;
  faults = v.faults far;
}

-- what every call keeps of far sources: what is told, and each known hole and its meaning; no count of faults falls
pub record KeepsFars (old new : FarsView) : Type 0 where
  pub told : (far : FarSource) → new.told far ≡ old.told far
  pub knows : (far : FarSource) (h : HoleId) → old.knows far h ≡ true → new.knows far h ≡ true
  pub forest : (far : FarSource) (h : HoleId) → old.knows far h ≡ true → new.forest far h ≡ old.forest far h
  pub weight : (far : FarSource) (h : HoleId) → old.knows far h ≡ true → new.weight far h ≡ old.weight far h
  pub faults : (far : FarSource) → old.faults far ≤ new.faults far
