-- What an object with sources means: everything that generic code may say of it.
use Rattle.std.specs.Prelude.{◌≡◌, ℕ, ◌≤◌, Bool, true}
use Rattle.mix_tree.specs.Forest.{Forest}
use Rattle.lxp_core.specs.declared.open_tree.HoleId.{HoleId}

-- the meaning of an object with sources, which are numbered from 0
pub record View : Type 0 where
  -- how many sources there are
  pub count : ℕ
  -- the hole that stands for the whole document of a source
  pub root : ℕ → HoleId
  -- whether a source tells its document
  pub told : ℕ → Bool
  -- whether a source knows a hole
  pub knows : ℕ → HoleId → Bool
  -- the trees that a known hole of a told source stands for
  pub forest : ℕ → HoleId → Forest
  -- the weight of a known hole
  pub weight : ℕ → HoleId → ℕ
  -- whether no list that a fill of a source answers begins with a hole
  pub forward : ℕ → Bool
  -- whether each list that a fill of a source answers is small enough for a wire
  pub small : ℕ → Bool
  -- how many fills were answered or failed
  pub fills : ℕ
  -- how often a source failed
  pub faults : ℕ → ℕ

-- the document of a source that tells it, as a list of trees
abbrev pub document : View → ℕ → Forest
document v s = v.forest s (v.root s)

-- what every call keeps of sources: how many there are, what each means, each known hole and its meaning; no count of fills or faults falls
pub record Keeps (old new : View) : Type 0 where
  pub count : new.count ≡ old.count
  pub root : (s : ℕ) → new.root s ≡ old.root s
  pub told : (s : ℕ) → new.told s ≡ old.told s
  pub forward : (s : ℕ) → new.forward s ≡ old.forward s
  pub small : (s : ℕ) → new.small s ≡ old.small s
  pub knows : (s : ℕ) (h : HoleId) → old.knows s h ≡ true → new.knows s h ≡ true
  pub forest : (s : ℕ) (h : HoleId) → old.knows s h ≡ true → new.forest s h ≡ old.forest s h
  pub weight : (s : ℕ) (h : HoleId) → old.knows s h ≡ true → new.weight s h ≡ old.weight s h
  pub fills : old.fills ≤ new.fills
  pub faults : (s : ℕ) → old.faults s ≤ new.faults s
