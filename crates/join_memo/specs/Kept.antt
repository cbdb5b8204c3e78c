-- What a memo is seen as, and what looking a label up in it finds.
use Rattle.std.specs.Prelude.{◌≡◌, ◌<◌, ◌≤◌, ℕ, suc, Bool, List, [], ◌∷◌, Option, None, Some, MatchOption, map, length, slice_index_or}

-- the pairs of a label and an item that were pushed, in order, and whether all were
pub record Kept (T : Type 0) : Type 0 where
  pub pairs : List (List ℕ × T)
  pub ended : Bool

-- the labels of the pairs
abbrev pub labels_of : {T : Type 0} → List (List ℕ × T) → List (List ℕ)
labels_of pairs = map (λ p. p.0) pairs

-- a place of a list of labels has this label
pub record HasLabel (labels : List (List ℕ)) (key : List ℕ) (i : ℕ) : Type 0 where
  pub within : i < length labels
  pub is : slice_index_or labels i [] ≡ key

-- the first place with this label, at or after one
pub record IsFirstFrom (labels : List (List ℕ)) (key : List ℕ) (from i : ℕ) : Type 0 where
  pub after : from ≤ i
  pub label : HasLabel labels key i
  pub before : (j : ℕ) → from ≤ j → j < i → HasLabel labels key j → ⊥

-- no place at or after one has this label, or it is the first that has
abbrev pub IsFound : List (List ℕ) → List ℕ → ℕ → Option ℕ → Type 0
IsFound labels key from r = MatchOption r ((j : ℕ) → from ≤ j → HasLabel labels key j → ⊥) (IsFirstFrom labels key from)

-- what look-ups find one after another, the first from one place on and each further one from after what the one before found, until nothing is found
abbrev pub AreFound : List (List ℕ) → List ℕ → ℕ → List ℕ → Type 0
AreFound labels key from [] = IsFound labels key from None
AreFound labels key from (p ∷ ps) = IsFound labels key from (Some p) × AreFound labels key (suc p) ps
