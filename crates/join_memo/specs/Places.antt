-- The places at which a label stands in a list of labels, and an index of them.
use Rattle.std.specs.Prelude.{◌≡◌, ◌<◌, ◌≤◌, ℕ, suc, Bool, true, false, cond, List, [], ◌∷◌, ◌++◌, Option, MatchOption, length, slice_index_or}
use Rattle.std.specs.Str.{bytes_eq}

-- the places at which a label stands, ascending, where the first label stands at place n
abbrev pub places : List ℕ → ℕ → List (List ℕ) → List ℕ
places key n [] = []
places key n (label ∷ labels) = cond (bytes_eq key label) (n ∷ places key (suc n) labels) (places key (suc n) labels)

-- a label is the known one of this number
pub record IsKnown (known : List (List ℕ)) (key : List ℕ) (i : ℕ) : Type 0 where
  pub within : i < length known
  pub is : slice_index_or known i [] ≡ key

-- a label is none of the known, or that of this number
abbrev pub IsNumber : List (List ℕ) → List ℕ → Option ℕ → Type 0
IsNumber known key r = MatchOption r ((i : ℕ) → IsKnown known key i → ⊥) (IsKnown known key)

-- putting a label among the known gives its number, and whether it was none of them: then it stands after them
abbrev pub IsPut : List (List ℕ) → List ℕ → ℕ → Bool → List (List ℕ) → Type 0
IsPut known key i false after = IsKnown known key i × (after ≡ known)
IsPut known key i true after = ((j : ℕ) → IsKnown known key j → ⊥) × (after ≡ known ++ key ∷ [])

-- the group of each known label has the places at which it stands, no two of them are the same, and a label that is not known stands nowhere
pub record IsIndex (known groups : List (List ℕ)) (labels : List (List ℕ)) : Type 0 where
  pub lists : length groups ≡ length known
  pub found : (i : ℕ) → i < length known → slice_index_or groups i [] ≡ places (slice_index_or known i []) 0 labels
  pub apart : (key : List ℕ) (i j : ℕ) → IsKnown known key i → IsKnown known key j → i ≡ j
  pub absent : (key : List ℕ) → ((i : ℕ) → IsKnown known key i → ⊥) → places key 0 labels ≡ []

-- places are in ascending order
abbrev pub IsAscending : List ℕ → Type 0
IsAscending ps = (i j : ℕ) → i < j → j < length ps → slice_index_or ps i 0 < slice_index_or ps j 0

-- the first of ascending places, at or after one
pub record IsLeast (ps : List ℕ) (from p : ℕ) : Type 0 where
  pub number : ℕ
  pub within : number < length ps
  pub is : slice_index_or ps number 0 ≡ p
  pub after : from ≤ p
  pub before : (k : ℕ) → k < number → slice_index_or ps k 0 < from

-- none of the places is at or after one, or this is the first that is
abbrev pub IsLeastOf : List ℕ → ℕ → Option ℕ → Type 0
IsLeastOf ps from r = MatchOption r ((k : ℕ) → k < length ps → slice_index_or ps k 0 < from) (IsLeast ps from)
