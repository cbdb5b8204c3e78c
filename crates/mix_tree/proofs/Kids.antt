-- What `get` reads of a list of trees is the first of the trees from that index on.
use Rattle.std.proofs.Common.{◌≡◌, ◌<◌, ◌≤◌, ℕ, zero, suc, List, [], ◌∷◌, Option, Some, None, refl, ap, arith, length, get_or, is_some, nat_lt, true, false, ◌∙◌}
use Rattle.std.proofs.lemmas.Bool.Decides.{nat_tests}
use Rattle.std.specs.Option.{MatchOption}
use Rattle.mix_tree.specs.Forest.{Forest, none, LabelledTree, forest_of, first_label, first_tree, from}

-- of no trees none is left from any index on
pub from_none : (i : ℕ) → from i none ≡ none
from_none zero = refl
from_none (suc i) = from_none i

-- after the last tree there is none
pub from_past : (ts : List LabelledTree) (i : ℕ) → length ts ≤ i → from i (forest_of ts) ≡ none
from_past [] i h = from_none i
from_past (t ∷ ts) zero h = absurd (omega arith)
from_past (t ∷ ts) (suc i) h = from_past ts i (omega arith)

-- a tree at an index within a list is the first of the trees from that index on
from_within : (ts : List LabelledTree) (i : ℕ) (t : LabelledTree) → i < length ts → t ≡ get_or ts i t → Some t ≡ first_tree (from i (forest_of ts))
from_within [] i t h e = absurd (omega arith)
from_within (u ∷ ts) zero t h e = ap Some e
from_within (u ∷ ts) (suc i) t h e = from_within ts i t (omega arith) e

-- the tree that `get` finds at an index is the first of the trees from there on
pub first_tree-get : (ts : List LabelledTree) (i : ℕ) (found : Option LabelledTree)
    → MatchOption found (length ts ≤ i) (λ t. (i < length ts) × (t ≡ get_or ts i t)) → found ≡ first_tree (from i (forest_of ts))
first_tree-get ts i None h = ap first_tree (sym (from_past ts i h))
  where
    sym : {x y : Forest} → x ≡ y → y ≡ x
    sym e = Rattle.std.proofs.Common.sym e
first_tree-get ts i (Some t) h = from_within ts i t h.0 h.1

-- no index is below 0
no_index : (i : ℕ) → false ≡ nat_lt i 0
no_index i = grind (arith, nat_tests)

-- index 0 is below the length of a list that has a first member
first_index : (n : ℕ) → true ≡ nat_lt 0 (suc n)
first_index n = grind (arith, nat_tests)

-- an index is below a length where the next one is below the next length
later_index : (i n : ℕ) → nat_lt i n ≡ nat_lt (suc i) (suc n)
later_index i n = grind (arith, nat_tests)

-- there is a tree at an index exactly where the list is longer
pub has_place-index : (ts : List LabelledTree) (i : ℕ) → is_some (first_label (from i (forest_of ts))) ≡ nat_lt i (length ts)
has_place-index [] i = ap (λ f. is_some (first_label f)) (from_none i) ∙ no_index i
has_place-index (t ∷ ts) zero = first_index (length ts)
has_place-index (t ∷ ts) (suc i) = has_place-index ts i ∙ later_index i (length ts)
