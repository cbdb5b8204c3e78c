-- Walks below a node.
use Rattle.std.proofs.Common.{◌≡◌, ◌∙◌, ◌<◌, ◌+◌, ℕ, true, List, [], ◌∷◌, ◌++◌, None, refl, sym, ap, subst, arith, append_assoc, length, take, drop, slice_index}
use Rattle.std.specs.Prelude.{IsTrue, is_some}
use Rattle.std.proofs.lemmas.List.{take-append-drop}
use Rattle.mix_base.proofs.Runs.{take_next}
use Rattle.mix_tree.specs.Forest.{Forest, none, tree, first_label}
use Rattle.mix_tree.specs.Place.{trees_at}
use Rattle.mix_tree.proofs.Places.{trees_at-append}
use Rattle.tree_buffer.specs.declared.spot.Spot.{Spot}
use Rattle.lazy_binding.specs.World.{place_in}
use Rattle.lazy_plan.specs.Bench.{BenchState, documents, told, node_at, KeepsBench}
use Rattle.lazy_seek.specs.declared.places.NodeAt.{NodeAt}
use Rattle.lazy_seek.specs.Seeks.{HasNone, GivesPlace}
use Rattle.lazy_seek.proofs.Matching.{IsOnWay}
use Rattle.lazy_seek.proofs.Walks.{told_on, child_none}
use Rattle.lazy_follow.specs.Below.{IsBelowNode}

-- trees that are there have a first label
some_label : (f : Forest) → (f ≡ none → ⊥) → is_some (first_label f) ≡ true
some_label none h = absurd (h refl)
some_label (tree label kids rest) h = refl

-- where no trees are there is no first label
no_label : (f : Forest) → f ≡ none → is_some (first_label f) ≡ true → ⊥
no_label f e h = let z : is_some (first_label none) ≡ true = ap (λ g. is_some (first_label g)) (sym e) ∙ h in cc

-- a place below a node of which it is not said that it is lacking is there
pub below_there : (st : BenchState) (from : NodeAt) (p : List ℕ) → IsOnWay st from.source (place_in st.world from.source from.spot) p → IsTrue (told st)
    → IsBelowNode (documents st) (node_at st from.source from.spot) p
below_there st from [] h t = refl
below_there st from (i ∷ p) h t =
    let q = place_in st.world from.source from.spot in
    let f : Forest = tree [] (documents st from.source) none in
    some_label (trees_at (trees_at f q) (i ∷ p)) (λ e. h t (omega arith) (trees_at-append f q (i ∷ p) ∙ e))

-- a place below a node that is lacking isn't there
pub below_none : (st : BenchState) (from : NodeAt) (p : List ℕ) → 0 < length p → HasNone st from.source (place_in st.world from.source from.spot ++ p)
    → IsBelowNode (documents st) (node_at st from.source from.spot) p → ⊥
below_none st from [] l h = absurd (omega (arith, l))
below_none st from (i ∷ p) l h =
    let q = place_in st.world from.source from.spot in
    let f : Forest = tree [] (documents st from.source) none in
    no_label (trees_at (trees_at f q) (i ∷ p)) (sym (trees_at-append f q (i ∷ p)) ∙ h)

-- where the steps break off the place below isn't there
pub below_broken : (a b c : BenchState) → KeepsBench a b → (from : NodeAt) (at : Spot) (p : List ℕ) (i : ℕ) → i < length p
    → place_in b.world from.source at ≡ place_in a.world from.source from.spot ++ take i p
    → GivesPlace b c from.source (place_in b.world from.source at ++ slice_index p i ∷ []) None → IsTrue (told a)
    → IsBelowNode (documents a) (node_at a from.source from.spot) p → ⊥
below_broken a b c k from at p i h e g t =
    let q = place_in a.world from.source from.spot in
    let front : place_in b.world from.source at ++ slice_index p i ∷ [] ≡ q ++ take (i + 1) p =
    ap (λ r. r ++ slice_index p i ∷ []) e ∙ append_assoc q (take i p) (slice_index p i ∷ []) ∙ ap (λ r. q ++ r) (sym (take_next p i h)) in
    let none_at : HasNone a from.source ((q ++ take (i + 1) p) ++ drop (i + 1) p) =
    child_none a b from.source (q ++ take (i + 1) p) (drop (i + 1) p) k (subst (HasNone b from.source) front (g (told_on a b k t))) in
    let all : (q ++ take (i + 1) p) ++ drop (i + 1) p ≡ q ++ p = append_assoc q (take (i + 1) p) (drop (i + 1) p) ∙ ap (λ r. q ++ r) (take-append-drop (i + 1) p) in
    below_none a from p (omega (arith, h)) (subst (HasNone a from.source) all none_at)
