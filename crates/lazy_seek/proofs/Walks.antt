-- Walks of several steps.
use Rattle.std.proofs.Common.{◌≡◌, ◌∙◌, ◌<◌, ◌≤◌, ◌+◌, ℕ, zero, suc, List, [], ◌∷◌, ◌++◌, Some, None, option_map, refl, sym, ap, subst, arith, add-one, length, take, drop, slice_index}
use Rattle.std.specs.Prelude.{IsTrue, Result}
use Rattle.std.proofs.lemmas.List.{take-append-drop}
use Rattle.mix_base.proofs.Choices.{some_is}
use Rattle.mix_base.proofs.Runs.{take_next}
use Rattle.mix_tree.specs.Forest.{Forest, none, tree, first_kids, after_first, from}
use Rattle.mix_tree.specs.Nodes.{Documents, Node, node_trees}
use Rattle.mix_tree.specs.Place.{trees_at, next_place}
use Rattle.mix_tree.proofs.Kids.{from_none}
use Rattle.mix_tree.proofs.Places.{trees_at-append, trees_at_none}
use Rattle.lxp_core.specs.View.{View}
use Rattle.lxp_core.specs.declared.fault.WalkFault.{WalkFault}
use Rattle.lxp_core.proofs.Causes.{cause_since}
use Rattle.tree_buffer.specs.declared.spot.Spot.{Spot}
use Rattle.plan_core.specs.declared.plan.Plan.{Plan}
use Rattle.plan_core.specs.PlanMade.{plan_value}
use Rattle.lazy_binding.specs.Cursors.{IsRead}
use Rattle.lazy_binding.specs.World.{place_in}
use Rattle.lazy_plan.specs.declared.bench.Bench.{Bench}
use Rattle.lazy_plan.specs.Bench.{BenchState, state_of, IsBenchOf, ops_of, documents, told, IsSpotAt, KeepsBench, BenchRan, AsksAtMost, GivesChild, GivesNext}
use Rattle.lazy_steps.specs.Steps.{HasCause}
use Rattle.lazy_plan.proofs.Benches.{keeps_on}
use Rattle.lazy_seek.specs.Reach.{reach}
use Rattle.lazy_seek.specs.Seeks.{Sought, node_in, HasNone, StandsAt, GivesPlace}

-- PLACES

-- a list that ends behind an index has no tree at a later one
from_behind : (i j : ℕ) (f : Forest) → after_first (from i f) ≡ none → i < j → from j f ≡ none
from_behind i zero f e h = absurd (omega arith)
from_behind zero (suc j) f e h = ap (from j) e ∙ from_none j
from_behind (suc i) (suc j) f e h = from_behind i j (after_first f) e (omega arith)

-- the children of a node
child_trees : (f : Forest) (q : List ℕ) (i : ℕ) → trees_at f (q ++ i ∷ []) ≡ from i (first_kids (trees_at f q))
child_trees f q i = trees_at-append f q (i ∷ [])

-- a node without children has none at an index
no_child : (f : Forest) (q : List ℕ) (i : ℕ) → first_kids (trees_at f q) ≡ none → trees_at f (q ++ i ∷ []) ≡ none
no_child f q i e = child_trees f q i ∙ ap (from i) e ∙ from_none i

-- a node's last child has none behind it
no_later : (f : Forest) (q : List ℕ) (i j : ℕ) → i < j → after_first (trees_at f (q ++ i ∷ [])) ≡ none → trees_at f (q ++ j ∷ []) ≡ none
no_later f q i j h e = child_trees f q j ∙ from_behind i j (first_kids (trees_at f q)) (ap after_first (sym (child_trees f q i)) ∙ e) h

-- there is nothing below where there is nothing
none_below : (f : Forest) (q r : List ℕ) → trees_at f q ≡ none → trees_at f (q ++ r) ≡ none
none_below f q r e = trees_at-append f q r ∙ ap (λ g. trees_at g r) e ∙ trees_at_none r

-- the place behind one with a last index
next_place-push : (p : List ℕ) (k : ℕ) → next_place (p ++ k ∷ []) ≡ Some (p ++ (k + 1) ∷ [])
next_place-push [] k = refl
next_place-push (i ∷ []) k = refl
next_place-push (i ∷ j ∷ p) k = ap (option_map (λ q. i ∷ q)) (next_place-push (j ∷ p) k)

-- STATES

-- what is told stays told
pub told_on : (a b : BenchState) → KeepsBench a b → IsTrue (told a) → IsTrue (told b)
told_on a b k t = k.told ∙ t

-- the documents are the same
pub same_trees : (a b : BenchState) → KeepsBench a b → (n : Node) → node_trees (documents b) n ≡ node_trees (documents a) n
same_trees a b k n = ap (λ (d : Documents). node_trees d n) k.documents

-- a place that a later state lacks is lacking
none_before : (a b : BenchState) → KeepsBench a b → (source : ℕ) (place : List ℕ) → HasNone b source place → HasNone a source place
none_before a b k source place h = sym (same_trees a b k (node_in source place)) ∙ h

-- a spot stands for the same place
pub spot_on : (a b : BenchState) → KeepsBench a b → (source : ℕ) (x : Spot) → IsSpotAt a source x → IsSpotAt b source x × (place_in b.world source x ≡ place_in a.world source x)
spot_on a b k source x h = let s = k.spots source x h in (s.spot, ap (λ (n : Node). n.place) s.node)

module _ {S : Type 0} {view : S → View} {came_from : S → S → Type 0} (after : (a b c : S) → came_from a b → came_from b c → came_from a c) where
  -- one call behind others
  pub sought_then : (m n k : ℕ) (s t u : S) (b c d : Bench) → Sought view came_from m s b t c → BenchRan view came_from t c u d → AsksAtMost (state_of (view t) c) (state_of (view u) d) n → m + n ≤ k
      → Sought view came_from k s b u d
  sought_then m n k s t u b c d h r a e = record {
    ran = record {
      came = after s t u h.ran.came r.came;
      bench = r.bench;
      kept = keeps_on.twice (state_of (view s) b) (state_of (view t) c) (state_of (view u) d) h.ran.kept r.kept;
    };
    asks = λ x y. (let p = h.asks x y in let q = a (h.ran.kept.told ∙ x) (h.ran.kept.forward ∙ y) in omega (arith, p, q, e));
  }

-- a call alone
pub sought_first : {S : Type 0} {view : S → View} {came_from : S → S → Type 0} (n : ℕ) (s t : S) (b c : Bench) → BenchRan view came_from s b t c → AsksAtMost (state_of (view s) b) (state_of (view t) c) n
    → Sought view came_from n s b t c
sought_first n s t b c r a = record { ran = r; asks = a }

-- no call
pub sought_none : {S : Type 0} {view : S → View} {came_from : S → S → Type 0} (same : (a : S) → came_from a a) (s : S) (b : Bench) → IsBenchOf (view s) b → Sought view came_from 0 s b s b
sought_none {view = view} same s b h = record { ran = record { came = same s; bench = h; kept = keeps_on.same (state_of (view s) b) }; asks = λ x y. omega arith }

-- a later call's fault has its cause
pub fault_after : {T : Type 0} (a b : BenchState) (w : View) → KeepsBench a b → (r : Result T WalkFault) → HasCause (ops_of b) b.world.view w r → HasCause (ops_of a) a.world.view w r
fault_after a b w k r h =
    cause_since (IsRead (ops_of b)) (IsRead (ops_of a)) a.world.view b.world.view w (λ s x. subst (λ (p : Plan). IsRead (plan_value p).ops s) k.plan x) k.faults r h

-- STEPS

-- there is no first child
pub down_none : (a b : BenchState) (source : ℕ) (p : Spot) (index : ℕ) → GivesChild a b source p None → IsTrue (told a) → HasNone a source (place_in a.world source p ++ index ∷ [])
down_none a b source p index h t = no_child (tree [] (documents a source) none) (place_in a.world source p) index (h t)

-- there is no next sibling
pub right_none : (a b c : BenchState) (source : ℕ) (at : Spot) (q : List ℕ) (i index : ℕ) → KeepsBench a b → place_in b.world source at ≡ q ++ i ∷ [] → i < index → GivesNext b c source at None
    → IsTrue (told a) → HasNone a source (q ++ index ∷ [])
right_none a b c source at q i index k e l h t =
    none_before a b k source (q ++ index ∷ [])
    (no_later (tree [] (documents b source) none) q i index l (ap (λ (r : List ℕ). after_first (trees_at (tree [] (documents b source) none) r)) (sym e) ∙ h (told_on a b k t)))

-- there is a first child
pub down_there : (a b : BenchState) (source : ℕ) (p x : Spot) → GivesChild a b source p (Some x) → IsTrue (told a) → HasNone a source (place_in a.world source p ++ 0 ∷ []) → ⊥
down_there a b source p x h t n = h.some t (sym (child_trees (tree [] (documents a source) none) (place_in a.world source p) 0) ∙ n)

-- behind the trees from an index on
behind_from : (i : ℕ) (f : Forest) → after_first (from i f) ≡ from (suc i) f
behind_from zero f = refl
behind_from (suc i) f = behind_from i (after_first f)

-- there is a next sibling
pub right_there : (a b c : BenchState) (source : ℕ) (at x : Spot) (q : List ℕ) (i : ℕ) → KeepsBench a b → place_in b.world source at ≡ q ++ i ∷ [] → GivesNext b c source at (Some x)
    → IsTrue (told a) → HasNone a source (q ++ (i + 1) ∷ []) → ⊥
right_there a b c source at x q i k e h t n =
    let f : Forest = tree [] (documents b source) none in
    let next : trees_at f (q ++ suc i ∷ []) ≡ none = subst (λ (j : ℕ). trees_at f (q ++ j ∷ []) ≡ none) (add-one i) (same_trees a b k (node_in source (q ++ (i + 1) ∷ [])) ∙ n) in
    h.some (told_on a b k t)
    (ap (λ (r : List ℕ). after_first (trees_at f r)) e ∙ ap after_first (child_trees f q i) ∙ behind_from i (first_kids (trees_at f q)) ∙ sym (child_trees f q (suc i)) ∙ next)

-- the next sibling's place
pub right_place : (b c : BenchState) (source : ℕ) (at next : Spot) (q : List ℕ) (i : ℕ) → place_in b.world source at ≡ q ++ i ∷ [] → Some (place_in c.world source next) ≡ next_place (place_in b.world source at)
    → place_in c.world source next ≡ q ++ (i + 1) ∷ []
right_place b c source at next q i e h = some_is (place_in c.world source next) (q ++ (i + 1) ∷ []) (h ∙ ap next_place e ∙ next_place-push q i)

-- nothing is below a place that is lacking
pub child_none : (a b : BenchState) (source : ℕ) (q r : List ℕ) → KeepsBench a b → HasNone b source q → HasNone a source (q ++ r)
child_none a b source q r k h = none_before a b k source (q ++ r) (none_below (tree [] (documents b source) none) q r h)

-- REACHES

-- one step more
reach_push : (p : List ℕ) (k : ℕ) → reach (p ++ k ∷ []) ≡ reach p + (k + 1)
reach_push [] k = omega arith
reach_push (i ∷ p) k = let h = reach_push p k in omega (arith, h)

-- a front reaches no further
reach_front : (i : ℕ) (p : List ℕ) → reach (take i p) ≤ reach p
reach_front zero p = omega arith
reach_front (suc i) [] = omega arith
reach_front (suc i) (k ∷ p) = let h = reach_front i p in omega (arith, h)

-- the next step
pub reach_next : (p : List ℕ) (i : ℕ) → i < length p → reach (take i p) + (slice_index p i + 1) ≡ reach (take (i + 1) p)
reach_next p i h = sym (ap reach (take_next p i h) ∙ reach_push (take i p) (slice_index p i))

-- is within all
pub reach_within : (p : List ℕ) (i : ℕ) → i < length p → reach (take i p) + (slice_index p i + 1) ≤ reach p
reach_within p i h = let e = reach_next p i h in let f = reach_front (i + 1) p in omega (arith, e, f)

-- a place is lacking where a front of it is
pub place_none : (a b c : BenchState) (source : ℕ) (at : Spot) (p : List ℕ) (i : ℕ) → i < length p → KeepsBench a b → place_in b.world source at ≡ take i p
    → GivesPlace b c source (place_in b.world source at ++ slice_index p i ∷ []) None → IsTrue (told a) → HasNone a source p
place_none a b c source at p i h k e g t =
    let here : HasNone b source (take (i + 1) p) = subst (HasNone b source) (ap (λ q. q ++ slice_index p i ∷ []) e ∙ sym (take_next p i h)) (g (told_on a b k t)) in
    subst (HasNone a source) (take-append-drop (i + 1) p) (child_none a b source (take (i + 1) p) (drop (i + 1) p) k here)

-- there is a node at a longer front
pub place_there : (a b c : BenchState) (source : ℕ) (at next : Spot) (p : List ℕ) (i : ℕ) → i < length p → KeepsBench a b → place_in b.world source at ≡ take i p
    → StandsAt b c source (place_in b.world source at ++ slice_index p i ∷ []) next → IsTrue (told a) → HasNone a source (take (i + 1) p) → ⊥
place_there a b c source at next p i h k e s t n =
    s.there (told_on a b k t) (subst (HasNone b source) (take_next p i h ∙ ap (λ q. q ++ slice_index p i ∷ []) (sym e)) (same_trees a b k (node_in source (take (i + 1) p)) ∙ n))

-- the document node is there
pub top_there : (a : BenchState) (source : ℕ) → HasNone a source [] → ⊥
top_there a source n = cc

-- a longer front
pub place_next : (b c : BenchState) (source : ℕ) (at next : Spot) (p : List ℕ) (i : ℕ) → i < length p → place_in b.world source at ≡ take i p
    → StandsAt b c source (place_in b.world source at ++ slice_index p i ∷ []) next → place_in c.world source next ≡ take (i + 1) p
place_next b c source at next p i h e s = s.place_is ∙ ap (λ q. q ++ slice_index p i ∷ []) e ∙ sym (take_next p i h)
