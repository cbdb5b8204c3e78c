-- Walks along a path's automaton.
use Rattle.std.proofs.Common.{◌≡◌, ◌∙◌, ◌<◌, ◌+◌, ℕ, true, false, List, [], ◌∷◌, ◌++◌, None, refl, sym, ap, subst, append_assoc, length, take, drop, slice_index}
use Rattle.std.specs.Prelude.{IsTrue, is_some, unwrap_or}
use Rattle.std.proofs.lemmas.List.{take-append-drop}
use Rattle.mix_base.proofs.Runs.{take_next}
use Rattle.mix_tree.specs.Forest.{Forest, none, tree, first_label, first_kids, from}
use Rattle.mix_tree.specs.Nodes.{Documents, label_of_first}
use Rattle.mix_tree.specs.Place.{trees_at}
use Rattle.mix_tree.proofs.Places.{trees_at-append}
use Rattle.path_expr.specs.Form.{Form}
use Rattle.path_expr.specs.Description.{Labels, Describes}
use Rattle.path_expr.specs.Matches.{labels_down}
use Rattle.path_auto.specs.Automaton.{Machine, machine_of, Table, table_of, steps, states_after}
use Rattle.path_auto.proofs.Automata.{table_follows}
use Rattle.tree_buffer.specs.declared.spot.Spot.{Spot}
use Rattle.plan_core.specs.declared.plan.Plan.{Plan}
use Rattle.plan_core.specs.PlanMade.{plan_value}
use Rattle.lazy_binding.specs.World.{place_in}
use Rattle.lazy_plan.specs.Bench.{BenchState, ops_of, documents, told, KeepsBench, label_there, IsVisitAlong}
use Rattle.lazy_seek.specs.Seeks.{node_in, HasNone, StandsAt, GivesPlace, LeadsBy}
use Rattle.lazy_seek.proofs.Walks.{told_on, same_trees, child_none}

-- the document of a source below its document node
abbrev pub whole : BenchState → ℕ → Forest
whole st source = tree [] (documents st source) none

-- behind a step on the way there is a node; before one nothing is said
abbrev pub IsOnWay : BenchState → ℕ → List ℕ → List ℕ → Type 0
IsOnWay st source start way = IsTrue (told st) → 0 < length way → HasNone st source (start ++ way) → ⊥

-- the states are those behind the labels on the way
abbrev pub IsAtStates : BenchState → ℕ → List ℕ → List ℕ → Table → ℕ → Type 0
IsAtStates st source start way auto n = IsTrue (told st) → n ≡ states_after (machine_of auto) (labels_down (first_kids (trees_at (whole st source) start)) way)

-- a visit stays one along its path
pub visit_on : (a b : BenchState) → KeepsBench a b → (op : ℕ) (path : Form) → IsVisitAlong (ops_of a) op path → IsVisitAlong (ops_of b) op path
visit_on a b k op path v = subst (λ (p : Plan). IsVisitAlong (plan_value p).ops op path) (sym k.plan) v

-- LABELS ON THE WAY

-- the trees among which the last index of a way counts
deepest : Forest → List ℕ → Forest
deepest f [] = f
deepest f (i ∷ p) = deepest (first_kids (from i f)) p

-- one label more
labels_push : (f : Forest) (p : List ℕ) (k : ℕ) → labels_down f (p ++ k ∷ []) ≡ labels_down f p ++ unwrap_or (first_label (from k (deepest f p))) [] ∷ []
unfolding deepest
labels_push f [] k = refl
labels_push f (i ∷ p) k = ap (λ (x : Labels). unwrap_or (first_label (from i f)) [] ∷ x) (labels_push (first_kids (from i f)) p k)

-- the trees at a place
deepest_is : (g : Forest) (p : List ℕ) (k : ℕ) → trees_at g (p ++ k ∷ []) ≡ from k (deepest (first_kids g) p)
unfolding deepest
deepest_is g [] k = refl
deepest_is g (i ∷ p) k = deepest_is (from i (first_kids g)) p k

-- a label of a node is that of its first tree
label_is : (f : Forest) → unwrap_or (first_label f) [] ≡ label_of_first f
label_is none = refl
label_is (tree label kids rest) = refl

-- one label more, of the node there
pub labels_next : (f : Forest) (q p : List ℕ) (k : ℕ)
    → labels_down (first_kids (trees_at f q)) (p ++ k ∷ []) ≡ labels_down (first_kids (trees_at f q)) p ++ label_of_first (trees_at f (q ++ (p ++ k ∷ []))) ∷ []
labels_next f q p k =
    let g : Forest = trees_at f q in
    labels_push (first_kids g) p k
    ∙ ap (λ (l : List ℕ). labels_down (first_kids g) p ++ l ∷ [])
    (label_is (from k (deepest (first_kids g) p)) ∙ ap label_of_first (sym (deepest_is g p k) ∙ sym (trees_at-append f q (p ++ k ∷ []))))

-- states behind one label more
steps_push : (m : Machine) (n : ℕ) (x : Labels) (l : List ℕ) → steps m n (x ++ l ∷ []) ≡ m.step (steps m n x) l
steps_push m n [] l = refl
steps_push m n (y ∷ x) l = steps_push m (m.step n y) x l

module _ (a b c : BenchState) (k : KeepsBench a b) (k' : KeepsBench b c) (source : ℕ) (at next : Spot) (q p : List ℕ) (i : ℕ) (h : i < length p) (e : place_in b.world source at ≡ q ++ take i p)
    (s : StandsAt b c source (place_in b.world source at ++ slice_index p i ∷ []) next) where
  -- a longer way
  pub way_next : place_in c.world source next ≡ q ++ take (i + 1) p
  way_next = s.place_is ∙ ap (λ r. r ++ slice_index p i ∷ []) e ∙ append_assoc q (take i p) (slice_index p i ∷ []) ∙ ap (λ r. q ++ r) (sym (take_next p i h))

  -- there is a node
  pub way_there : IsOnWay a source q (take (i + 1) p)
  way_there t l n =
      s.there (told_on a b k t)
      (subst (HasNone b source) (sym (ap (λ r. r ++ slice_index p i ∷ []) e ∙ append_assoc q (take i p) (slice_index p i ∷ []) ∙ ap (λ r. q ++ r) (sym (take_next p i h))))
      (same_trees a b k (node_in source (q ++ take (i + 1) p)) ∙ n))

  -- the states behind its label
  pub way_states : (auto : Table) (n : ℕ) (label : List ℕ) → IsAtStates a source q (take i p) auto n → (IsTrue (told c) → label ≡ label_there c source next)
      → IsAtStates a source q (take (i + 1) p) auto ((machine_of auto).step n label)
  way_states auto n label w g t =
      let m : Machine = machine_of auto in
      let x : Labels = labels_down (first_kids (trees_at (whole a source) q)) (take i p) in
      let docs : documents c ≡ documents a = k'.documents ∙ k.documents in
      let here : label ≡ label_of_first (trees_at (whole a source) (q ++ take (i + 1) p)) =
      g (told_on b c k' (told_on a b k t)) ∙ ap (λ (d : Documents). label_of_first (trees_at (tree [] (d source) none) (place_in c.world source next))) docs
      ∙ ap (λ (r : List ℕ). label_of_first (trees_at (whole a source) r)) way_next in
      let last : labels_down (first_kids (trees_at (whole a source) q)) (take (i + 1) p) ≡ x ++ label_of_first (trees_at (whole a source) (q ++ take (i + 1) p)) ∷ [] =
      ap (labels_down (first_kids (trees_at (whole a source) q))) (take_next p i h) ∙ labels_next (whole a source) q (take i p) (slice_index p i)
      ∙ ap (λ (r : List ℕ). x ++ label_of_first (trees_at (whole a source) (q ++ r)) ∷ []) (sym (take_next p i h)) in
      ap (λ (z : ℕ). m.step z label) (w t) ∙ ap (m.step (steps m m.start x)) here ∙ sym (ap (steps m m.start) last ∙ steps_push m m.start x (label_of_first (trees_at (whole a source) (q ++ take (i + 1) p))))

-- where the way breaks off, the path doesn't lead there
pub way_broken : (a b c : BenchState) → KeepsBench a b → (path : Form) (source : ℕ) (at : Spot) (q p : List ℕ) (i : ℕ) → i < length p → place_in b.world source at ≡ q ++ take i p
    → GivesPlace b c source (place_in b.world source at ++ slice_index p i ∷ []) None → IsTrue (told a) → LeadsBy a path source q (q ++ p) → ⊥
way_broken a b c k path source at q p i h e g t l =
    let front : place_in b.world source at ++ slice_index p i ∷ [] ≡ q ++ take (i + 1) p = ap (λ r. r ++ slice_index p i ∷ []) e ∙ append_assoc q (take i p) (slice_index p i ∷ []) ∙ ap (λ r. q ++ r) (sym (take_next p i h)) in
    let none_at : HasNone a source ((q ++ take (i + 1) p) ++ drop (i + 1) p) = child_none a b source (q ++ take (i + 1) p) (drop (i + 1) p) k (subst (HasNone b source) front (g (told_on a b k t))) in
    let all : (q ++ take (i + 1) p) ++ drop (i + 1) p ≡ q ++ p = append_assoc q (take (i + 1) p) (drop (i + 1) p) ∙ ap (λ r. q ++ r) (take-append-drop (i + 1) p) in
    no_place (trees_at (whole a source) (q ++ p)) (subst (HasNone a source) all none_at) l.there
  where
    no_place : (f : Forest) → f ≡ none → is_some (first_label f) ≡ true → ⊥
    no_place f e h = let z : is_some (first_label none) ≡ true = ap (λ g. is_some (first_label g)) (sym e) ∙ h in cc

-- a place with a node
some_place : (f : Forest) → (f ≡ none → ⊥) → is_some (first_label f) ≡ true
some_place none h = absurd (h refl)
some_place (tree label kids rest) h = refl

-- where the states accept, the path leads there
pub way_accepted : (a : BenchState) (path : Form) (source n : ℕ) (q p : List ℕ) → 0 < length p → IsOnWay a source q p → IsAtStates a source q p (table_of path) n
    → (machine_of (table_of path)).accepts n ≡ true → IsTrue (told a) → LeadsBy a path source q (q ++ p)
way_accepted a path source n q p some there states h t = record {
  way = p;
  below = some;
  place = refl;
  there = some_place (trees_at (whole a source) (q ++ p)) (λ e. there t some e);
  described =
      ((table_follows path).accepts (labels_down (first_kids (trees_at (whole a source) q)) p)).0 (sym (ap (machine_of (table_of path)).accepts (states t)) ∙ h);
}

-- and where they don't, it doesn't
pub way_refused : (a : BenchState) (path : Form) (source n : ℕ) (q p : List ℕ) → IsAtStates a source q p (table_of path) n → (machine_of (table_of path)).accepts n ≡ false
    → IsTrue (told a) → LeadsBy a path source q (q ++ p) → ⊥
way_refused a path source n q p states h t l =
    let same : l.way ≡ p = front_same q l.way p l.place in
    let d = ((table_follows path).accepts (labels_down (first_kids (trees_at (whole a source) q)) p)).1 (subst (λ r. Describes path (labels_down (first_kids (trees_at (whole a source) q)) r)) same l.described) in
    let z : true ≡ false = sym d ∙ sym (ap (machine_of (table_of path)).accepts (states t)) ∙ h in cc
  where
    front_same : (q x y : List ℕ) → q ++ x ≡ q ++ y → x ≡ y
    front_same [] x y e = e
    front_same (i ∷ q) x y e = front_same q x y (ap (λ r. drop 1 r) e)
