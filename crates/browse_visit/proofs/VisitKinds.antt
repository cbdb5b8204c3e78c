-- How the trees below the bindings of a visit are laid out.
use Rattle.std.proofs.Common.{◌≡◌, inl, inr, ℕ, zero, suc, ◌+◌, true, false, cond, IsTrue, List, [], ◌∷◌, ◌++◌, refl, sym, ap, subst, ◌∙◌, arith}
use Rattle.std.specs.Prelude.{Bool, Option, Some, unwrap_or, option_map}
use Rattle.std.specs.List.{flat_map, list_any}
use Rattle.mix_base.specs.Ascents.{Among}
use Rattle.mix_base.proofs.Ascents.{among_left, among_right, among_cases}
use Rattle.mix_base.specs.Events.{Event, skip, bind}
use Rattle.mix_tree.specs.Forest.{Forest, none, tree, first_kids, from, after_first}
use Rattle.mix_tree.specs.Place.{trees_at, child_place, next_place}
use Rattle.mix_tree.proofs.Places.{trees_at-append, trees_at-child}
use Rattle.path_auto.specs.Automaton.{Machine}
use Rattle.path_auto.specs.Visit.{visit, place_after}
use Rattle.browse_visit.specs.Layouts.{Layout, no_trees, a_tree, one_value, any_rows, either, any_trees, IsLaid, IsNone, EachTree, IsBelow}
use Rattle.browse_visit.specs.Visits.{AreSamples, layouts_found, layouts_below}
use Rattle.plan_core.specs.Beside.{EachBinding}
use Rattle.plan_core.proofs.Bindings.{each_binding, binding_weaker, binding_append}

-- the place next to a child's is that of the next child
next_place-push : (p : List ℕ) (k : ℕ) → next_place (p ++ k ∷ []) ≡ Some (p ++ (k + 1) ∷ [])
next_place-push [] k = refl
next_place-push (x ∷ []) k = refl
next_place-push (x ∷ y ∷ p) k = ap (option_map (λ q. x ∷ q)) (next_place-push (y ∷ p) k)

-- the place after a child's is that of the next child
after_push : (p : List ℕ) (k : ℕ) → place_after (p ++ k ∷ []) ≡ p ++ (k + 1) ∷ []
after_push p k = ap (λ o. unwrap_or o (p ++ k ∷ [])) (next_place-push p k)

-- the trees from an index on in those after the first are those after the first from that index on
from_after : (k : ℕ) (f : Forest) → from k (after_first f) ≡ after_first (from k f)
from_after zero f = refl
from_after (suc k) f = from_after k (after_first f)

-- the trees at the place after a child's are those after the trees at that child's
trees_next : (whole : Forest) (p : List ℕ) (k : ℕ) → trees_at whole (p ++ (k + 1) ∷ []) ≡ after_first (trees_at whole (p ++ k ∷ []))
trees_next whole p k =
    let e : k + 1 ≡ suc k = omega arith in
    trees_at-append whole p ((k + 1) ∷ [])
    ∙ ap (λ (n : ℕ). from n (first_kids (trees_at whole p))) e
    ∙ from_after k (first_kids (trees_at whole p))
    ∙ ap after_first (sym (trees_at-append whole p (k ∷ [])))

-- a layout is in its own list where it is taken
among_taken : (a : Bool) (g : Layout) → IsTrue a → Among g (cond a (g ∷ []) [])
among_taken true g h = inl refl
among_taken false g h = let f : false ≡ true = h in cc

-- where nothing is taken, only the first list is left
only_own : (a : Bool) (own : List Layout) (g : Layout) → Among g (own ++ (cond a [] [] ++ [])) → Among g own
only_own true own g h = elim (among_cases own [] g h) [ inl i ↦ i | inr i ↦ absurd i ]
only_own false own g h = elim (among_cases own [] g h) [ inl i ↦ i | inr i ↦ absurd i ]

-- what is found in two lists, taken twice, is in the two lists
only_once : (own taken : List Layout) (g : Layout) → Among g (own ++ (taken ++ (own ++ taken))) → Among g (own ++ taken)
only_once own taken g h =
    elim (among_cases own (taken ++ (own ++ taken)) g h) [
      | inl i ↦ among_left own taken g i
      | inr i ↦ elim (among_cases taken (own ++ taken) g i) [ inl j ↦ among_right own taken g j | inr j ↦ j ]
    ]

-- what is found below one of these is found below some
among_flat : (f : Layout → List Layout) (gs : List Layout) (g x : Layout) → Among g gs → Among x (f g) → Among x (flat_map f gs)
among_flat f [] g x a h = absurd a
among_flat f (y ∷ gs) g x (inl e) h = among_left (f y) (flat_map f gs) x (subst (λ z. Among x (f z)) e h)
among_flat f (y ∷ gs) g x (inr a) h = among_right (f y) (flat_map f gs) x (among_flat f gs g x a h)

module _ (m : Machine) (labels : List (List ℕ)) (samples : AreSamples m labels) (whole : Forest) where
  -- the trees below a place are laid out by one of these
  abbrev BelowPlace : List Layout → List ℕ → Type 0
  BelowPlace gs place = IsBelow gs (first_kids (trees_at whole place))

  -- trees below a place that have a layout of the first list have one of both lists
  below_left : (gs hs : List Layout) (place : List ℕ) → BelowPlace gs place → BelowPlace (gs ++ hs) place
  below_left gs hs place h = (h.0, among_left gs hs h.0 h.1, h.2)

  -- trees below a place that have a layout of the second list have one of both lists
  below_right : (gs hs : List Layout) (place : List ℕ) → BelowPlace hs place → BelowPlace (gs ++ hs) place
  below_right gs hs place h = (h.0, among_right gs hs h.0 h.1, h.2)

  -- where a child is bound, the trees below it have the layouts of its own
  own_kinds : (q : ℕ) (p : List ℕ) (k : ℕ) (label : List ℕ) (kids rest : Forest) (gs : List Layout) → trees_at whole (p ++ k ∷ []) ≡ tree label kids rest
      → (IsTrue (m.accepts q) → IsBelow gs kids) → EachBinding (BelowPlace gs) (cond (m.accepts q) (bind (p ++ k ∷ [])) skip ∷ [])
  own_kinds q p k label kids rest gs at h =
      (elim (m.accepts q) as (λ w. (IsTrue w → IsBelow gs kids) → EachBinding (BelowPlace gs) (cond w (bind (p ++ k ∷ [])) skip ∷ [])) [
        | true ↦ λ z. (subst (λ (t : Forest). IsBelow gs (first_kids t)) (sym at) (z refl), tt)
        | false ↦ λ z. tt
      ]) h

  -- the trees below what is bound below a child have the layouts that are found there
  deep_kinds : (q : ℕ) (p : List ℕ) (k : ℕ) (label : List ℕ) (kids rest : Forest) (gs : List Layout) → trees_at whole (p ++ k ∷ []) ≡ tree label kids rest
      → ((trees_at whole ((p ++ k ∷ []) ++ 0 ∷ []) ≡ kids) → EachBinding (BelowPlace gs) (visit m q ((p ++ k ∷ []) ++ 0 ∷ []) kids))
      → EachBinding (BelowPlace (cond (m.goes_on q) gs [])) (cond (m.goes_on q) (visit m q (child_place (p ++ k ∷ [])) kids) [])
  deep_kinds q p k label kids rest gs at h =
      let there : EachBinding (BelowPlace gs) (visit m q ((p ++ k ∷ []) ++ 0 ∷ []) kids) = h (trees_at-child whole (p ++ k ∷ []) ∙ ap first_kids at) in
      elim (m.goes_on q) as (λ w. EachBinding (BelowPlace (cond w gs [])) (cond w (visit m q (child_place (p ++ k ∷ [])) kids) [])) [ true ↦ there | false ↦ tt ]

  -- the trees below what is bound at a child, below it and after it have the layouts found of each
  tree_kinds : (q : ℕ) (p : List ℕ) (k : ℕ) (label : List ℕ) (kids rest : Forest) (own deep later : List Layout) → trees_at whole (p ++ k ∷ []) ≡ tree label kids rest
      → (IsTrue (m.accepts (m.step q label)) → IsBelow own kids)
      → ((trees_at whole ((p ++ k ∷ []) ++ 0 ∷ []) ≡ kids) → EachBinding (BelowPlace deep) (visit m (m.step q label) ((p ++ k ∷ []) ++ 0 ∷ []) kids))
      → ((trees_at whole (p ++ (k + 1) ∷ []) ≡ rest) → EachBinding (BelowPlace later) (visit m q (p ++ (k + 1) ∷ []) rest))
      → EachBinding (BelowPlace (own ++ (cond (m.goes_on (m.step q label)) deep [] ++ later))) (visit m q (p ++ k ∷ []) (tree label kids rest))
  tree_kinds q p k label kids rest own deep later at h d l =
      let taken : List Layout = cond (m.goes_on (m.step q label)) deep [] in
      let gs : List Layout = own ++ (cond (m.goes_on (m.step q label)) deep [] ++ later) in
      let here : List (Event (List ℕ)) = cond (m.accepts (m.step q label)) (bind (p ++ k ∷ [])) skip ∷ [] in
      let down : List (Event (List ℕ)) = cond (m.goes_on (m.step q label)) (visit m (m.step q label) (child_place (p ++ k ∷ [])) kids) [] in
      binding_append (BelowPlace gs) here (down ++ visit m q (place_after (p ++ k ∷ [])) rest)
      (binding_weaker (BelowPlace own) (BelowPlace gs) (λ x b. below_left own (taken ++ later) x b) here (own_kinds (m.step q label) p k label kids rest own at h))
      (binding_append (BelowPlace gs) down (visit m q (place_after (p ++ k ∷ [])) rest)
      (binding_weaker (BelowPlace taken) (BelowPlace gs) (λ x b. below_right own (taken ++ later) x (below_left taken later x b)) down (deep_kinds (m.step q label) p k label kids rest deep at d))
      (subst (λ (z : List ℕ). EachBinding (BelowPlace gs) (visit m q z rest)) (sym (after_push p k))
      (binding_weaker (BelowPlace later) (BelowPlace gs) (λ x b. below_right own (taken ++ later) x (below_right taken later x b)) (visit m q (p ++ (k + 1) ∷ []) rest)
      (l (trees_next whole p k ∙ ap after_first at)))))

  -- of no trees, nothing is bound, so all that is bound has any layouts
  nothing_found : (q : ℕ) (gs : List Layout) (at : List ℕ) (f : Forest) → IsNone f → EachBinding (BelowPlace gs) (visit m q at f)
  nothing_found q gs at none h = tt
  nothing_found q gs at (tree label kids rest) h = absurd h

  -- where a label leads to a state that accepts, one of the labels among which it is does
  accepted_any : (q : ℕ) (x : List ℕ) (ls : List (List ℕ)) → Among x ls → IsTrue (m.accepts (m.step q x)) → IsTrue (list_any (λ l. m.accepts (m.step q l)) ls)
  accepted_any q x [] a h = absurd a
  accepted_any q x (l ∷ ls) (inl e) h = (let t : IsTrue (m.accepts (m.step q l)) = subst (λ (z : List ℕ). IsTrue (m.accepts (m.step q z))) e h in rw t refl)
  accepted_any q x (l ∷ ls) (inr a) h =
      let t = accepted_any q x ls a h in
      elim (m.accepts (m.step q l)) as (λ w. IsTrue (Rattle.std.specs.Prelude.◌||◌ w (list_any (λ l. m.accepts (m.step q l)) ls))) [ true ↦ refl | false ↦ t ]

  -- the layouts of the trees below the bindings of a visit of rows, by a row's label and layout
  abbrev rows_found : ℕ → List ℕ → Layout → List Layout
  rows_found q label kids = cond (m.accepts (m.step q label)) (kids ∷ []) [] ++ cond (m.goes_on (m.step q label)) (layouts_found m labels (m.step q label) kids) []

  -- the trees below the bindings of a visit of rows have the layouts that are found
  rows_kinds : (q : ℕ) (label : List ℕ) (g : Layout)
      → ((p : List ℕ) (k : ℕ) (f : Forest) → trees_at whole (p ++ k ∷ []) ≡ f → IsLaid g f → EachBinding (BelowPlace (layouts_found m labels (m.step q label) g)) (visit m (m.step q label) (p ++ k ∷ []) f))
      → (p : List ℕ) (k : ℕ) (f : Forest) → trees_at whole (p ++ k ∷ []) ≡ f → EachTree label (IsLaid g) f → EachBinding (BelowPlace (rows_found q label g)) (visit m q (p ++ k ∷ []) f)
  rows_kinds q label g each p k none at h = tt
  rows_kinds q label g each p k (tree l kids rest) at h =
      let own : List Layout = cond (m.accepts (m.step q label)) (g ∷ []) [] in
      let deep : List Layout = layouts_found m labels (m.step q label) g in
      let taken : List Layout = cond (m.goes_on (m.step q label)) (layouts_found m labels (m.step q label) g) [] in
      let first : trees_at whole (p ++ k ∷ []) ≡ tree label kids rest = at ∙ ap (λ (z : List ℕ). tree z kids rest) h.0 in
      let all = own ++ (taken ++ (own ++ taken)) in
      binding_weaker (BelowPlace (own ++ (taken ++ (own ++ taken)))) (BelowPlace (own ++ taken)) (λ x b. (b.0, only_once own taken b.0 b.1, b.2)) (visit m q (p ++ k ∷ []) (tree l kids rest))
      (subst (λ (z : List ℕ). EachBinding (BelowPlace all) (visit m q (p ++ k ∷ []) (tree z kids rest))) (sym h.0)
      (tree_kinds q p k label kids rest own deep (own ++ taken) first
      (λ t. (g, among_taken (m.accepts (m.step q label)) g t, h.1))
      (λ e. each (p ++ k ∷ []) 0 kids e h.1)
      (λ e. rows_kinds q label g each p (k + 1) rest e h.2)))

  -- the trees below the bindings of a visit of trees that are laid out in a way have the layouts found of it
  pub visit_kinds : (g : Layout) (q : ℕ) (p : List ℕ) (k : ℕ) (f : Forest) → trees_at whole (p ++ k ∷ []) ≡ f → IsLaid g f → EachBinding (BelowPlace (layouts_found m labels q g)) (visit m q (p ++ k ∷ []) f)
  visit_kinds no_trees q p k f at h = nothing_found q [] (p ++ k ∷ []) f h
  visit_kinds (a_tree label kids rest) q p k none at h = absurd h
  visit_kinds (a_tree label kids rest) q p k (tree l ks r) at h =
      let first : trees_at whole (p ++ k ∷ []) ≡ tree label ks r = at ∙ ap (λ (z : List ℕ). tree z ks r) h.0 in
      subst (λ (z : List ℕ). EachBinding (BelowPlace (layouts_found m labels q (a_tree label kids rest))) (visit m q (p ++ k ∷ []) (tree z ks r))) (sym h.0)
      (tree_kinds q p k label ks r (cond (m.accepts (m.step q label)) (kids ∷ []) []) (layouts_found m labels (m.step q label) kids) (layouts_found m labels q rest) first
      (λ t. (kids, among_taken (m.accepts (m.step q label)) kids t, h.1))
      (λ e. visit_kinds kids (m.step q label) (p ++ k ∷ []) 0 ks e h.1)
      (λ e. visit_kinds rest q p (k + 1) r e h.2))
  visit_kinds one_value q p k none at h = absurd h
  visit_kinds one_value q p k (tree l ks r) at h =
      let own : List Layout = cond (list_any (λ l. m.accepts (m.step q l)) labels) (no_trees ∷ []) [] in
      let s = samples l in
      binding_weaker (BelowPlace (own ++ (cond (m.goes_on (m.step q l)) [] [] ++ []))) (BelowPlace own) (λ x b. (b.0, only_own (m.goes_on (m.step q l)) own b.0 b.1, b.2)) (visit m q (p ++ k ∷ []) (tree l ks r))
      (tree_kinds q p k l ks r own [] [] at
      (λ t. (no_trees, among_taken (list_any (λ l. m.accepts (m.step q l)) labels) no_trees (accepted_any q s.0 labels s.1 (subst (λ (z : ℕ). IsTrue (m.accepts z)) (s.2 q) t)), h.0))
      (λ e. nothing_found (m.step q l) [] ((p ++ k ∷ []) ++ 0 ∷ []) ks h.0)
      (λ e. nothing_found q [] (p ++ (k + 1) ∷ []) r h.1))
  visit_kinds (any_rows label kids) q p k f at h = rows_kinds q label kids (λ p k f e s. visit_kinds kids (m.step q label) p k f e s) p k f at h
  visit_kinds (either a b) q p k f at (inl h) =
      binding_weaker (BelowPlace (layouts_found m labels q a)) (BelowPlace (layouts_found m labels q (either a b))) (λ x w. below_left (layouts_found m labels q a) (layouts_found m labels q b) x w) (visit m q (p ++ k ∷ []) f) (visit_kinds a q p k f at h)
  visit_kinds (either a b) q p k f at (inr h) =
      binding_weaker (BelowPlace (layouts_found m labels q b)) (BelowPlace (layouts_found m labels q (either a b))) (λ x w. below_right (layouts_found m labels q a) (layouts_found m labels q b) x w) (visit m q (p ++ k ∷ []) f) (visit_kinds b q p k f at h)
  visit_kinds any_trees q p k f at h = each_binding (BelowPlace (any_trees ∷ [])) (λ b. (any_trees, inl refl, tt)) (visit m q (p ++ k ∷ []) f)

  -- the trees below the bindings of a visit below a node have the layouts that are found
  pub below_kinds : (gs : List Layout) (start : List ℕ) → IsBelow gs (first_kids (trees_at whole start)) → EachBinding (BelowPlace (layouts_below m labels gs)) (visit m m.start (child_place start) (first_kids (trees_at whole start)))
  below_kinds gs start h =
      let f : Forest = first_kids (trees_at whole start) in
      binding_weaker (BelowPlace (layouts_found m labels m.start h.0)) (BelowPlace (layouts_below m labels gs)) (λ x b. (b.0, among_flat (layouts_found m labels m.start) gs h.0 b.0 h.1 b.1, b.2)) (visit m m.start (child_place start) f)
      (visit_kinds h.0 m.start start 0 f (trees_at-child whole start) h.2)
