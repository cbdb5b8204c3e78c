-- The bindings of the visit are the matches of the path.
use Rattle.std.proofs.Common.{◌≡◌, ◌∙◌, inl, inr, ◌<◌, ◌+◌, ℕ, zero, suc, Bool, true, false, cond, IsTrue, List, [], ◌∷◌, ◌++◌, length, append_assoc, refl, sym, ap, subst, arith}
use Rattle.std.specs.Prelude.{Some, is_some, unwrap_or, option_map}
use Rattle.mix_base.specs.Ascents.{Among, Ascending}
use Rattle.mix_base.proofs.Ascents.{among_left, among_right, among_cases, ascending_append}
use Rattle.mix_base.specs.Events.{Event, skip, bind, without_skips}
use Rattle.mix_base.proofs.EventLaws.{bindings_append}
use Rattle.mix_tree.specs.Forest.{Forest, none, tree, first_label, first_kids, from}
use Rattle.mix_tree.specs.Place.{trees_at, has_place, child_place, next_place}
use Rattle.mix_tree.specs.Nodes.{PlaceBefore}
use Rattle.mix_tree.proofs.Kids.{from_none}
use Rattle.mix_tree.proofs.Places.{trees_at_none, trees_at-append}
use Rattle.path_expr.specs.Form.{Form}
use Rattle.path_expr.specs.Description.{Labels, Describes}
use Rattle.path_auto.specs.Automaton.{Machine, steps, states_after, Follows, machine_of, table_of}
use Rattle.path_expr.specs.Matches.{labels_down, LeadsTo}
use Rattle.path_auto.specs.Law.{BindingsAreMatches, VisitsAreMatches}
use Rattle.path_auto.specs.Visit.{place_after, visit}
use Rattle.path_auto.proofs.Automata.{table_follows}

-- a member of a list that holds one place where a test holds, and else none, is that place, and the test holds
among_one : (a : Bool) (x y : List ℕ) → Among y (cond a (x ∷ []) []) → IsTrue a × (y ≡ x)
among_one true x y (inl e) = (refl, e)
among_one true x y (inr h) = absurd h
among_one false x y h = absurd h

-- a member of a list is one of the list that is taken where a test holds, if it does
among_if : (a : Bool) (xs : List (List ℕ)) (y : List ℕ) → IsTrue a → Among y xs → Among y (cond a xs [])
among_if true xs y t h = h
among_if false xs y t h = let f : false ≡ true = t in cc

-- a member of a list that is taken where a test holds is one of the list
among_taken : (a : Bool) (xs : List (List ℕ)) (y : List ℕ) → Among y (cond a xs []) → Among y xs
among_taken true xs y h = h
among_taken false xs y h = absurd h

-- the bindings of an event and others are that event's, where it is one, and those of the others
bindings_first : (a : Bool) (x : List ℕ) (es : List (Event (List ℕ))) → without_skips (cond a (bind x) skip ∷ es) ≡ cond a (x ∷ []) [] ++ without_skips es
bindings_first true x es = refl
bindings_first false x es = refl

-- the bindings of events that are taken where a test holds are the bindings, taken where it holds
bindings_if : (a : Bool) (es : List (Event (List ℕ))) → without_skips (cond a es []) ≡ cond a (without_skips es) []
bindings_if true es = refl
bindings_if false es = refl

-- places below one place are in the order of their ends
before_below : (p u w : List ℕ) → PlaceBefore u w → PlaceBefore (p ++ u) (p ++ w)
before_below [] u w h = h
before_below (x ∷ p) u w h = inr (refl, before_below p u w h)

-- a place stands before those below it
pub before_deeper : (p : List ℕ) (i : ℕ) (r : List ℕ) → PlaceBefore p (p ++ i ∷ r)
before_deeper [] i r = tt
before_deeper (x ∷ p) i r = inr (refl, before_deeper p i r)

-- the place next to a child's is that of the next child
next_place-push : (p : List ℕ) (k : ℕ) → next_place (p ++ k ∷ []) ≡ Some (p ++ (k + 1) ∷ [])
next_place-push [] k = refl
next_place-push (x ∷ []) k = refl
next_place-push (x ∷ y ∷ p) k = ap (option_map (λ q. x ∷ q)) (next_place-push (y ∷ p) k)

-- the place after a child's is that of the next child
after_push : (p : List ℕ) (k : ℕ) → place_after (p ++ k ∷ []) ≡ p ++ (k + 1) ∷ []
after_push p k = ap (λ o. unwrap_or o (p ++ k ∷ [])) (next_place-push p k)

module _ (m : Machine) where
  -- the bindings of the visit of trees, the first of which stands at index k below a place
  abbrev bindings : ℕ → List ℕ → ℕ → Forest → List (List ℕ)
  bindings q p k f = without_skips (visit m q (p ++ k ∷ []) f)

  -- the bindings at a tree: its own, those below it, and those after it
  bindings_tree : (q : ℕ) (p : List ℕ) (k : ℕ) (x : List ℕ) (kids later : Forest)
      → bindings q p k (tree x kids later)
      ≡ cond (m.accepts (m.step q x)) ((p ++ k ∷ []) ∷ []) []
      ++ (cond (m.goes_on (m.step q x)) (bindings (m.step q x) (p ++ k ∷ []) 0 kids) [] ++ bindings q p (k + 1) later)
  bindings_tree q p k x kids later =
      let at : List ℕ = p ++ k ∷ [] in
      let deep : List (Event (List ℕ)) = cond (m.goes_on (m.step q x)) (visit m (m.step q x) (child_place at) kids) [] in
      bindings_first (m.accepts (m.step q x)) at (deep ++ visit m q (place_after at) later)
      ∙ ap (λ z. cond (m.accepts (m.step q x)) (at ∷ []) [] ++ z)
      (bindings_append deep (visit m q (place_after at) later)
      ∙ ap (λ z. z ++ without_skips (visit m q (place_after at) later)) (bindings_if (m.goes_on (m.step q x)) (visit m (m.step q x) (child_place at) kids))
      ∙ ap (λ l. cond (m.goes_on (m.step q x)) (bindings (m.step q x) at 0 kids) [] ++ without_skips (visit m q l later)) (after_push p k))

  -- the machine accepts the labels on the way down from trees, to the tree at index i and below it
  abbrev Accepts : ℕ → Forest → ℕ → List ℕ → Type 0
  Accepts q none i r = ⊥
  Accepts q (tree x kids later) (suc i) r = Accepts q later i r
  Accepts q (tree x kids later) zero [] = IsTrue (m.accepts (m.step q x))
  Accepts q (tree x kids later) zero (j ∷ r) = Accepts (m.step q x) kids j r

  -- a place of a binding: below the place, from the index on, and accepted
  abbrev IsBinding : ℕ → List ℕ → ℕ → Forest → List ℕ → Type 0
  IsBinding q p k f y = (i : ℕ) × (r : List ℕ) × (y ≡ p ++ (k + i) ∷ r) × Accepts q f i r

  -- each binding of the visit is at a place to which the machine accepts the labels
  binding_is : (q : ℕ) (p : List ℕ) (k : ℕ) (f : Forest) (y : List ℕ) → Among y (bindings q p k f) → IsBinding q p k f y
  binding_is q p k none y h = absurd h
  binding_is q p k (tree x kids later) y c =
      elim (among_cases own (deep ++ rest) y (subst (λ z. Among y z) (bindings_tree q p k x kids later) c)) [
        | inl a ↦ here (among_one (m.accepts (m.step q x)) (p ++ k ∷ []) y a)
        | inr a ↦ elim (among_cases deep rest y a) [
          | inl d ↦ below (binding_is (m.step q x) (p ++ k ∷ []) 0 kids y (among_taken (m.goes_on (m.step q x)) (bindings (m.step q x) (p ++ k ∷ []) 0 kids) y d))
          | inr d ↦ after (binding_is q p (k + 1) later y d)
        ]
      ]
    where
      own : List (List ℕ)
      own = cond (m.accepts (m.step q x)) ((p ++ k ∷ []) ∷ []) []

      deep : List (List ℕ)
      deep = cond (m.goes_on (m.step q x)) (bindings (m.step q x) (p ++ k ∷ []) 0 kids) []

      rest : List (List ℕ)
      rest = bindings q p (k + 1) later

      here : IsTrue (m.accepts (m.step q x)) × (y ≡ p ++ k ∷ []) → IsBinding q p k (tree x kids later) y
      here (t, e) = let n : k ≡ k + 0 = omega arith in (0, [], e ∙ ap (λ i. p ++ i ∷ []) n, t)

      below : IsBinding (m.step q x) (p ++ k ∷ []) 0 kids y → IsBinding q p k (tree x kids later) y
      below (i, r, e, t) =
          let n : k ≡ k + 0 = omega arith in
          let j : 0 + i ≡ i = omega arith in
          (0, i ∷ r, e ∙ ap (λ a. (p ++ k ∷ []) ++ a ∷ r) j ∙ append_assoc p (k ∷ []) (i ∷ r) ∙ ap (λ a. p ++ a ∷ i ∷ r) n, t)

      after : IsBinding q p (k + 1) later y → IsBinding q p k (tree x kids later) y
      after (i, r, e, t) = let n : (k + 1) + i ≡ k + suc i = omega arith in (suc i, r, e ∙ ap (λ a. p ++ a ∷ r) n, t)

  -- the bindings of the visit ascend
  ascends : (q : ℕ) (p : List ℕ) (k : ℕ) (f : Forest) → Ascending PlaceBefore (bindings q p k f)
  ascends q p k none = tt
  ascends q p k (tree x kids later) =
      subst (Ascending PlaceBefore) (sym (bindings_tree q p k x kids later))
      (ascending_append PlaceBefore own (deep ++ rest) (own_ascends (m.accepts (m.step q x)))
      (ascending_append PlaceBefore deep rest (deep_ascends (m.goes_on (m.step q x)) (ascends (m.step q x) (p ++ k ∷ []) 0 kids)) (ascends q p (k + 1) later) deep_first)
      own_first)
    where
      own : List (List ℕ)
      own = cond (m.accepts (m.step q x)) ((p ++ k ∷ []) ∷ []) []

      deep : List (List ℕ)
      deep = cond (m.goes_on (m.step q x)) (bindings (m.step q x) (p ++ k ∷ []) 0 kids) []

      rest : List (List ℕ)
      rest = bindings q p (k + 1) later

      own_ascends : (a : Bool) → Ascending PlaceBefore (cond a ((p ++ k ∷ []) ∷ []) [])
      own_ascends true = (tt, tt)
      own_ascends false = tt

      deep_ascends : (a : Bool) → Ascending PlaceBefore (bindings (m.step q x) (p ++ k ∷ []) 0 kids) → Ascending PlaceBefore (cond a (bindings (m.step q x) (p ++ k ∷ []) 0 kids) [])
      deep_ascends true h = h
      deep_ascends false h = tt

      in_deep : (y : List ℕ) → Among y deep → IsBinding (m.step q x) (p ++ k ∷ []) 0 kids y
      in_deep y c = binding_is (m.step q x) (p ++ k ∷ []) 0 kids y (among_taken (m.goes_on (m.step q x)) (bindings (m.step q x) (p ++ k ∷ []) 0 kids) y c)

      sibling_later : (u : List ℕ) (y : List ℕ) → Among y rest → PlaceBefore (p ++ k ∷ u) y
      sibling_later u y c =
          let w = binding_is q p (k + 1) later y c in
          let n : k < (k + 1) + w.0 = omega arith in
          subst (PlaceBefore (p ++ k ∷ u)) (sym w.2) (before_below p (k ∷ u) (((k + 1) + w.0) ∷ w.1) (inl n))

      deep_first : (y z : List ℕ) → Among y deep → Among z rest → PlaceBefore y z
      deep_first y z c d =
          let w = in_deep y c in
          subst (λ l. PlaceBefore l z) (sym (w.2 ∙ append_assoc p (k ∷ []) ((0 + w.0) ∷ w.1))) (sibling_later ((0 + w.0) ∷ w.1) z d)

      own_first : (y z : List ℕ) → Among y own → Among z (deep ++ rest) → PlaceBefore y z
      own_first y z c d =
          let e = (among_one (m.accepts (m.step q x)) (p ++ k ∷ []) y c).1 in
          subst (λ l. PlaceBefore l z) (sym e) (elim (among_cases deep rest z d) [
            | inl a ↦ (let w = in_deep z a in subst (PlaceBefore (p ++ k ∷ [])) (sym w.2) (before_deeper (p ++ k ∷ []) (0 + w.0) w.1))
            | inr a ↦ sibling_later [] z a
          ])

  -- the machine accepts the labels on the way
  accepted : (q : ℕ) (f : Forest) (i : ℕ) (r : List ℕ) → Accepts q f i r → IsTrue (m.accepts (steps m q (labels_down f (i ∷ r))))
  accepted q none i r h = absurd h
  accepted q (tree x kids later) (suc i) r h = accepted q later i r h
  accepted q (tree x kids later) zero [] h = h
  accepted q (tree x kids later) zero (j ∷ r) h = accepted (m.step q x) kids j r h

  -- where the machine accepts down to a place, there is a tree at that place
  there_is : (q : ℕ) (f : Forest) (i : ℕ) (r : List ℕ) → Accepts q f i r → is_some (first_label (trees_at (from i f) r)) ≡ true
  there_is q none i r h = absurd h
  there_is q (tree x kids later) (suc i) r h = there_is q later i r h
  there_is q (tree x kids later) zero [] h = refl
  there_is q (tree x kids later) zero (j ∷ r) h = there_is (m.step q x) kids j r h

  -- where there is the place, and the labels on the way are accepted
  accepts_there : (q : ℕ) (f : Forest) (i : ℕ) (r : List ℕ) → is_some (first_label (trees_at (from i f) r)) ≡ true
      → IsTrue (m.accepts (steps m q (labels_down f (i ∷ r)))) → Accepts q f i r
  accepts_there q none i r e h =
      let nothing : trees_at (from i none) r ≡ none = ap (λ f. trees_at f r) (from_none i) ∙ trees_at_none r in
      let f : false ≡ true = sym (ap (λ f. is_some (first_label f)) nothing) ∙ e in
      cc
  accepts_there q (tree x kids later) (suc i) r e h = accepts_there q later i r e h
  accepts_there q (tree x kids later) zero [] e h = h
  accepts_there q (tree x kids later) zero (j ∷ r) e h = accepts_there (m.step q x) kids j r e h

  -- steps by one list of labels after another are steps by the first and then by the second
  steps_append : (n : ℕ) (x y : Labels) → steps m n (x ++ y) ≡ steps m (steps m n x) y
  steps_append n [] y = refl
  steps_append n (l ∷ x) y = steps_append (m.step n l) x y

  -- states that some list of labels leads to
  abbrev Reached : ℕ → Type 0
  Reached q = (x : Labels) × (states_after m x ≡ q)

  -- the state one label after a reached state is reached too
  reached_step : (q : ℕ) (l : List ℕ) → Reached q → Reached (m.step q l)
  reached_step q l (x, e) = (x ++ l ∷ [], steps_append m.start x (l ∷ []) ∙ ap (λ n. m.step n l) e)

  module _ (p : Form) (auto : Follows m p) where
    -- where a longer list is accepted, the states go on
    goes_further : (q : ℕ) → Reached q → (l : List ℕ) (y : Labels) → IsTrue (m.accepts (steps m q (l ∷ y))) → IsTrue (m.goes_on q)
    goes_further q (x, e) l y h =
        let same : steps m q (l ∷ y) ≡ states_after m (x ++ l ∷ y) = ap (λ n. steps m n (l ∷ y)) (sym e) ∙ sym (steps_append m.start x (l ∷ y)) in
        subst (λ n. IsTrue (m.goes_on n)) e (auto.longer x l y ((auto.accepts (x ++ l ∷ y)).0 (subst (λ n. IsTrue (m.accepts n)) same h)))

    -- each accepted place is a binding
    is_binding : (q : ℕ) → Reached q → (s : List ℕ) (k : ℕ) (f : Forest) (i : ℕ) (r : List ℕ) → Accepts q f i r → Among (s ++ (k + i) ∷ r) (bindings q s k f)
    is_binding q at s k none i r h = absurd h
    is_binding q at s k (tree x kids later) (suc i) r h =
        let n : (k + 1) + i ≡ k + suc i = omega arith in
        let own : List (List ℕ) = cond (m.accepts (m.step q x)) ((s ++ k ∷ []) ∷ []) [] in
        let deep : List (List ℕ) = cond (m.goes_on (m.step q x)) (bindings (m.step q x) (s ++ k ∷ []) 0 kids) [] in
        let y : List ℕ = s ++ (k + suc i) ∷ r in
        let later_has : Among (s ++ (k + suc i) ∷ r) (bindings q s (k + 1) later) =
        subst (λ a. Among (s ++ a ∷ r) (bindings q s (k + 1) later)) n (is_binding q at s (k + 1) later i r h) in
        subst (λ z. Among y z) (sym (bindings_tree q s k x kids later))
        (among_right own (deep ++ bindings q s (k + 1) later) y (among_right deep (bindings q s (k + 1) later) y later_has))
    is_binding q at s k (tree x kids later) zero [] h =
        let n : k ≡ k + 0 = omega arith in
        let own : List (List ℕ) = (s ++ k ∷ []) ∷ [] in
        let deep : List (List ℕ) = cond (m.goes_on (m.step q x)) (bindings (m.step q x) (s ++ k ∷ []) 0 kids) [] in
        subst (λ a. Among (s ++ a ∷ []) (bindings q s k (tree x kids later))) n
        (subst (λ z. Among (s ++ k ∷ []) z) (sym (bindings_tree q s k x kids later))
        (among_left (cond (m.accepts (m.step q x)) own []) (deep ++ bindings q s (k + 1) later) (s ++ k ∷ [])
        (among_if (m.accepts (m.step q x)) own (s ++ k ∷ []) h (inl refl))))
    is_binding q at s k (tree x kids later) zero (j ∷ r) h =
        let n : k ≡ k + 0 = omega arith in
        let i : 0 + j ≡ j = omega arith in
        let st : ℕ = m.step q x in
        let own : List (List ℕ) = cond (m.accepts st) ((s ++ k ∷ []) ∷ []) [] in
        let kids_hold : List (List ℕ) = bindings st (s ++ k ∷ []) 0 kids in
        let on : IsTrue (m.goes_on (m.step q x)) = goes_further st (reached_step q x at) (unwrap_or (first_label (from j kids)) []) (labels_down (first_kids (from j kids)) r) (accepted st kids j r h) in
        let same : (s ++ k ∷ []) ++ (0 + j) ∷ r ≡ s ++ (k + 0) ∷ j ∷ r =
        ap (λ a. (s ++ k ∷ []) ++ a ∷ r) i ∙ append_assoc s (k ∷ []) (j ∷ r) ∙ ap (λ a. s ++ a ∷ j ∷ r) n in
        let y : List ℕ = s ++ (k + 0) ∷ j ∷ r in
        let below : Among (s ++ (k + 0) ∷ j ∷ r) (bindings (m.step q x) (s ++ k ∷ []) 0 kids) = subst (λ z. Among z kids_hold) same (is_binding st (reached_step q x at) (s ++ k ∷ []) 0 kids j r h) in
        subst (λ z. Among y z) (sym (bindings_tree q s k x kids later))
        (among_right own (cond (m.goes_on st) kids_hold [] ++ bindings q s (k + 1) later) y
        (among_left (cond (m.goes_on st) kids_hold []) (bindings q s (k + 1) later) y (among_if (m.goes_on st) kids_hold y on below)))

    -- a binding of the visit is a match
    match_of : (f : Forest) (start y : List ℕ) → IsBinding m.start start 0 (first_kids (trees_at f start)) y → LeadsTo p f start y
    match_of f start y (i, r, e, h) =
        let n : 0 + i ≡ i = omega arith in
        let at : y ≡ start ++ i ∷ r = e ∙ ap (λ a. start ++ a ∷ r) n in
        record {
          way = i ∷ r;
          below = omega arith;
          place = sym at;
          there = ap (has_place f) at ∙ ap (λ g. is_some (first_label g)) (trees_at-append f start (i ∷ r)) ∙ there_is m.start (first_kids (trees_at f start)) i r h;
          described = (auto.accepts (labels_down (first_kids (trees_at f start)) (i ∷ r))).0 (accepted m.start (first_kids (trees_at f start)) i r h);
        }

    -- a match is a binding of the visit
    of_match : (f : Forest) (start y way : List ℕ) → 0 < length way → start ++ way ≡ y → has_place f y ≡ true → Describes p (labels_down (first_kids (trees_at f start)) way)
        → Among y (bindings m.start start 0 (first_kids (trees_at f start)))
    of_match f start y [] some e there d = absurd (omega arith)
    of_match f start y (i ∷ r) some e there d =
        let n : 0 + i ≡ i = omega arith in
        let kids : Forest = first_kids (trees_at f start) in
        let here : is_some (first_label (trees_at (from i (first_kids (trees_at f start))) r)) ≡ true =
        sym (ap (λ g. is_some (first_label g)) (trees_at-append f start (i ∷ r))) ∙ ap (has_place f) e ∙ there in
        subst (λ z. Among z (bindings m.start start 0 kids)) (ap (λ a. start ++ a ∷ r) n ∙ e)
        (is_binding m.start ([], refl) start 0 kids i r (accepts_there m.start kids i r here ((auto.accepts (labels_down kids (i ∷ r))).1 d)))

-- the bindings of the visit are the matches of the path
pub bindings_are_matches : BindingsAreMatches
bindings_are_matches m p auto f start = record {
  ascending = ascends m m.start start 0 (first_kids (trees_at f start));
  exactly = λ y.
      ((λ c. match_of m p auto f start y (binding_is m m.start start 0 (first_kids (trees_at f start)) y c)), (λ h. of_match m p auto f start y h.way h.below h.place h.there h.described));
}

-- the bindings of the visit along the automaton of each path are the matches of the path
pub visits_are_matches : VisitsAreMatches
visits_are_matches docs p n = bindings_are_matches (machine_of (table_of p)) p (table_follows p) (tree [] (docs n.source) none) n.place
