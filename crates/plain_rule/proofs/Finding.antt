-- The places that are found are the matches of the path.
use Rattle.std.proofs.Common.{◌≡◌, ◌↔◌, ◌∙◌, inl, inr, ◌<◌, ◌+◌, ℕ, zero, suc, Bool, true, false, cond, List, [], ◌∷◌, ◌++◌, length, append_assoc, refl, sym, ap, subst, arith, IsTrue, get_or, drop, add-one, drop-cons}
use Rattle.std.specs.Prelude.{is_some}
use Rattle.mix_base.specs.Ascents.{Among, Ascending}
use Rattle.mix_base.proofs.Ascents.{IsStrict, among_left, among_right, among_cases, ascending_append, same_ascents}
use Rattle.mix_tree.specs.Forest.{Forest, none, tree, LabelledTree, forest_of, first_label, first_kids, from}
use Rattle.mix_tree.specs.Place.{trees_at, has_place}
use Rattle.mix_tree.specs.Nodes.{PlaceBefore}
use Rattle.mix_tree.proofs.Kids.{from_none}
use Rattle.mix_tree.proofs.PlaceOrder.{place_itself, place_both}
use Rattle.mix_tree.proofs.Places.{trees_at_none, trees_at-append}
use Rattle.path_expr.specs.Form.{Form}
use Rattle.path_expr.specs.Description.{Labels, Describes}
use Rattle.path_expr.specs.Matches.{labels_down, LeadsTo, AreMatches}
use Rattle.plain_rule.specs.Found.{Tests, found_in}
use Rattle.plain_rule.proofs.Deciding.{test_of, tests}

-- a member of a list that holds one place where a test holds, and else none, is that place, and the test holds
among_one : (a : Bool) (x y : List ℕ) → Among y (cond a (x ∷ []) []) → (a ≡ true) × (y ≡ x)
among_one true x y (inl e) = (refl, e)
among_one true x y (inr h) = absurd h
among_one false x y h = absurd h

-- the one member of a list that is taken by a test that holds is in the list
one_among : (a : Bool) (x : List ℕ) → a ≡ true → Among x (cond a (x ∷ []) [])
one_among true x h = inl refl
one_among false x h = cc

-- places below one place are in the order of their ends
before_below : (p u w : List ℕ) → PlaceBefore u w → PlaceBefore (p ++ u) (p ++ w)
before_below [] u w h = h
before_below (x ∷ p) u w h = inr (refl, before_below p u w h)

-- a place stands before those below it
before_deeper : (p : List ℕ) (i : ℕ) (r : List ℕ) → PlaceBefore p (p ++ i ∷ r)
before_deeper [] i r = tt
before_deeper (x ∷ p) i r = inr (refl, before_deeper p i r)

-- an index is itself and 0 more
same_index : (k : ℕ) → k ≡ k + 0
same_index k = omega arith

module _ (test : Labels → Bool) where
  -- the test holds of the labels on the way down from trees, to the tree at index i and below it
  abbrev Hits : Labels → Forest → ℕ → List ℕ → Type 0
  Hits above none i r = ⊥
  Hits above (tree x kids later) (suc i) r = Hits above later i r
  Hits above (tree x kids later) zero [] = test (above ++ x ∷ []) ≡ true
  Hits above (tree x kids later) zero (j ∷ r) = Hits (above ++ x ∷ []) kids j r

  -- a place that is found: below the place, from the index on, and hit
  abbrev IsFound : Labels → List ℕ → ℕ → Forest → List ℕ → Type 0
  IsFound above p k f y = (i : ℕ) × (r : List ℕ) × (y ≡ p ++ (k + i) ∷ r) × Hits above f i r

  -- each place that is found lies below the place, and the test holds of the labels on the way
  found_is : (above : Labels) (p : List ℕ) (k : ℕ) (f : Forest) (y : List ℕ) → Among y (found_in test above p k f) → IsFound above p k f y
  found_is above p k none y h = absurd h
  found_is above p k (tree x kids later) y c =
      elim (among_cases own (deep ++ rest) y c) [
        | inl a ↦ here (among_one (test (above ++ x ∷ [])) (p ++ k ∷ []) y a)
        | inr a ↦ elim (among_cases deep rest y a) [
          | inl d ↦ below (found_is (above ++ x ∷ []) (p ++ k ∷ []) 0 kids y d)
          | inr d ↦ later_on (found_is above p (k + 1) later y d)
        ]
      ]
    where
      own : List (List ℕ)
      own = cond (test (above ++ x ∷ [])) ((p ++ k ∷ []) ∷ []) []

      deep : List (List ℕ)
      deep = found_in test (above ++ x ∷ []) (p ++ k ∷ []) 0 kids

      rest : List (List ℕ)
      rest = found_in test above p (k + 1) later

      here : (test (above ++ x ∷ []) ≡ true) × (y ≡ p ++ k ∷ []) → IsFound above p k (tree x kids later) y
      here (t, e) = (0, [], e ∙ ap (λ i. p ++ i ∷ []) (same_index k), t)

      below : IsFound (above ++ x ∷ []) (p ++ k ∷ []) 0 kids y → IsFound above p k (tree x kids later) y
      below (i, r, e, t) =
          let j : 0 + i ≡ i = omega arith in
          (0, i ∷ r, e ∙ ap (λ a. (p ++ k ∷ []) ++ a ∷ r) j ∙ append_assoc p (k ∷ []) (i ∷ r) ∙ ap (λ a. p ++ a ∷ i ∷ r) (same_index k), t)

      later_on : IsFound above p (k + 1) later y → IsFound above p k (tree x kids later) y
      later_on (i, r, e, t) = let n : (k + 1) + i ≡ k + suc i = omega arith in (suc i, r, e ∙ ap (λ a. p ++ a ∷ r) n, t)

  -- the places that are found ascend
  ascends : (above : Labels) (p : List ℕ) (k : ℕ) (f : Forest) → Ascending PlaceBefore (found_in test above p k f)
  ascends above p k none = tt
  ascends above p k (tree x kids later) =
      ascending_append PlaceBefore own (deep ++ rest) (own_ascends (test (above ++ x ∷ [])))
      (ascending_append PlaceBefore deep rest (ascends (above ++ x ∷ []) (p ++ k ∷ []) 0 kids) (ascends above p (k + 1) later) deep_first)
      own_first
    where
      own : List (List ℕ)
      own = cond (test (above ++ x ∷ [])) ((p ++ k ∷ []) ∷ []) []

      deep : List (List ℕ)
      deep = found_in test (above ++ x ∷ []) (p ++ k ∷ []) 0 kids

      rest : List (List ℕ)
      rest = found_in test above p (k + 1) later

      own_ascends : (a : Bool) → Ascending PlaceBefore (cond a ((p ++ k ∷ []) ∷ []) [])
      own_ascends true = (tt, tt)
      own_ascends false = tt

      sibling_later : (u : List ℕ) (y : List ℕ) → Among y rest → PlaceBefore (p ++ k ∷ u) y
      sibling_later u y c =
          let w = found_is above p (k + 1) later y c in
          let n : k < (k + 1) + w.0 = omega arith in
          subst (PlaceBefore (p ++ k ∷ u)) (sym w.2) (before_below p (k ∷ u) (((k + 1) + w.0) ∷ w.1) (inl n))

      deep_first : (y z : List ℕ) → Among y deep → Among z rest → PlaceBefore y z
      deep_first y z c d =
          let w = found_is (above ++ x ∷ []) (p ++ k ∷ []) 0 kids y c in
          subst (λ l. PlaceBefore l z) (sym (w.2 ∙ append_assoc p (k ∷ []) ((0 + w.0) ∷ w.1))) (sibling_later ((0 + w.0) ∷ w.1) z d)

      own_first : (y z : List ℕ) → Among y own → Among z (deep ++ rest) → PlaceBefore y z
      own_first y z c d =
          let e = (among_one (test (above ++ x ∷ [])) (p ++ k ∷ []) y c).1 in
          subst (λ l. PlaceBefore l z) (sym e) (elim (among_cases deep rest z d) [
            | inl a ↦ (let w = found_is (above ++ x ∷ []) (p ++ k ∷ []) 0 kids z a in subst (PlaceBefore (p ++ k ∷ [])) (sym w.2) (before_deeper (p ++ k ∷ []) (0 + w.0) w.1))
            | inr a ↦ sibling_later [] z a
          ])

  -- the test holds of the labels on the way
  hit_on_the_way : (above : Labels) (f : Forest) (i : ℕ) (r : List ℕ) → Hits above f i r → test (above ++ labels_down f (i ∷ r)) ≡ true
  hit_on_the_way above none i r h = absurd h
  hit_on_the_way above (tree x kids later) (suc i) r h = hit_on_the_way above later i r h
  hit_on_the_way above (tree x kids later) zero [] h = h
  hit_on_the_way above (tree x kids later) zero (j ∷ r) h =
      ap test (sym (append_assoc above (x ∷ []) (labels_down kids (j ∷ r)))) ∙ hit_on_the_way (above ++ x ∷ []) kids j r h

  -- where a place is hit, there is a tree at that place
  there_is : (above : Labels) (f : Forest) (i : ℕ) (r : List ℕ) → Hits above f i r → is_some (first_label (trees_at (from i f) r)) ≡ true
  there_is above none i r h = absurd h
  there_is above (tree x kids later) (suc i) r h = there_is above later i r h
  there_is above (tree x kids later) zero [] h = refl
  there_is above (tree x kids later) zero (j ∷ r) h = there_is (above ++ x ∷ []) kids j r h

  -- where there is the place, and the test holds of the labels on the way
  hits_there : (above : Labels) (f : Forest) (i : ℕ) (r : List ℕ) → is_some (first_label (trees_at (from i f) r)) ≡ true
      → test (above ++ labels_down f (i ∷ r)) ≡ true → Hits above f i r
  hits_there above none i r e h =
      let nothing : trees_at (from i none) r ≡ none = ap (λ f. trees_at f r) (from_none i) ∙ trees_at_none r in
      let f : false ≡ true = sym (ap (λ f. is_some (first_label f)) nothing) ∙ e in
      cc
  hits_there above (tree x kids later) (suc i) r e h = hits_there above later i r e h
  hits_there above (tree x kids later) zero [] e h = h
  hits_there above (tree x kids later) zero (j ∷ r) e h =
      hits_there (above ++ x ∷ []) kids j r e (ap test (append_assoc above (x ∷ []) (labels_down kids (j ∷ r))) ∙ h)

  -- each place that is hit is found
  is_found : (above : Labels) (s : List ℕ) (k : ℕ) (f : Forest) (i : ℕ) (r : List ℕ) → Hits above f i r → Among (s ++ (k + i) ∷ r) (found_in test above s k f)
  is_found above s k none i r h = absurd h
  is_found above s k (tree x kids later) (suc i) r h =
      let n : (k + 1) + i ≡ k + suc i = omega arith in
      let own : List (List ℕ) = cond (test (above ++ x ∷ [])) ((s ++ k ∷ []) ∷ []) [] in
      let deep : List (List ℕ) = found_in test (above ++ x ∷ []) (s ++ k ∷ []) 0 kids in
      let rest : List (List ℕ) = found_in test above s (k + 1) later in
      let y : List ℕ = s ++ (k + suc i) ∷ r in
      among_right own (deep ++ rest) y (among_right deep rest y (subst (λ a. Among (s ++ a ∷ r) rest) n (is_found above s (k + 1) later i r h)))
  is_found above s k (tree x kids later) zero [] h =
      let own : List (List ℕ) = cond (test (above ++ x ∷ [])) ((s ++ k ∷ []) ∷ []) [] in
      let others : List (List ℕ) = found_in test (above ++ x ∷ []) (s ++ k ∷ []) 0 kids ++ found_in test above s (k + 1) later in
      subst (λ a. Among (s ++ a ∷ []) (own ++ others)) (same_index k)
      (among_left own others (s ++ k ∷ []) (one_among (test (above ++ x ∷ [])) (s ++ k ∷ []) h))
  is_found above s k (tree x kids later) zero (j ∷ r) h =
      let i : 0 + j ≡ j = omega arith in
      let own : List (List ℕ) = cond (test (above ++ x ∷ [])) ((s ++ k ∷ []) ∷ []) [] in
      let deep : List (List ℕ) = found_in test (above ++ x ∷ []) (s ++ k ∷ []) 0 kids in
      let rest : List (List ℕ) = found_in test above s (k + 1) later in
      let same : (s ++ k ∷ []) ++ (0 + j) ∷ r ≡ s ++ (k + 0) ∷ j ∷ r =
      ap (λ a. (s ++ k ∷ []) ++ a ∷ r) i ∙ append_assoc s (k ∷ []) (j ∷ r) ∙ ap (λ a. s ++ a ∷ j ∷ r) (same_index k) in
      let y : List ℕ = s ++ (k + 0) ∷ j ∷ r in
      among_right own (deep ++ rest) y
      (among_left deep rest y (subst (λ z. Among z deep) same (is_found (above ++ x ∷ []) (s ++ k ∷ []) 0 kids j r h)))

  module _ (p : Form) (says : Tests p test) where
    -- a place that is found is a match
    match_of : (f : Forest) (start y : List ℕ) → IsFound [] start 0 (first_kids (trees_at f start)) y → LeadsTo p f start y
    match_of f start y (i, r, e, h) =
        let n : 0 + i ≡ i = omega arith in
        let at : y ≡ start ++ i ∷ r = e ∙ ap (λ a. start ++ a ∷ r) n in
        record {
          way = i ∷ r;
          below = omega arith;
          place = sym at;
          there = ap (has_place f) at ∙ ap (λ g. is_some (first_label g)) (trees_at-append f start (i ∷ r)) ∙ there_is [] (first_kids (trees_at f start)) i r h;
          described = (says (labels_down (first_kids (trees_at f start)) (i ∷ r))).0 (hit_on_the_way [] (first_kids (trees_at f start)) i r h);
        }

    -- each place whose labels below a start the path describes is found
    of_match : (f : Forest) (start y way : List ℕ) → 0 < length way → start ++ way ≡ y → has_place f y ≡ true → Describes p (labels_down (first_kids (trees_at f start)) way)
        → Among y (found_in test [] start 0 (first_kids (trees_at f start)))
    of_match f start y [] some e there d = absurd (omega arith)
    of_match f start y (i ∷ r) some e there d =
        let n : 0 + i ≡ i = omega arith in
        let kids : Forest = first_kids (trees_at f start) in
        let here : is_some (first_label (trees_at (from i (first_kids (trees_at f start))) r)) ≡ true =
        sym (ap (λ g. is_some (first_label g)) (trees_at-append f start (i ∷ r))) ∙ ap (has_place f) e ∙ there in
        subst (λ z. Among z (found_in test [] start 0 kids)) (ap (λ a. start ++ a ∷ r) n ∙ e)
        (is_found [] start 0 kids i r (hits_there [] kids i r here ((says (labels_down kids (i ∷ r))).1 d)))

-- what is found below a place is all that the path leads to from there
pub found_are_matches : (p : Form) (test : Labels → Bool) → Tests p test → (f : Forest) (start : List ℕ) → AreMatches p f start (found_in test [] start 0 (first_kids (trees_at f start)))
found_are_matches p test says f start = record {
  ascending = ascends test [] start 0 (first_kids (trees_at f start));
  exactly = λ y.
      ((λ c. match_of test p says f start y (found_is test [] start 0 (first_kids (trees_at f start)) y c)), (λ h. of_match test p says f start y h.way h.below h.place h.there h.described));
}

-- the order of places is strict
places_strict : IsStrict PlaceBefore
unfolding IsStrict
places_strict = ((λ p h. place_itself p h), (λ p q h k. place_both p q h k))

-- a path has one list of matches
pub one_match_list : (p : Form) (f : Forest) (start : List ℕ) (xs ys : List (List ℕ)) → AreMatches p f start xs → AreMatches p f start ys → xs ≡ ys
one_match_list p f start xs ys a b =
    same_ascents PlaceBefore places_strict xs ys a.ascending b.ascending (λ y m. (b.exactly y).1 ((a.exactly y).0 m)) (λ y m. (a.exactly y).1 ((b.exactly y).0 m))

-- where a boolean says whether a path describes labels, it is what the path's test says
pub tested : (p : Form) (test : Labels → Bool) → Tests p test → (x : Labels) (b : Bool) → IsTrue b ↔ Describes p x → b ≡ test x
tested p test says x true h = sym ((says x).1 (h.0 refl))
tested p test says x false h = elim (test x) as (λ v. test x ≡ v → false ≡ v) [ true ↦ λ e. (let f : false ≡ true = h.1 ((says x).0 e) in f) | false ↦ λ e. refl ] refl

-- what is found by each test of a path is all that the path leads to
pub found_by_test : (p : Form) (f : Forest) (start : List ℕ) (kids : Forest) (xs : List (List ℕ)) → kids ≡ first_kids (trees_at f start)
    → ((test : Labels → Bool) → Tests p test → xs ≡ found_in test [] start 0 kids) → AreMatches p f start xs
found_by_test p f start kids xs e h =
    subst (AreMatches p f start) (sym (h (test_of p) (tests p) ∙ ap (found_in (test_of p) [] start 0) e)) (found_are_matches p (test_of p) (tests p) f start)

-- what is found from a tree of a list on is what is found at it, below it, and from the next one on
found_first : (test : Labels → Bool) (above : Labels) (p : List ℕ) (i : ℕ) (trees : List LabelledTree) (t : LabelledTree) → i < length trees → t ≡ get_or trees i t
    → found_in test above p i (forest_of (drop i trees))
    ≡ cond (test (above ++ t.label ∷ [])) ((p ++ i ∷ []) ∷ []) [] ++ (found_in test (above ++ t.label ∷ []) (p ++ i ∷ []) 0 t.kids ++ found_in test above p (i + 1) (forest_of (drop (i + 1) trees)))
found_first test above p i trees t h e =
    let here : drop i trees ≡ t ∷ drop (i + 1) trees = rw (add-one, drop-cons trees i t) (ap (λ (u : LabelledTree). u ∷ drop (suc i) trees) (sym e)) in
    ap (λ ts. found_in test above p i (forest_of ts)) here

-- what was found before a tree, with what is found at it and below it, and what is found after it are all that is found
pub found_next : (test : Labels → Bool) (above labels : Labels) (p below : List ℕ) (i : ℕ) (trees : List LabelledTree) (t : LabelledTree) (label : List ℕ) (some more all : List (List ℕ))
    → i < length trees → t ≡ get_or trees i t → label ≡ t.label → labels ≡ above ++ label ∷ [] → below ≡ p ++ i ∷ []
    → more ≡ some ++ cond (test labels) (below ∷ []) [] → all ≡ more ++ found_in test labels below 0 t.kids
    → all ++ found_in test above p (i + 1) (forest_of (drop (i + 1) trees)) ≡ some ++ found_in test above p i (forest_of (drop i trees))
found_next test above labels p below i trees t label some more all h e f g b m a =
    let full : labels ≡ above ++ t.label ∷ [] = g ∙ ap (λ (l : List ℕ). above ++ l ∷ []) f in
    let own : List (List ℕ) = cond (test labels) (below ∷ []) [] in
    let deep : List (List ℕ) = found_in test labels below 0 t.kids in
    let rest : List (List ℕ) = found_in test above p (i + 1) (forest_of (drop (i + 1) trees)) in
    ap (λ (z : List (List ℕ)). z ++ rest) (a ∙ ap (λ (z : List (List ℕ)). z ++ deep) m)
    ∙ append_assoc (some ++ own) deep rest
    ∙ append_assoc some own (deep ++ rest)
    ∙ ap (λ (z : Labels). some ++ (cond (test z) (below ∷ []) [] ++ (found_in test z below 0 t.kids ++ rest))) full
    ∙ ap (λ (z : List ℕ). some ++ (cond (test (above ++ t.label ∷ [])) (z ∷ []) [] ++ (found_in test (above ++ t.label ∷ []) z 0 t.kids ++ rest))) b
    ∙ ap (λ (z : List (List ℕ)). some ++ z) (sym (found_first test above p i trees t h e))
