-- An index stays one as labels come.
use Rattle.std.proofs.Common.{◌≡◌, ◌<◌, ◌+◌, ◌⊎◌, inl, inr, ℕ, suc, Bool, true, false, cond, List, [], ◌∷◌, ◌++◌, length, get_or, set, refl, ◌∙◌, sym, ap, subst, arith, map}
use Rattle.std.specs.Prelude.{◌==◌}
use Rattle.std.specs.Prelude.{Result, OnOk, is_err}
use Rattle.std.specs.Prelude.{Ok, Err}
use Rattle.std.specs.Str.{bytes_eq}
use Rattle.std.proofs.lemmas.Slice.Eq.{bytes_eq-Decides}
use Rattle.std.proofs.lemmas.Bool.Decides.{nat_tests}
use Rattle.std.proofs.lemmas.List.{map-append, map-set, get_or-set_same, get_or-set_other, get_or_append_left, get_or-append-add}
use Rattle.std.proofs.lemmas.Grind.{common_steps}
use Rattle.smallvec.specs.SmallVec.{SmallVec}
use Rattle.join_memo.specs.Places.{places, IsKnown, IsIndex}

-- a label's places among labels with one more are its places among them, and the last where that one is the label
pub places_then : (key : List ℕ) (n : ℕ) (labels : List (List ℕ)) (label : List ℕ)
    → places key n (labels ++ label ∷ []) ≡ places key n labels ++ cond (bytes_eq key label) ((n + length labels) ∷ []) []
places_then key n [] label = by_case (bytes_eq key label)
  where
    by_case : (b : Bool) → cond b (n ∷ []) [] ≡ [] ++ cond b ((n + 0) ∷ []) []
    by_case true = ap (λ m. m ∷ []) (omega arith)
    by_case false = refl
places_then key n (x ∷ labels) label =
    let e : suc n + length labels ≡ n + length (x ∷ labels) = omega arith in
    let rest = places_then key (suc n) labels label ∙ ap (λ m. places key (suc n) labels ++ cond (bytes_eq key label) (m ∷ []) []) e in
    by_case (bytes_eq key x) rest
  where
    by_case : (b : Bool) → places key (suc n) (labels ++ label ∷ []) ≡ places key (suc n) labels ++ cond (bytes_eq key label) ((n + length (x ∷ labels)) ∷ []) []
        → cond b (n ∷ places key (suc n) (labels ++ label ∷ [])) (places key (suc n) (labels ++ label ∷ []))
        ≡ cond b (n ∷ places key (suc n) labels) (places key (suc n) labels) ++ cond (bytes_eq key label) ((n + length (x ∷ labels)) ∷ []) []
    by_case true h = ap (λ ps. n ∷ ps) h
    by_case false h = h

-- where the last label is the one that is looked up, its place comes after the others
same_then : (key : List ℕ) (labels : List (List ℕ)) → places key 0 (labels ++ key ∷ []) ≡ places key 0 labels ++ length labels ∷ []
same_then key labels =
    let e : bytes_eq key key ≡ true = grind (arith, bytes_eq-Decides key key) in
    let m : 0 + length labels ≡ length labels = omega arith in
    places_then key 0 labels key ∙ ap (λ b. places key 0 labels ++ cond b ((0 + length labels) ∷ []) []) e ∙ ap (λ n. places key 0 labels ++ n ∷ []) m

-- where the last label is another one, the places stay
other_then : (key : List ℕ) (labels : List (List ℕ)) (label : List ℕ) → (key ≡ label → ⊥) → places key 0 (labels ++ label ∷ []) ≡ places key 0 labels
other_then key labels label h =
    let e : bytes_eq key label ≡ false = grind (arith, bytes_eq-Decides key label, h) in
    places_then key 0 labels label ∙ ap (λ b. places key 0 labels ++ cond b ((0 + length labels) ∷ []) []) e ∙ none (places key 0 labels)
  where
    none : (xs : List ℕ) → xs ++ [] ≡ xs
    none xs = grind (arith, common_steps)

-- a known label keeps its number where one more label is known after it
known_left : (known : List (List ℕ)) (key k : List ℕ) (i : ℕ) → IsKnown known k i → IsKnown (known ++ key ∷ []) k i
known_left known key k i h = record {
  within = (let w = h.within in grind (arith, common_steps));
  is = get_or_append_left known (key ∷ []) [] i h.within ∙ h.is;
}

-- the last of the known labels and one more is that one
last_is : (known : List (List ℕ)) (key : List ℕ) → get_or (known ++ key ∷ []) (length known) [] ≡ key
last_is known key = let e : length known ≡ length known + 0 = omega arith in ap (λ n. get_or (known ++ key ∷ []) n []) e ∙ get_or-append-add known (key ∷ []) 0 []

-- a label known among the first and one more is one of the first, or the last
known_cases : (known : List (List ℕ)) (key k : List ℕ) (i : ℕ) → IsKnown (known ++ key ∷ []) k i → IsKnown known k i ⊎ ((i ≡ length known) × (key ≡ k))
known_cases known key k i h = by_case (i == length known) refl
  where
    fits : i < suc (length known)
    fits = (let w = h.within in grind (arith, common_steps))

    by_case : (b : Bool) → (i == length known) ≡ b → IsKnown known k i ⊎ ((i ≡ length known) × (key ≡ k))
    by_case true e = (let n : i ≡ length known = grind (arith, nat_tests, e) in
        inr ((n, sym (last_is known key) ∙ ap (λ m. get_or (known ++ key ∷ []) m []) (sym n) ∙ h.is)))
    by_case false e = (let w : i < length known = grind (arith, nat_tests, e, fits) in
        inl (record { within = w; is = sym (get_or_append_left known (key ∷ []) [] i w) ∙ h.is }))

module _ (known groups labels : List (List ℕ)) (key : List ℕ) (x : IsIndex known groups labels) where
  -- an index stays one when a label that is known comes
  pub index_grows : (i : ℕ) → IsKnown known key i → IsIndex known (set groups i (get_or groups i [] ++ length labels ∷ [])) (labels ++ key ∷ [])
  index_grows i h = record {
    lists = (let l = x.lists in grind (arith, common_steps));
    found = λ j w. found_at j w (j == i) refl;
    apart = x.apart;
    absent = λ k none. other_then k labels key (λ e. none i (record { within = h.within; is = h.is ∙ sym e })) ∙ x.absent k none;
  }
    where
      now : List (List ℕ)
      now = set groups i (get_or groups i [] ++ length labels ∷ [])

      inside : i < length groups
      inside = omega (arith, h.within, x.lists)

      here : get_or (set groups i (get_or groups i [] ++ length labels ∷ [])) i [] ≡ places (get_or known i []) 0 (labels ++ key ∷ [])
      here = get_or-set_same groups i (get_or groups i [] ++ length labels ∷ []) [] inside
          ∙ ap (λ g. g ++ length labels ∷ []) (x.found i h.within ∙ ap (λ k. places k 0 labels) h.is)
          ∙ sym (same_then key labels) ∙ ap (λ k. places k 0 (labels ++ key ∷ [])) (sym h.is)

      found_at : (j : ℕ) → j < length known → (b : Bool) → (j == i) ≡ b
          → get_or (set groups i (get_or groups i [] ++ length labels ∷ [])) j [] ≡ places (get_or known j []) 0 (labels ++ key ∷ [])
      found_at j w true e = (let n : i ≡ j = grind (arith, nat_tests, e) in
          subst (λ m. get_or (set groups i (get_or groups i [] ++ length labels ∷ [])) m [] ≡ places (get_or known m []) 0 (labels ++ key ∷ [])) n here)
      found_at j w false e = (let n : j ≡ i → ⊥ = λ f. grind (arith, nat_tests, e, f) in
          get_or-set_other groups i j (get_or groups i [] ++ length labels ∷ []) [] n ∙ x.found j w
          ∙ sym (other_then (get_or known j []) labels key (λ f. n (x.apart key j i (record { within = w; is = f }) h))))

  -- an index stays one when a label that is new comes
  pub index_new : ((i : ℕ) → IsKnown known key i → ⊥) → IsIndex (known ++ key ∷ []) (groups ++ (length labels ∷ []) ∷ []) (labels ++ key ∷ [])
  index_new none = record {
    lists = (let l = x.lists in grind (arith, common_steps));
    found = λ j w. found_at j w (j == length known) refl;
    apart = λ k i j g h. apart_at k i j (known_cases known key k i g) (known_cases known key k j h);
    absent = λ k others. other_then k labels key (λ e. others (length known) (last_known k (sym e))) ∙ x.absent k (λ i h. others i (known_left known key k i h));
  }
    where
      last_known : (k : List ℕ) → key ≡ k → IsKnown (known ++ key ∷ []) k (length known)
      last_known k e = record { within = grind (arith, common_steps); is = last_is known key ∙ e }

      last_group : get_or (groups ++ (length labels ∷ []) ∷ []) (length known) [] ≡ length labels ∷ []
      last_group = ap (λ n. get_or (groups ++ (length labels ∷ []) ∷ []) n []) (sym x.lists) ∙ last_is groups (length labels ∷ [])

      there : get_or (groups ++ (length labels ∷ []) ∷ []) (length known) [] ≡ places (get_or (known ++ key ∷ []) (length known) []) 0 (labels ++ key ∷ [])
      there = last_group ∙ ap (λ g. g ++ length labels ∷ []) (sym (x.absent key none)) ∙ sym (same_then key labels)
          ∙ ap (λ k. places k 0 (labels ++ key ∷ [])) (sym (last_is known key))

      found_at : (j : ℕ) → j < length (known ++ key ∷ []) → (b : Bool) → (j == length known) ≡ b
          → get_or (groups ++ (length labels ∷ []) ∷ []) j [] ≡ places (get_or (known ++ key ∷ []) j []) 0 (labels ++ key ∷ [])
      found_at j w true e = (let n : length known ≡ j = grind (arith, nat_tests, e) in
          subst (λ m. get_or (groups ++ (length labels ∷ []) ∷ []) m [] ≡ places (get_or (known ++ key ∷ []) m []) 0 (labels ++ key ∷ [])) n there)
      found_at j w false e = (
          let fits : j < suc (length known) = grind (arith, common_steps, w) in
          let v : j < length known = grind (arith, nat_tests, e, fits) in
          let u : j < length groups = omega (arith, v, x.lists) in
          get_or_append_left groups ((length labels ∷ []) ∷ []) [] j u ∙ x.found j v
          ∙ sym (other_then (get_or known j []) labels key (λ f. none j (record { within = v; is = f })))
          ∙ ap (λ k. places k 0 (labels ++ key ∷ [])) (sym (get_or_append_left known (key ∷ []) [] j v)))

      apart_at : (k : List ℕ) (i j : ℕ) → IsKnown known k i ⊎ ((i ≡ length known) × (key ≡ k)) → IsKnown known k j ⊎ ((j ≡ length known) × (key ≡ k)) → i ≡ j
      apart_at k i j (inl g) (inl h) = x.apart k i j g h
      apart_at k i j (inl g) (inr h) = absurd (none i (record { within = g.within; is = g.is ∙ sym h.1 }))
      apart_at k i j (inr g) (inl h) = absurd (none j (record { within = h.within; is = h.is ∙ sym g.1 }))
      apart_at k i j (inr g) (inr h) = g.0 ∙ sym h.0

-- an index of vectors stays one when the vector of a known label gets one more place
pub grow_vector : (known : List (List ℕ)) (gs : List (SmallVec ℕ)) (labels : List (List ℕ)) (key : List ℕ) → IsIndex known (map (λ g. g.items) gs) labels
    → (i : ℕ) → IsKnown known key i → (v w : SmallVec ℕ) (place : ℕ) → get_or (map (λ g. g.items) gs) i [] ≡ v.items → w.items ≡ v.items ++ place ∷ [] → length labels ≡ place
    → IsIndex known (map (λ g. g.items) (set gs i w)) (labels ++ key ∷ [])
grow_vector known gs labels key x i h v w place at e n =
    let items : w.items ≡ get_or (map (λ g. g.items) gs) i [] ++ length labels ∷ [] = e ∙ ap (λ m. v.items ++ m ∷ []) (sym n) ∙ ap (λ vs. vs ++ length labels ∷ []) (sym at) in
    subst (λ m. IsIndex known m (labels ++ key ∷ [])) (ap (set (map (λ g. g.items) gs) i) (sym items) ∙ sym (map-set (λ (g : SmallVec ℕ). g.items) gs i w))
    (index_grows known (map (λ g. g.items) gs) labels key x i h)

-- an index of vectors stays one when a new label gets a further group
pub new_vector : (known : List (List ℕ)) (gs hs : List (SmallVec ℕ)) (labels : List (List ℕ)) (key : List ℕ) → IsIndex known (map (λ g. g.items) gs) labels
    → ((i : ℕ) → IsKnown known key i → ⊥) → (v : SmallVec ℕ) (place : ℕ) → hs ≡ gs ++ v ∷ [] → v.items ≡ place ∷ [] → length labels ≡ place
    → IsIndex (known ++ key ∷ []) (map (λ g. g.items) hs) (labels ++ key ∷ [])
new_vector known gs hs labels key x none v place e f n =
    let groups : map (λ g. g.items) hs ≡ map (λ g. g.items) gs ++ (length labels ∷ []) ∷ [] =
    ap (map (λ (g : SmallVec ℕ). g.items)) e ∙ map-append (λ (g : SmallVec ℕ). g.items) gs (v ∷ [])
    ∙ ap (λ (m : List ℕ). map (λ (g : SmallVec ℕ). g.items) gs ++ m ∷ []) (f ∙ ap (λ m. m ∷ []) (sym n)) in
    subst (λ m. IsIndex (known ++ key ∷ []) m (labels ++ key ∷ [])) (sym groups) (index_new known (map (λ g. g.items) gs) labels key x none)

-- what holds of an answer that is no error holds of one that the test finds to be none
pub on_ok : {T E : Type 0} → (P : Type 0) (r : Result T E) → is_err r ≡ false → OnOk r P → P
on_ok P (Ok v) e h = h
on_ok P (Err v) e h = cc
