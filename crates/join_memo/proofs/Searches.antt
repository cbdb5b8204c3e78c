-- The first of ascending places, and what the places of a label are.
use Rattle.std.proofs.Common.{◌≡◌, ◌<◌, ◌≤◌, ◌+◌, ◌⊎◌, inl, inr, ℕ, zero, suc, Bool, true, false, cond, List, [], ◌∷◌, length, get_or, refl, ◌∙◌, sym, ap, subst, arith, Option, Some, None, map}
use Rattle.std.proofs.lemmas.List.{length-map, get_or-map}
use Rattle.std.specs.Prelude.{◌==◌, nat_lt}
use Rattle.std.specs.Str.{bytes_eq}
use Rattle.std.proofs.lemmas.Slice.Eq.{bytes_eq-Decides}
use Rattle.std.proofs.lemmas.Bool.Decides.{nat_tests}
use Rattle.smallvec.specs.SmallVec.{SmallVec}
use Rattle.join_memo.specs.Places.{places, IsKnown, IsIndex, IsAscending, IsLeast, IsLeastOf}
use Rattle.join_memo.specs.Kept.{labels_of, HasLabel, IsFirstFrom, IsFound}

-- one number is below another or not
pub below_or : (m n : ℕ) → (m < n) ⊎ (n ≤ m)
below_or m n = by_case (nat_lt m n) refl
  where
    by_case : (b : Bool) → nat_lt m n ≡ b → (m < n) ⊎ (n ≤ m)
    by_case true e = inl (grind (arith, nat_tests, e))
    by_case false e = inr (grind (arith, nat_tests, e))

-- of ascending places, one at a later index is no less than one at an earlier index
pub not_falling : (ps : List ℕ) → IsAscending ps → (i j : ℕ) → i ≤ j → j < length ps → get_or ps i 0 ≤ get_or ps j 0
not_falling ps h i j le w = by_case (i == j) refl
  where
    by_case : (b : Bool) → (i == j) ≡ b → get_or ps i 0 ≤ get_or ps j 0
    by_case true e = (let n : i ≡ j = grind (arith, nat_tests, e) in subst (λ m. get_or ps i 0 ≤ get_or ps m 0) n (omega arith))
    by_case false e = (let l : i < j = grind (arith, nat_tests, e, le) in omega (arith, h i j l w))

-- a place that is found among ascending places is the first at or after itself
pub least_here : (ps : List ℕ) (from i : ℕ) → IsAscending ps → (i < length ps) × (get_or ps i 0 ≡ from) → IsLeast ps from from
least_here ps from i h at = record {
  number = i;
  within = at.0;
  is = at.1;
  after = omega arith;
  before = λ k l. omega (arith, h k i l at.0, at.1);
}

-- where a place isn't found among ascending places, the next one after where it would stand is the first at or after it
pub least_next : (ps : List ℕ) (from i p : ℕ) → (i ≤ length ps) × ((k : ℕ) → k < i → get_or ps k 0 < from) × ((k : ℕ) → i ≤ k → k < length ps → from < get_or ps k 0)
    → i < length ps → get_or ps i 0 ≡ p → IsLeast ps from p
least_next ps from i p gap w e = record {
  number = i;
  within = w;
  is = e;
  after = omega (arith, gap.2 i (omega arith) w, e);
  before = gap.1;
}

-- where a place lies after all ascending places, each of these lies before it
pub least_none : (ps : List ℕ) (from i : ℕ) → (i ≤ length ps) × ((k : ℕ) → k < i → get_or ps k 0 < from) × ((k : ℕ) → i ≤ k → k < length ps → from < get_or ps k 0)
    → length ps ≤ i → (k : ℕ) → k < length ps → get_or ps k 0 < from
least_none ps from i gap l k w = gap.1 k (omega (arith, l, w))

-- a label stands where one of its places is
pub record IsPlace (key : List ℕ) (n : ℕ) (labels : List (List ℕ)) (p : ℕ) : Type 0 where
  pub index : ℕ
  pub is : p ≡ n + index
  pub label : HasLabel labels key index

-- a place of the labels after a first one is a place of all of them
later_place : (key : List ℕ) (n : ℕ) (label : List ℕ) (labels : List (List ℕ)) (p : ℕ) → IsPlace key (suc n) labels p → IsPlace key n (label ∷ labels) p
later_place key n label labels p h = record {
  index = suc h.index;
  is = omega (arith, h.is);
  label = record { within = omega (arith, h.label.within); is = h.label.is };
}

-- each of a label's places is a place at which it stands
pub place_is : (key : List ℕ) (n : ℕ) (labels : List (List ℕ)) (k : ℕ) → k < length (places key n labels) → IsPlace key n labels (get_or (places key n labels) k 0)
place_is key n [] k w = absurd (omega (arith, w))
place_is key n (x ∷ labels) k w = by_case (place_is key (suc n) labels) (bytes_eq key x) refl k w
  where
    by_case : ((k : ℕ) → k < length (places key (suc n) labels) → IsPlace key (suc n) labels (get_or (places key (suc n) labels) k 0))
        → (b : Bool) → bytes_eq key x ≡ b → (k : ℕ) → k < length (cond b (n ∷ places key (suc n) labels) (places key (suc n) labels))
        → IsPlace key n (x ∷ labels) (get_or (cond b (n ∷ places key (suc n) labels) (places key (suc n) labels)) k 0)
    by_case more true e zero w = record { index = 0; is = omega arith; label = record { within = omega arith; is = (let d : key ≡ x = grind (arith, bytes_eq-Decides key x, e) in sym d) } }
    by_case more true e (suc k) w = later_place key n x labels (get_or (places key (suc n) labels) k 0) (more k (omega (arith, w)))
    by_case more false e k w = later_place key n x labels (get_or (places key (suc n) labels) k 0) (more k w)

-- where a label stands there is one of its places
pub record HasPlace (ps : List ℕ) (p : ℕ) : Type 0 where
  pub number : ℕ
  pub within : number < length ps
  pub is : get_or ps number 0 ≡ p

-- a place among others is one of them with one more before them
later_has : (n : ℕ) (ps : List ℕ) (p : ℕ) → HasPlace ps p → HasPlace (n ∷ ps) p
later_has n ps p h = record { number = suc h.number; within = omega (arith, h.within); is = h.is }

-- where a label stands at an index, that index is one of its places
pub has_place : (key : List ℕ) (n : ℕ) (labels : List (List ℕ)) (j : ℕ) → j < length labels → get_or labels j [] ≡ key → HasPlace (places key n labels) (n + j)
has_place key n [] j w e = absurd (omega (arith, w))
has_place key n (x ∷ labels) j w e = by_case (has_place key (suc n) labels) (bytes_eq key x) refl j w e
  where
    by_case : ((j : ℕ) → j < length labels → get_or labels j [] ≡ key → HasPlace (places key (suc n) labels) (suc n + j))
        → (b : Bool) → bytes_eq key x ≡ b → (j : ℕ) → j < length (x ∷ labels) → get_or (x ∷ labels) j [] ≡ key
        → HasPlace (cond b (n ∷ places key (suc n) labels) (places key (suc n) labels)) (n + j)
    by_case more true d zero w e = record { number = 0; within = omega arith; is = omega arith }
    by_case more false d zero w e = absurd (let f : key ≡ x = sym e in grind (arith, bytes_eq-Decides key x, d, f))
    by_case more true d (suc j) w e = subst (λ m. HasPlace (n ∷ places key (suc n) labels) m) (omega arith) (later_has n (places key (suc n) labels) (suc n + j) (more j (omega (arith, w)) e))
    by_case more false d (suc j) w e = subst (λ m. HasPlace (places key (suc n) labels) m) (omega arith) (more j (omega (arith, w)) e)

-- the places of a label ascend
pub places_ascend : (key : List ℕ) (n : ℕ) (labels : List (List ℕ)) → IsAscending (places key n labels)
places_ascend key n [] i j l w = absurd (omega (arith, w))
places_ascend key n (x ∷ labels) i j l w = by_case (places_ascend key (suc n) labels) (bytes_eq key x) i j l w
  where
    by_case : IsAscending (places key (suc n) labels) → (b : Bool) → IsAscending (cond b (n ∷ places key (suc n) labels) (places key (suc n) labels))
    by_case more true zero zero l w = absurd (omega (arith, l))
    by_case more true zero (suc j) l w = (let h = place_is key (suc n) labels j (omega (arith, w)) in omega (arith, h.is))
    by_case more true (suc i) zero l w = absurd (omega (arith, l))
    by_case more true (suc i) (suc j) l w = more i j (omega (arith, l)) (omega (arith, w))
    by_case more false i j l w = more i j l w

module _ (key : List ℕ) (labels : List (List ℕ)) (from : ℕ) where
  -- the first of a label's places at or after one is the first place at or after one at which the label stands
  first_place : (p : ℕ) → IsLeast (places key 0 labels) from p → IsFirstFrom labels key from p
  first_place p h = record {
    after = h.after;
    label = (let q = place_is key 0 labels h.number h.within in
        let e : q.index ≡ p = omega (arith, q.is, h.is) in subst (λ m. HasLabel labels key m) e q.label);
    before = λ j f l at. (let q = has_place key 0 labels j at.within at.is in clash j f l q);
  }
    where
      clash : (j : ℕ) → from ≤ j → j < p → HasPlace (places key 0 labels) (0 + j) → ⊥
      clash j f l q = by_case (below_or q.number h.number)
        where
          by_case : (q.number < h.number) ⊎ (h.number ≤ q.number) → ⊥
          by_case (inl u) = omega (arith, h.before q.number u, q.is, f)
          by_case (inr u) = omega (arith, not_falling (places key 0 labels) (places_ascend key 0 labels) h.number q.number u q.within, q.is, h.is, l)

  -- what is found among the places of a label is found among the labels
  pub found_place : (r : Option ℕ) → IsLeastOf (places key 0 labels) from r → IsFound labels key from r
  found_place None h = λ j f at. (let q = has_place key 0 labels j at.within at.is in omega (arith, h q.number q.within, q.is, f))
  found_place (Some p) h = first_place p h

module _ (known groups labels : List (List ℕ)) (key : List ℕ) (x : IsIndex known groups labels) where
  -- the group of a label has its places
  pub group_is : (i : ℕ) → IsKnown known key i → get_or groups i [] ≡ places key 0 labels
  group_is i h = x.found i h.within ∙ ap (λ k. places k 0 labels) h.is

  -- a label that is not known stands nowhere
  pub nowhere : ((i : ℕ) → IsKnown known key i → ⊥) → (from j : ℕ) → from ≤ j → HasLabel labels key j → ⊥
  nowhere h from j f at = (
      let q = has_place key 0 labels j at.within at.is in
      let n : length (places key 0 labels) ≡ 0 = ap length (x.absent key h) in
      omega (arith, q.within, n))

-- the group at an index of vectors is the items of the vector there
pub vector_at : (gs : List (SmallVec ℕ)) (i : ℕ) (v : SmallVec ℕ) → i < length gs → v ≡ get_or gs i v → get_or (map (λ g. g.items) gs) i [] ≡ v.items
vector_at [] i v w e = absurd (omega (arith, w))
vector_at (g ∷ gs) zero v w e = sym (ap (λ (u : SmallVec ℕ). u.items) e)
vector_at (g ∷ gs) (suc i) v w e = vector_at gs i v (omega (arith, w)) e

-- the group of a label has its places
pub vector_is : (known : List (List ℕ)) (gs : List (SmallVec ℕ)) (labels : List (List ℕ)) (key : List ℕ) → IsIndex known (map (λ g. g.items) gs) labels
    → (i : ℕ) → IsKnown known key i → (v : SmallVec ℕ) → v ≡ get_or gs i v → v.items ≡ places key 0 labels
vector_is known gs labels key x i h v e =
    let n : length (map (λ (g : SmallVec ℕ). g.items) gs) ≡ length gs = length-map gs (λ (g : SmallVec ℕ). g.items) in
    sym (vector_at gs i v (omega (arith, h.within, x.lists, n)) e) ∙ group_is known (map (λ g. g.items) gs) labels key x i h

-- the label of the pair at a place stands there among the labels of the pairs
pub label_there : {T : Type 0} (pairs : List (List ℕ × T)) (i : ℕ) (x : List ℕ × T) → i < length pairs → x ≡ get_or pairs i x → HasLabel (labels_of pairs) x.0 i
label_there {T} pairs i x w e = record {
  within = omega (arith, w, length-map pairs (λ (p : List ℕ × T). p.0));
  is = get_or-map (λ (p : List ℕ × T). p.0) pairs i x [] w ∙ ap (λ (p : List ℕ × T). p.0) (sym e);
}

-- where the last label is the one that is looked up, its place is the first at or after itself that has it
pub last_has : (labels : List (List ℕ)) (x key : List ℕ) (last : ℕ) → HasLabel labels x last → bytes_eq x key ≡ true → IsFirstFrom labels key last last
last_has labels x key last h e = record {
  after = omega arith;
  label = record { within = h.within; is = h.is ∙ (let d : x ≡ key = grind (arith, bytes_eq-Decides x key, e) in d) };
  before = λ j f l at. absurd (omega (arith, f, l));
}

-- where the last label isn't the one that is looked up, no place from there on has it
pub last_lacks : (labels : List (List ℕ)) (x key : List ℕ) (last : ℕ) → length labels ≡ last + 1 → HasLabel labels x last → bytes_eq x key ≡ false
    → (j : ℕ) → last ≤ j → HasLabel labels key j → ⊥
last_lacks labels x key last one h e j f at =
    let same : j ≡ last = omega (arith, one, f, at.within) in
    let d : x ≡ key = sym h.is ∙ ap (λ m. get_or labels m []) (sym same) ∙ at.is in
    grind (arith, bytes_eq-Decides x key, e, d)
