-- Look-ups one after another go over the places of a label.
use Rattle.std.proofs.Common.{◌≡◌, ◌<◌, ◌≤◌, ◌⊎◌, inl, inr, ℕ, suc, List, [], ◌∷◌, length, get_or, drop, ◌∙◌, sym, ap, subst, arith}
use Rattle.std.proofs.lemmas.List.{drop_all}
use Rattle.std.proofs.Math.Seq.{drop-cons}
use Rattle.join_memo.specs.Places.{places}
use Rattle.join_memo.specs.Kept.{HasLabel, IsFirstFrom, AreFound}
use Rattle.join_memo.proofs.Searches.{HasPlace, has_place, place_is, places_ascend, not_falling, below_or}

module _ (labels : List (List ℕ)) (key : List ℕ) where
  -- each of a label's places in a list of labels has the label
  has_label : (k : ℕ) → k < length (places key 0 labels) → HasLabel labels key (get_or (places key 0 labels) k 0)
  has_label k w = (let q = place_is key 0 labels k w in
      let e : q.index ≡ get_or (places key 0 labels) k 0 = omega (arith, q.is) in subst (λ m. HasLabel labels key m) e q.label)

  -- the places of a label from number k on are those at or after one, and those before lie before it
  record IsFrom (from k : ℕ) : Type 0 where
    before : (i : ℕ) → i < k → i < length (places key 0 labels) → get_or (places key 0 labels) i 0 < from
    after : (i : ℕ) → k ≤ i → i < length (places key 0 labels) → from ≤ get_or (places key 0 labels) i 0

  -- the first place of the label at or after one is the place of number k, where those before lie before
  first_is : (from k p : ℕ) → IsFrom from k → IsFirstFrom labels key from p → HasPlace (places key 0 labels) p → (k < length (places key 0 labels)) × (get_or (places key 0 labels) k 0 ≡ p)
  first_is from k p x h q = by_case (below_or q.number k)
    where
      rest : k ≤ q.number → get_or (places key 0 labels) k 0 < p ⊎ p ≤ get_or (places key 0 labels) k 0 → (k < length (places key 0 labels)) × (get_or (places key 0 labels) k 0 ≡ p)
      rest l (inl u) = (let w : k < length (places key 0 labels) = omega (arith, l, q.within) in
          absurd (h.before (get_or (places key 0 labels) k 0) (x.after k (omega arith) w) u (has_label k w)))
      rest l (inr u) = (let w : k < length (places key 0 labels) = omega (arith, l, q.within) in
          (w, omega (arith, u, not_falling (places key 0 labels) (places_ascend key 0 labels) k q.number l q.within, q.is)))

      by_case : (q.number < k) ⊎ (k ≤ q.number) → (k < length (places key 0 labels)) × (get_or (places key 0 labels) k 0 ≡ p)
      by_case (inl u) = absurd (omega (arith, x.before q.number u q.within, q.is, h.after))
      by_case (inr l) = rest l (below_or (get_or (places key 0 labels) k 0) p)

  -- after the label's place of number k, its places go on from number k + 1
  next_from : (from k p : ℕ) → k < length (places key 0 labels) → get_or (places key 0 labels) k 0 ≡ p → IsFrom (suc p) (suc k)
  next_from from k p w e = record {
    before = λ i l v. omega (arith, not_falling (places key 0 labels) (places_ascend key 0 labels) i k (omega (arith, l)) w, e);
    after = λ i l v. omega (arith, places_ascend key 0 labels k i (omega (arith, l)) v, e);
  }

  -- look-ups from there on find the places from that number on
  found_from : (found : List ℕ) (from k : ℕ) → IsFrom from k → AreFound labels key from found → found ≡ drop k (places key 0 labels)
  found_from [] from k x h = by_case (below_or k (length (places key 0 labels)))
    where
      by_case : (k < length (places key 0 labels)) ⊎ (length (places key 0 labels) ≤ k) → [] ≡ drop k (places key 0 labels)
      by_case (inl w) = absurd (h (get_or (places key 0 labels) k 0) (x.after k (omega arith) w) (has_label k w))
      by_case (inr l) = sym (drop_all k (places key 0 labels) l)
  found_from (p ∷ found) from k x h =
      let q = has_place key 0 labels p h.0.label.within h.0.label.is in
      let f = first_is from k p x h.0 (subst (λ m. HasPlace (places key 0 labels) m) (omega arith) q) in
      let rest = found_from found (suc p) (suc k) (next_from from k p f.0 f.1) h.1 in
      ap (λ ps. p ∷ ps) rest ∙ ap (λ m. m ∷ drop (suc k) (places key 0 labels)) (sym f.1) ∙ sym (drop-cons (places key 0 labels) k 0 f.0)

-- look-ups from the first place on find all places of the label
pub finds_all : (labels : List (List ℕ)) (key : List ℕ) (found : List ℕ) → AreFound labels key 0 found → found ≡ places key 0 labels
finds_all labels key found h = found_from labels key found 0 0 (record { before = λ i l w. absurd (omega (arith, l)); after = λ i l w. omega arith }) h
