-- Pieces of a text that have no separator, as they grow byte by byte.
use Rattle.std.proofs.Common.{◌≡◌, ◌<◌, ◌≤◌, ◌+◌, ◌-◌, ◌∙◌, ℕ, zero, suc, Bool, false, List, [], ◌∷◌, ◌++◌, refl, ap, sym, subst, arith, length, take, drop, get_or, slice_index, slice_range, length-drop, get_or-drop}
use Rattle.std.proofs.lemmas.List.{take_more, drop_more, take-append-drop}

-- no byte of a piece is a separator
abbrev pub Free : (ℕ → Bool) → List ℕ → Type 0
Free sep [] = Unit {0}
Free sep (b ∷ bs) = (sep b ≡ false) × Free sep bs

-- a piece without separators, with a byte more that is none, has no separator
Free-append : (sep : ℕ → Bool) (xs : List ℕ) (b : ℕ) → Free sep xs → sep b ≡ false → Free sep (xs ++ b ∷ [])
Free-append sep [] b f h = (h, tt)
Free-append sep (x ∷ xs) b f h = (f.0, Free-append sep xs b f.1 h)

-- the part between two places, with the byte at the second, is the part up to the next place
grown : (xs : List ℕ) (from to : ℕ) → from ≤ to → to < length xs → slice_range xs from (to + 1) ≡ slice_range xs from to ++ slice_index xs to ∷ []
grown xs from to h k =
    let n : to + 1 - from ≡ (to - from) + 1 = omega arith in
    let i : from + (to - from) ≡ to = omega arith in
    let inside : to - from < length (drop from xs) = omega (arith, length-drop from xs) in
    ap (λ m. take m (drop from xs)) n ∙ take_more (drop from xs) (to - from) 0 inside
    ∙ ap (λ b. take (to - from) (drop from xs) ++ b ∷ []) (get_or-drop from xs (to - from) 0 ∙ ap (λ m. get_or xs m 0) i)

-- a part without separators has none up to the next place, where the byte between is none
pub Free-grown : (sep : ℕ → Bool) (xs : List ℕ) (from to : ℕ) → from ≤ to → to < length xs → Free sep (slice_range xs from to) → sep (slice_index xs to) ≡ false → Free sep (slice_range xs from (to + 1))
Free-grown sep xs from to h k f s = subst (Free sep) (sym (grown xs from to h k)) (Free-append sep (slice_range xs from to) (slice_index xs to) f s)

-- an empty part has no separator
pub Free-empty : (sep : ℕ → Bool) (xs : List ℕ) (i : ℕ) → Free sep (slice_range xs i i)
Free-empty sep xs i = let e : 0 ≡ i - i = omega arith in subst (λ n. Free sep (take n (drop i xs))) e tt

-- of no bytes none is left after any place
drop_nothing : (n : ℕ) → drop {A = ℕ} n [] ≡ []
drop_nothing zero = refl
drop_nothing (suc n) = refl

-- what stands after a place of the rest stands after both places together of the list
drop_twice : (n m : ℕ) (xs : List ℕ) → drop n (drop m xs) ≡ drop (m + n) xs
drop_twice n zero xs = let e : n ≡ 0 + n = omega arith in ap (λ k. drop k xs) e
drop_twice n (suc m) [] = drop_nothing n ∙ sym (drop_nothing (suc m + n))
drop_twice n (suc m) (x ∷ xs) = let e : suc (m + n) ≡ suc m + n = omega arith in drop_twice n m xs ∙ ap (λ k. drop k (x ∷ xs)) e

-- a prefix as long as the list, or longer, is the list
take_all : (n : ℕ) (xs : List ℕ) → length xs ≤ n → take n xs ≡ xs
take_all zero [] h = refl
take_all zero (x ∷ xs) h = absurd (omega arith)
take_all (suc n) [] h = refl
take_all (suc n) (x ∷ xs) h = ap (λ r. x ∷ r) (take_all n xs (omega arith))

-- a text from a place on is the part up to a second place, the byte there, and what follows it
pub cut_at : (xs : List ℕ) (from to : ℕ) → from ≤ to → to < length xs → drop from xs ≡ slice_range xs from to ++ slice_index xs to ∷ drop (to + 1) xs
cut_at xs from to h k =
    let i : from + (to - from) ≡ to = omega arith in
    sym (take-append-drop (to - from) (drop from xs)) ∙ ap (λ r. slice_range xs from to ++ r) (drop_twice (to - from) from xs ∙ ap (λ m. drop m xs) i ∙ drop_more xs to 0 k)

-- where a part without separators reaches the end, the rest of the text has no separator
pub Free-rest : (sep : ℕ → Bool) (xs : List ℕ) (from to : ℕ) → from ≤ to → length xs ≤ to → Free sep (slice_range xs from to) → Free sep (drop from xs)
Free-rest sep xs from to h k f = subst (Free sep) (take_all (to - from) (drop from xs) (omega (arith, length-drop from xs))) f

-- the part from a place to the end of a text is the text from there on
pub rest_whole : (xs : List ℕ) (from : ℕ) → slice_range xs from (length xs) ≡ drop from xs
rest_whole xs from = take_all (length xs - from) (drop from xs) (omega (arith, length-drop from xs))
