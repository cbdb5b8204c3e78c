-- The part of a page up to its first LF, moved after the bytes of a line.
use Rattle.std.proofs.Common.{◌≡◌, ◌≤◌, ◌+◌, ◌-◌, ◌∙◌, ℕ, zero, suc, min, List, [], ◌∷◌, ◌++◌, ap, sym, arith, length, take, drop, slice_range}
use Rattle.std.proofs.lemmas.List.{take_all, drop-drop, drop-take}
use Rattle.mix_base.proofs.Lists.{take_append}

-- a prefix of a prefix is the shorter of the two
take_twice : (n m : ℕ) (xs : List ℕ) → take n (take m xs) ≡ take (min m n) xs
take_twice zero m xs = let e : min m 0 ≡ 0 = omega arith in ap (λ k. take k xs) (sym e)
take_twice (suc n) zero xs = let e : min 0 (suc n) ≡ 0 = omega arith in ap (λ k. take k xs) (sym e)
take_twice (suc n) (suc m) [] = sym (take_all (min (suc m) (suc n)) [] (omega arith))
take_twice (suc n) (suc m) (x ∷ xs) =
    let e : min (suc m) (suc n) ≡ suc (min m n) = omega arith in
    ap (λ r. x ∷ r) (take_twice n m xs) ∙ ap (λ k. take k (x ∷ xs)) (sym e)

-- of a line and a part after it no more bytes are kept than a limit
pub kept_of : (line bytes : List ℕ) (count most : ℕ) → length line ≤ most → line ++ take (min count (most - length line)) bytes ≡ take most (line ++ take count bytes)
kept_of line bytes count most h =
    let e : length line + (most - length line) ≡ most = omega (arith, h) in
    ap (λ r. line ++ r) (sym (take_twice (most - length line) count bytes))
    ∙ sym (take_append line (take count bytes) (most - length line)) ∙ ap (λ n. take n (line ++ take count bytes)) e

-- a part between places without its first bytes
pub slice_dropped : (xs : List ℕ) (from to count : ℕ) → from + count ≤ to → slice_range xs (from + count) to ≡ drop count (slice_range xs from to)
slice_dropped xs from to count h =
    let e : count + (to - (from + count)) ≡ to - from = omega (arith, h) in
    ap (take (to - (from + count))) (sym (drop-drop count from xs)) ∙ sym (drop-take count (to - (from + count)) (drop from xs)) ∙ ap (λ n. drop count (take n (drop from xs))) e
