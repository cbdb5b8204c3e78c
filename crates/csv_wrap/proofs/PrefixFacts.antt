-- What stands after the marks of a text.
use Rattle.std.proofs.Common.{◌≡◌, ◌≤◌, ℕ, List, [], ◌∷◌, drop, length, true, false, Bool, refl, arith}
use Rattle.csv.specs.Reading.{is_bom, strip_bom}
use Rattle.csv_wrap.specs.Csv.{begins_with_mark, without_marks}

-- a text that begins with a mark has 3 bytes or more
pub marked_len : (xs : List ℕ) → begins_with_mark xs ≡ true → 3 ≤ length xs
marked_len [] h = cc h
marked_len (a ∷ []) h = short a h
  where
    short : (a : ℕ) → begins_with_mark (a ∷ []) ≡ true → 3 ≤ 1
    short a h = grind arith
marked_len (a ∷ b ∷ []) h = grind arith
marked_len (a ∷ b ∷ c ∷ rest) h = omega arith

-- a text that begins with a mark has without its marks what it has without that mark and the others
pub marked_drop : (xs : List ℕ) → begins_with_mark xs ≡ true → without_marks (drop 3 xs) ≡ without_marks xs
unfolding without_marks
marked_drop [] h = refl
marked_drop (a ∷ []) h = grind arith
marked_drop (a ∷ b ∷ []) h = grind arith
marked_drop (a ∷ b ∷ c ∷ rest) h = rw h refl

-- a text that begins with no mark has no marks to be without
pub unmarked : (xs : List ℕ) → begins_with_mark xs ≡ false → without_marks xs ≡ xs
unfolding without_marks
unmarked [] h = refl
unmarked (a ∷ []) h = refl
unmarked (a ∷ b ∷ []) h = refl
unmarked (a ∷ b ∷ c ∷ rest) h = rw h refl

-- no mark stands before what is left
pub strip_none : (xs : List ℕ) → strip_bom (without_marks xs) ≡ without_marks xs
unfolding without_marks strip_bom
strip_none [] = refl
strip_none (a ∷ []) = refl
strip_none (a ∷ b ∷ []) = refl
strip_none (a ∷ b ∷ c ∷ rest) = at (is_bom a b c) refl (strip_none rest)
  where
    at : (m : Bool) → is_bom a b c ≡ m → strip_bom (without_marks rest) ≡ without_marks rest → strip_bom (without_marks (a ∷ b ∷ c ∷ rest)) ≡ without_marks (a ∷ b ∷ c ∷ rest)
    at true e more = rw e more
    at false e more = rw e (rw e refl)
