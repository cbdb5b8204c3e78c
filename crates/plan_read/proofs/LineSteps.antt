-- The lines of a text that have operators, one after another.
use Rattle.std.proofs.Common.{◌≡◌, ◌<◌, ◌≤◌, ◌+◌, ◌∙◌, ℕ, zero, suc, arith, take, Bool, true, false, cond, List, [], ◌∷◌, ◌++◌, refl, sym, ap, length, drop, get_or, append_assoc, map}
use Rattle.std.proofs.lemmas.List.{drop_more, take_all}
use Rattle.mix_words.specs.Lines.{is_passed}
use Rattle.plan_read.specs.Lines.{Line, lines_from, is_class_line, without_class}

-- a line with its number
abbrev pub numbered_line : ℕ → List ℕ → Line
numbered_line n text = record { number = n; text = text }

-- the lines from a place on that aren't passed over are the line there, unless it is passed over, and those after it
at_line : (lines : List (List ℕ)) (i : ℕ) → i < length lines
    → lines_from (i + 1) (drop i lines) ≡ cond (is_passed (get_or lines i [])) (lines_from (i + 1 + 1) (drop (i + 1) lines)) (numbered_line (i + 1) (get_or lines i []) ∷ lines_from (i + 1 + 1) (drop (i + 1) lines))
at_line lines i h = ap (lines_from (i + 1)) (drop_more lines i [] h)

-- with a line that is passed over, the lines so far and those of the rest are still all
pub line_passed : (lines : List (List ℕ)) (i : ℕ) (prefix whole : List Line) → i < length lines → is_passed (get_or lines i []) ≡ true
    → prefix ++ lines_from (i + 1) (drop i lines) ≡ whole → prefix ++ lines_from (i + 1 + 1) (drop (i + 1) lines) ≡ whole
line_passed lines i prefix whole h p e =
    sym (ap (λ ls. prefix ++ ls) (at_line lines i h ∙ ap (λ b. cond b (lines_from (i + 1 + 1) (drop (i + 1) lines)) (numbered_line (i + 1) (get_or lines i []) ∷ lines_from (i + 1 + 1) (drop (i + 1) lines))) p)) ∙ e

-- with a line that is kept after those so far, they and those of the rest are still all
pub line_kept : (lines : List (List ℕ)) (i : ℕ) (prefix more whole : List Line) → i < length lines → is_passed (get_or lines i []) ≡ false
    → more ≡ prefix ++ numbered_line (i + 1) (get_or lines i []) ∷ [] → prefix ++ lines_from (i + 1) (drop i lines) ≡ whole → more ++ lines_from (i + 1 + 1) (drop (i + 1) lines) ≡ whole
line_kept lines i prefix more whole h p m e =
    ap (λ ls. ls ++ lines_from (i + 1 + 1) (drop (i + 1) lines)) m
    ∙ append_assoc prefix (numbered_line (i + 1) (get_or lines i []) ∷ []) (lines_from (i + 1 + 1) (drop (i + 1) lines))
    ∙ sym (ap (λ ls. prefix ++ ls) (at_line lines i h ∙ ap (λ b. cond b (lines_from (i + 1 + 1) (drop (i + 1) lines)) (numbered_line (i + 1) (get_or lines i []) ∷ lines_from (i + 1 + 1) (drop (i + 1) lines))) p)) ∙ e

-- lines without a class line at the end are all but the last where that is one, and else all
pub class_last : (lines : List Line) (n : ℕ) (d : Line) → length lines ≡ suc n → without_class lines ≡ cond (is_class_line (get_or lines n d).text) (take n lines) lines
class_last [] n d e = absurd (omega arith)
class_last (l ∷ []) zero d e = refl
class_last (l ∷ []) (suc n) d e = absurd (omega arith)
class_last (l ∷ m ∷ ls) zero d e = absurd (omega arith)
class_last (l ∷ m ∷ ls) (suc n) d e = ap (λ r. l ∷ r) (class_last (m ∷ ls) n d (omega arith)) ∙ by_case (is_class_line (get_or (m ∷ ls) n d).text)
  where
    by_case : (b : Bool) → l ∷ cond b (take n (m ∷ ls)) (m ∷ ls) ≡ cond b (l ∷ take n (m ∷ ls)) (l ∷ m ∷ ls)
    by_case true = refl
    by_case false = refl

-- all lines but a class line at the end are kept
pub kept_class : (lines : List Line) (n : ℕ) (d : Line) → length lines ≡ suc n → is_class_line (get_or lines n d).text ≡ true → take n lines ≡ without_class lines
kept_class lines n d e h = sym (class_last lines n d e ∙ ap (λ b. cond b (take n lines) lines) h)

-- all lines are kept where the last is no class line
pub kept_all : (lines : List Line) (n m : ℕ) (d : Line) → length lines ≡ suc n → is_class_line (get_or lines n d).text ≡ false → length lines ≤ m → take m lines ≡ without_class lines
kept_all lines n m d e h k = take_all m lines k ∙ sym (class_last lines n d e ∙ ap (λ b. cond b (take n lines) lines) h)

-- a prefix of a list's images is the images of the prefix
pub take_map : {X Y : Type 0} (f : X → Y) (n : ℕ) (xs : List X) → map f (take n xs) ≡ take n (map f xs)
take_map f zero xs = refl
take_map f (suc n) [] = refl
take_map f (suc n) (x ∷ xs) = ap (λ r. f x ∷ r) (take_map f n xs)
