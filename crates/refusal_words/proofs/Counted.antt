-- The number of the line of a place that stands further on in it.
use Rattle.std.proofs.Common.{◌≡◌, ◌≢◌, ◌∙◌, ◌+◌, ◌-◌, ◌≤◌, ◌==◌, ℕ, zero, suc, List, false, refl, ap, sym, length, take, drop, get_or, arith}
use Rattle.std.proofs.lemmas.Bool.Decides.{nat_tests}
use Rattle.std.proofs.lemmas.Grind.{common_steps}
use Rattle.std.proofs.lemmas.List.{get_or-take, length-take-le}
use Rattle.std.proofs.lemmas.List.Sums.{count_by_more_no}
use Rattle.catalog_continuations.specs.GoesOn.{IsOneLine}
use Rattle.text_places.specs.Lines.{IsWithoutLf}
use Rattle.refusal_words.specs.Catalog.{line_at}

-- a byte that is no LF
no_lf : (b : ℕ) → b ≢ 10 → b == 10 ≡ false
no_lf b h = grind (arith, nat_tests, h)

-- where no LF stands between two places, their lines have the same number
same_line : (text : List ℕ) (begin n at : ℕ) → at ≡ begin + n → at ≤ length text → IsWithoutLf text begin at → line_at text at ≡ line_at text begin
same_line text begin zero at e h alone = ap (line_at text) (omega (arith, e))
same_line text begin (suc n) at e h alone =
    let other : get_or text (begin + n) 0 == 10 ≡ false = no_lf (get_or text (begin + n) 0) (alone (begin + n) (omega arith) (omega (arith, e))) in
    let more = count_by_more_no (λ b. b == 10) text (begin + n) 0 (omega (arith, e, h)) other in
    let next : at ≡ begin + n + 1 = omega (arith, e) in
    ap (line_at text) next ∙ ap (λ k. k + 1) more
    ∙ same_line text begin n (begin + n) refl (omega (arith, e, h)) (λ k from to. alone k from (omega (arith, e, to)))

-- no LF stands in a text where none stands in a part of it
alone_in : (text : List ℕ) (begin m n : ℕ) → n ≤ m → IsWithoutLf (take m (drop begin text)) 0 n → IsWithoutLf text begin (begin + n)
alone_in text begin m n h alone = λ k from to.
    let there : get_or (take m (drop begin text)) (k - begin) 0 ≡ get_or text k 0 = grind (arith, common_steps, from, to, h) in
    λ e. alone (k - begin) (omega arith) (omega (arith, from, to)) (there ∙ e)

-- a place further on in a line has that line's number, where no LF stands before it in the rest of the text
pub line_further :
    (text : List ℕ) (begin n : ℕ) → begin + n ≤ length text → IsWithoutLf (take (length text - begin) (drop begin text)) 0 n
    → line_at text (begin + n) ≡ line_at text begin
line_further text begin n h alone = same_line text begin n (begin + n) refl h (alone_in text begin (length text - begin) n (omega (arith, h)) alone)

-- a front of a text without LF has none
pub front_one_line : (at : ℕ) (line : List ℕ) → at ≤ length line → IsOneLine line → IsOneLine (take at line)
front_one_line at line inside one = λ k less.
    let long : length (take at line) ≡ at = length-take-le at line inside in
    let same : get_or (take at line) k 0 ≡ get_or line k 0 = get_or-take at line k 0 (omega (arith, less, long)) in
    λ e. one k (omega (arith, less, long, inside)) (sym same ∙ e)
