-- What lines ask for, of which only a prefix is kept where they are too long.
use Rattle.std.proofs.Common.{◌≡◌, ◌<◌, ◌≤◌, ◌+◌, ◌-◌, ◌∙◌, inr, ℕ, zero, suc, Bool, true, false, cond, nat_lt, ◌==◌, List, [], ◌∷◌, ◌++◌, None, refl, ap, sym, subst, arith, length, take, drop, get_or, slice_index, slice_range, append_assoc, length-append}
use Rattle.std.proofs.lemmas.List.{take_all, take-append-le, length-take-le}
use Rattle.mix_base.proofs.Lists.{append_nil, prefix_is}
use Rattle.mix_words.specs.Lines.{lines_of, without_cr}
use Rattle.mix_words.proofs.LineCuts.{is_lf, line_cut, last_line}
use Rattle.mix_words.proofs.Pieces.{Free}
use Rattle.mix_script.specs.Steps.{line_steps}
use Rattle.mix_script.specs.declared.step.Forms.TheVariants.{WithIds}
use Rattle.mix_lines.specs.Heard.{no_form, asked, heard, line_asks, lines_ask}
use Rattle.mix_lines.specs.Reading.{HasNoLf, IsLine}

-- a text without LF is free of it in the words of the lines' definition
free : (text : List ℕ) → HasNoLf text → Free is_lf text
free [] h = tt
free (b ∷ bs) h = (h.0, free bs h.1)

-- a text without LF after another without LF has none
pub no_lf_append : (xs ys : List ℕ) → HasNoLf xs → HasNoLf ys → HasNoLf (xs ++ ys)
no_lf_append [] ys h k = k
no_lf_append (b ∷ bs) ys h k = (h.0, no_lf_append bs ys h.1 k)

-- a prefix of a text without LF has none
pub no_lf_take : (n : ℕ) (xs : List ℕ) → HasNoLf xs → HasNoLf (take n xs)
no_lf_take zero xs h = tt
no_lf_take (suc n) [] h = tt
no_lf_take (suc n) (b ∷ bs) h = (h.0, no_lf_take n bs h.1)

-- the byte after a text is what stands at the text's length
byte_after : (body more : List ℕ) (b : ℕ) → get_or (body ++ b ∷ more) (length body) 0 ≡ b
byte_after [] more b = refl
byte_after (c ∷ body) more b = let e : length (c ∷ body) ≡ suc (length body) = omega arith in ap (λ n. get_or (c ∷ body ++ b ∷ more) n 0) e ∙ byte_after body more b

-- what stands after a text and one byte more is what is left without them
rest_after : (body more : List ℕ) (b : ℕ) → drop (length body + 1) (body ++ b ∷ more) ≡ more
rest_after [] more b = let e : 0 + 1 ≡ 1 = omega arith in ap (λ n. drop n (b ∷ more)) e
rest_after (c ∷ body) more b = let e : length (c ∷ body) + 1 ≡ suc (length body + 1) = omega arith in ap (λ n. drop n (c ∷ body ++ b ∷ more)) e ∙ rest_after body more b

-- the lines of a text with an LF in it
lines_with_lf : (body more : List ℕ) → HasNoLf body → lines_of (body ++ 10 ∷ more) ≡ without_cr body ∷ lines_of more
lines_with_lf body more none =
    sym (line_cut text 0 at [] (without_cr (slice_range text 0 at) ∷ []) (lines_of text) (omega arith) inside (subst (Free is_lf) (sym prefix) (free body none)) lf refl refl)
    ∙ ap (λ l. without_cr l ∷ lines_of (drop (at + 1) text)) prefix ∙ ap (λ l. without_cr body ∷ lines_of l) after
  where
    text : List ℕ
    text = body ++ 10 ∷ more

    at : ℕ
    at = length body

    inside : at < length text
    inside = omega (arith, length-append body (10 ∷ more))

    prefix : slice_range text 0 at ≡ body
    prefix = prefix_is body more 10 (at - 0) (omega arith)

    lf : is_lf (slice_index text at) ≡ true
    lf = subst (λ b. is_lf b ≡ true) (sym (byte_after body more 10)) refl

    after : drop (at + 1) text ≡ more
    after = rest_after body more 10

-- what a text with an LF asks for is what the line before it asks for, and then the rest
pub heard_line : (body more : List ℕ) → HasNoLf body → heard (body ++ 10 ∷ more) ≡ line_asks (without_cr body) ++ heard more
heard_line body more none = ap lines_ask (lines_with_lf body more none)

-- a text without LF has one line, itself
pub lines_without : (line : List ℕ) → HasNoLf line → 0 < length line → lines_of line ≡ line ∷ []
lines_without line none some = sym (last_line line 0 [] (line ∷ []) (lines_of line) some (free line none) refl refl)

-- a text without LF asks for what its one line asks for
pub heard_last : (line : List ℕ) → HasNoLf line → 0 < length line → heard line ≡ line_asks line
heard_last line none some = ap lines_ask (lines_without line none some) ∙ append_nil (line_asks line)

-- a line that is too long is of no form
long_line : (line : List ℕ) → 1048576 < length line → line_asks line ≡ no_form ∷ []
long_line line long = let e : nat_lt 1048576 (length line) ≡ true = grind arith in ap (λ b. asked (cond b None (line_steps WithIds line))) e

-- a line is at most one byte longer than without the CR at its end
cr_length : (line : List ℕ) → length line ≤ length (without_cr line) + 1
cr_length [] = omega arith
cr_length (b ∷ []) = omega arith
cr_length (b ∷ c ∷ bs) = let h = cr_length (c ∷ bs) in omega (arith, h)

-- what stands after the first LF of a text
abbrev after_lf : List ℕ → List ℕ
after_lf [] = []
after_lf (b ∷ bs) = cond (b == 10) bs (after_lf bs)

-- a text with too long a first line is of no form there, and then asks for what follows its first LF
long_asks : (line more : List ℕ) → HasNoLf line → 1048577 < length line → heard (line ++ more) ≡ no_form ∷ heard (after_lf more)
long_asks line [] none long = ap heard (append_nil line) ∙ heard_last line none (omega (arith, long)) ∙ long_line line (omega (arith, long))
long_asks line (b ∷ bs) none long = by_lf (b == 10) refl (λ h. long_asks (line ++ b ∷ []) bs h (omega (arith, long, length-append line (b ∷ []))))
  where
    by_lf : (lf : Bool) → b == 10 ≡ lf → (HasNoLf (line ++ b ∷ []) → heard ((line ++ b ∷ []) ++ bs) ≡ no_form ∷ heard (after_lf bs)) → heard (line ++ b ∷ bs) ≡ no_form ∷ heard (cond lf bs (after_lf bs))
    by_lf true e later =
        let is : b ≡ 10 = grind arith in
        ap (λ c. heard (line ++ c ∷ bs)) is ∙ heard_line line bs none ∙ ap (λ asks. asks ++ heard bs) (long_line (without_cr line) (omega (arith, long, cr_length line)))
    by_lf false e later = ap heard (sym (append_assoc line (b ∷ []) bs)) ∙ later (no_lf_append line (b ∷ []) none (e, tt))

-- a text of which a prefix is kept asks for the same, however it goes on
pub kept_asks : (line more : List ℕ) → HasNoLf line → heard (take 1048578 line ++ more) ≡ heard (line ++ more)
kept_asks line more none = by_length (nat_lt 1048578 (length line)) refl
  where
    by_length : (longer : Bool) → nat_lt 1048578 (length line) ≡ longer → heard (take 1048578 line ++ more) ≡ heard (line ++ more)
    by_length true e =
        let long : 1048578 < length line = grind arith in
        let kept : length (take 1048578 line) ≡ 1048578 = length-take-le 1048578 line (omega (arith, long)) in
        long_asks (take 1048578 line) more (no_lf_take 1048578 line none) (omega (arith, kept)) ∙ sym (long_asks line more none (omega (arith, long)))
    by_length false e = let short : length line ≤ 1048578 = grind arith in ap (λ l. heard (l ++ more)) (take_all 1048578 line short)

-- a line with its end, of which a prefix is kept, is one line, and asks for the same
pub kept_line : (line : List ℕ) → HasNoLf line → IsLine (take 1048578 (line ++ 10 ∷ [])) × (0 < length (take 1048578 (line ++ 10 ∷ [])))
    × ((more : List ℕ) → heard (line ++ 10 ∷ more) ≡ heard (take 1048578 (line ++ 10 ∷ [])) ++ heard more)
kept_line line none = by_length (nat_lt (length line) 1048578) refl
  where
    whole : List ℕ
    whole = line ++ 10 ∷ []

    long_whole : length whole ≡ length line + 1
    long_whole = length-append line (10 ∷ [])

    by_length : (shorter : Bool) → nat_lt (length line) 1048578 ≡ shorter
        → IsLine (take 1048578 whole) × (0 < length (take 1048578 whole)) × ((more : List ℕ) → heard (line ++ 10 ∷ more) ≡ heard (take 1048578 whole) ++ heard more)
    by_length true e =
        let short : length line < 1048578 = grind arith in
        let same : take 1048578 whole ≡ whole = take_all 1048578 whole (omega (arith, short, long_whole)) in
        rw same (
          inr (ap (λ ls. length ls) (lines_with_lf line [] none)),
          omega (arith, long_whole),
          λ more. heard_line line more none ∙ ap (λ asks. asks ++ heard more) (sym (heard_line line [] none ∙ append_nil (line_asks (without_cr line)))),
        )
    by_length false e =
        let long : 1048578 ≤ length line = grind arith in
        let same : take 1048578 whole ≡ take 1048578 line = take-append-le 1048578 line (10 ∷ []) long in
        let kept : length (take 1048578 line) ≡ 1048578 = length-take-le 1048578 line long in
        let free = no_lf_take 1048578 line none in
        rw same (
          inr (ap (λ ls. length ls) (lines_without (take 1048578 line) free (omega (arith, kept)))),
          omega (arith, kept),
          λ more. long_asks line (10 ∷ more) none (omega (arith, long))
              ∙ ap (λ asks. asks ++ heard more) (sym (heard_last (take 1048578 line) free (omega (arith, kept)) ∙ long_line (take 1048578 line) (omega (arith, kept)))),
        )
