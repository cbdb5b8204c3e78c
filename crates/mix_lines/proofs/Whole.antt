-- The whole lines of a text.
use Rattle.std.proofs.Common.{◌≡◌, ◌∙◌, inl, inr, ℕ, Bool, true, false, cond, ◌==◌, ◌||◌, List, [], ◌∷◌, ◌++◌, refl, ap, sym, append_assoc}
use Rattle.mix_lines.specs.Heard.{has_lf, whole_lines}
use Rattle.mix_lines.specs.Reading.{AreWhole, HasNoLf}

-- no LF is found where no byte is one
none_found : (text : List ℕ) → HasNoLf text → has_lf text ≡ false
none_found [] none = refl
none_found (b ∷ bs) none = ap (λ lf. lf || has_lf bs) none.0 ∙ none_found bs none.1

-- the LF after a text is found
one_found : (body part : List ℕ) → has_lf (body ++ 10 ∷ part) ≡ true
one_found [] part = refl
one_found (b ∷ body) part = ap (λ lf. b == 10 || lf) (one_found body part) ∙ either (b == 10)
  where
    either : (lf : Bool) → (lf || true) ≡ true
    either true = refl
    either false = refl

-- a part of a line has no whole line in it
part_has_none : (part : List ℕ) → HasNoLf part → whole_lines part ≡ []
part_has_none [] none = refl
part_has_none (b ∷ bs) none = ap (λ lf. cond lf (b ∷ whole_lines bs) []) (none_found (b ∷ bs) none)

-- the whole lines of one line with its end and a part of a line after it are that line
after_body : (body part : List ℕ) → HasNoLf part → whole_lines (body ++ 10 ∷ part) ≡ body ++ 10 ∷ []
after_body [] part none = ap (λ ls. 10 ∷ ls) (part_has_none part none)
after_body (b ∷ body) part none =
    ap (λ lf. cond lf (b ∷ whole_lines (body ++ 10 ∷ part)) []) (one_found (b ∷ body) part) ∙ ap (λ ls. b ∷ ls) (after_body body part none)

-- the whole lines of whole lines with a part of one after them are the whole lines
pub whole_of : (text part : List ℕ) → AreWhole text → HasNoLf part → whole_lines (text ++ part) ≡ text
whole_of text part (inl empty) none = ap (λ t. whole_lines (t ++ part)) empty ∙ part_has_none part none ∙ sym empty
whole_of text part (inr end) none =
    ap (λ t. whole_lines (t ++ part)) end.1 ∙ ap whole_lines (append_assoc end.0 (10 ∷ []) part) ∙ after_body end.0 part none ∙ sym end.1
