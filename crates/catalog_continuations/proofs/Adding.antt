-- Adding words that have a property.
use Rattle.std.proofs.Common.{◌≡◌, ◌∙◌, ◌<◌, ◌≤◌, ◌+◌, ◌++◌, ◌⊎◌, ℕ, zero, suc, Bool, true, Result, Ok, Err, OnOk, List, [], ◌∷◌, inl, inr, refl, sym, subst, take, length, get_or, arith}
use Rattle.std.proofs.lemmas.Bool.{cases_order}
use Rattle.std.proofs.lemmas.List.{take_more}
use Rattle.mix_base.specs.Ascents.{Among}
use Rattle.mix_base.proofs.Ascents.{among_cases, among_left, among_right}
use Rattle.catalog_continuations.specs.declared.form_word.FormWord.{FormWord}
use Rattle.catalog_continuations.specs.declared.line_form.LineForm.{LineForm}
use Rattle.catalog_continuations.specs.declared.line_form.LineForm.TheVariants as form
use Rattle.catalog_continuations.specs.declared.line_form.LineForm.TheVariants.{DeepBracket}
use Rattle.catalog_continuations.specs.declared.line_form.TheConstants.{FORMS}
use Rattle.mix_words.specs.Words.{words_of}
use Rattle.catalog_continuations.specs.Forms.{words_in}
use Rattle.catalog_continuations.specs.Next.{AreAdded, AreNext, Below, CanStand, LeadsAt, StandsIn, may_be_of}

-- nothing is added where nothing has the property
pub none_added : (P : FormWord → Type 0) (words : List FormWord) → ((w : FormWord) → ¬ P w) → AreAdded P words words
none_added P words none = record { kept = λ w h. h; each = λ w h. inl h; all = λ w h. absurd (none w h) }

-- before the first of a row of properties nothing has one
pub none_below : (P : ℕ → FormWord → Type 0) (words : List FormWord) → AreAdded (Below P 0) words words
none_below P words = none_added (Below P 0) words (λ w h. let less : h.0 < 0 = h.1 in absurd (omega (arith, less)))

-- words of the next property of a row are added
pub added_more : (P : ℕ → FormWord → Type 0) (n : ℕ) (a b c : List FormWord) → AreAdded (Below P n) a b → AreAdded (P n) b c → AreAdded (Below P (n + 1)) a c
added_more P n a b c h g = record { kept = λ w i. g.kept w (h.kept w i); each = λ w i. from w (g.each w i); all = λ w i. there w i.0 i.1 i.2 (at_or_below i.0 n i.1) }
  where
    at_or_below : (k m : ℕ) → k < m + 1 → (k < m) ⊎ (m ≡ k)
    at_or_below k m less = by_test (cases_order k m)
      where
        by_test : (k ≡ m) ⊎ ((k < m) ⊎ (m < k)) → (k < m) ⊎ (m ≡ k)
        by_test (inl same) = inr (sym same)
        by_test (inr (inl below)) = inl below
        by_test (inr (inr above)) = absurd (omega (arith, less, above))

    earlier : (w : FormWord) → Among w a ⊎ Below P n w → Among w a ⊎ Below P (n + 1) w
    earlier w (inl old) = inl old
    earlier w (inr (k, less, p)) = inr (k, omega (arith, less), p)

    from : (w : FormWord) → Among w b ⊎ P n w → Among w a ⊎ Below P (n + 1) w
    from w (inl old) = earlier w (h.each w old)
    from w (inr p) = inr (n, omega arith, p)

    there : (w : FormWord) (k : ℕ) → k < n + 1 → P k w → (k < n) ⊎ (n ≡ k) → Among w c
    there w k less p (inl below) = g.kept w (h.all w (k, below, p))
    there w k less p (inr same) = g.all w (subst (λ m. P m w) (sym same) p)

-- a word is pushed that has the property, where each that has it is that word
pub pushed : (P : FormWord → Type 0) (word : FormWord) (old new : List FormWord) → new ≡ old ++ word ∷ [] → P word → ((w : FormWord) → P w → w ≡ word) → AreAdded P old new
pushed P word old new e p only = record {
  kept = λ w h. subst (Among w) (sym e) (among_left old (word ∷ []) w h);
  each = λ w h. from w (among_cases old (word ∷ []) w (subst (Among w) e h));
  all = λ w h. subst (Among w) (sym e) (among_right old (word ∷ []) w (inl (only w h)));
}
  where
    from : (w : FormWord) → Among w old ⊎ Among w (word ∷ []) → Among w old ⊎ P w
    from w (inl h) = inl h
    from w (inr (inl same)) = inr (subst P (sym same) p)
    from w (inr (inr none)) = absurd none

-- a word is there already, where each that has the property is that word
pub had : (P : FormWord → Type 0) (word : FormWord) (words : List FormWord) → Among word words → ((w : FormWord) → P w → w ≡ word) → AreAdded P words words
had P word words h only = record { kept = λ w i. i; each = λ w i. inl i; all = λ w i. subst (λ v. Among v words) (sym (only w i)) h }

-- the words that were added to none for all forms are those that can stand
pub all_added : (front : List ℕ) (n : ℕ) (words : List FormWord) → 7 ≤ n → AreAdded (Below (λ k. StandsIn front (get_or FORMS.now k DeepBracket)) n) [] words → AreNext front words
all_added front n words h added = record { each = λ w i. from w (added.each w i); all = λ w i. added.all w (place w i.0 i.1) }
  where
    from : (w : FormWord) → Among w [] ⊎ Below (λ k. StandsIn front (get_or FORMS.now k DeepBracket)) n w → CanStand front w
    from w (inl none) = absurd none
    from w (inr (k, less, s)) = (get_or FORMS.now k DeepBracket, s)

    place : (w : FormWord) (f : LineForm) → StandsIn front f w → Below (λ k. StandsIn front (get_or FORMS.now k DeepBracket)) n w
    place w form.DeepBracket s = (0, omega (arith, h), s)
    place w form.Bracket s = (1, omega (arith, h), s)
    place w form.Csv s = (2, omega (arith, h), s)
    place w form.Table s = (3, omega (arith, h), s)
    place w form.Remote s = (4, omega (arith, h), s)
    place w form.Json s = (5, omega (arith, h), s)
    place w form.View s = (6, omega (arith, h), s)

-- a word that none of some is, nor the next one, is none of those with it
pub no_more : (words : List FormWord) (i : ℕ) (word d : FormWord) → i < length words → ¬ Among word (take i words) → ¬ (word ≡ get_or words i d) → ¬ Among word (take (i + 1) words)
no_more words i word d inside none other h = from (among_cases (take i words) (get_or words i d ∷ []) word (subst (Among word) (take_more words i d inside) h))
  where
    from : Among word (take i words) ⊎ Among word (get_or words i d ∷ []) → ⊥
    from (inl old) = none old
    from (inr (inl same)) = other same
    from (inr (inr nothing)) = nothing

-- the word at a place is among words
pub among_at : (words : List FormWord) (i : ℕ) (d : FormWord) → i < length words → Among (get_or words i d) words
among_at [] i d h = absurd (omega (arith, h))
among_at (w ∷ ws) zero d h = inl refl
among_at (w ∷ ws) (suc i) d h = inr (among_at ws i d (omega (arith, h)))

-- where a front may be of a form, the words that were added are those that stand in it
pub form_added :
    {E : Type 0} (front : List ℕ) (f : LineForm) (words : List FormWord) (old new : List FormWord) (may : Bool) (r : Result Unit E) → words ≡ words_in f → may ≡ true
    → may ≡ may_be_of (words_of front) f → OnOk r (AreAdded (Below (LeadsAt front words) (length words + 1)) old new) → OnOk r (AreAdded (StandsIn front f) old new)
form_added front f words old new may (Err e) same is tested h = tt
form_added front f words old new may (Ok u) same is tested h =
    let added : AreAdded (Below (LeadsAt front (words_in f)) (length (words_in f) + 1)) old new =
    subst (λ (ws : List FormWord). AreAdded (Below (LeadsAt front ws) (length ws + 1)) old new) same h in
    record { kept = added.kept; each = λ w i. from w (added.each w i); all = λ w i. added.all w i.1 }
  where
    from : (w : FormWord) → Among w old ⊎ Below (LeadsAt front (words_in f)) (length (words_in f) + 1) w → Among w old ⊎ StandsIn front f w
    from w (inl i) = inl i
    from w (inr b) = inr (sym tested ∙ is, b)
