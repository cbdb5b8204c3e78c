-- What is spelled between words and blanks, at the place after these words.
use Rattle.std.proofs.Common.{◌≡◌, ◌∙◌, ℕ, List, ◌∷◌, ◌++◌, Some, ap, length, take, drop, refl}
use Rattle.std.proofs.lemmas.List.{take_at, drop_at}
use Rattle.mix_words.specs.Places.{place_of_word}
use Rattle.mix_words.proofs.WordPlaces.{place_found}
use Rattle.mix_catalog.specs.Grammar.{SpellsBetween}
use Rattle.mix_catalog.proofs.Seens.{Begins}

-- where what is spelled between blanks begins
pub record Placed (n at : ℕ) (text prefix rest : List ℕ) : Type 0 where
  pub place : place_of_word n text ≡ Some at
  pub prefix_is : take at text ≡ prefix
  pub rest_is : drop at text ≡ rest

-- what is spelled between words and blanks begins at the place after those words
pub between_placed : (words : List (List ℕ)) (S B : List ℕ → Type 0) (text : List ℕ) (h : SpellsBetween words S B text) → Begins h.spelling → Placed (length words) (length h.prefix) text h.prefix (h.spelling ++ h.after)
between_placed words S B text h begins =
    let cut : text ≡ h.prefix ++ begins.byte ∷ (begins.rest ++ h.after) = h.parts ∙ ap (λ x. h.prefix ++ (x ++ h.after)) begins.parts in
    record {
      place = ap (place_of_word (length words)) cut ∙ place_found h.prefix (length words) begins.byte (begins.rest ++ h.after) (ap length h.words_are) h.blank_before begins.other;
      prefix_is = ap (take (length h.prefix)) h.parts ∙ take_at h.prefix (h.spelling ++ h.after) (length h.prefix) refl;
      rest_is = ap (drop (length h.prefix)) h.parts ∙ drop_at h.prefix (h.spelling ++ h.after) (length h.prefix) refl;
    }
