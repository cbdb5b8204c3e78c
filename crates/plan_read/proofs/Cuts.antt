-- The pieces of a text, cut at one separator after another.
use Rattle.std.proofs.Common.{◌≡◌, ◌<◌, ◌≤◌, ◌+◌, ◌-◌, ◌∙◌, ◌==◌, ◌&&◌, ℕ, Bool, true, false, cond, List, [], ◌∷◌, ◌++◌, refl, ap, sym, arith, length, take, drop, get_or, slice_index, slice_range, append_assoc, length-drop, get_or-drop}
use Rattle.std.proofs.lemmas.Bool.Decides.{nat_tests}
use Rattle.std.proofs.lemmas.List.{take_more, drop_more}
use Rattle.mix_base.proofs.Lists.{append_nil}
use Rattle.mix_words.specs.Words.{with_first}
use Rattle.mix_words.proofs.Pieces.{rest_whole}
use Rattle.plan_read.specs.Words.{mode_after, is_outside, cut}
use Rattle.plan_read.specs.declared.words.Mode.{Mode}
use Rattle.plan_read.specs.declared.words.Mode.TheVariants.{Plain, Braced, Quoted, Escaped}

-- bytes before the first of these pieces
abbrev pub with_prefix : List ℕ → List (List ℕ) → List (List ℕ)
with_prefix x [] = x ∷ []
with_prefix x (piece ∷ pieces) = (x ++ piece) ∷ pieces

-- an empty prefix leaves pieces with a first byte as they are
prefix_nothing : (b : ℕ) (pieces : List (List ℕ)) → with_prefix [] (with_first b pieces) ≡ with_first b pieces
prefix_nothing b [] = refl
prefix_nothing b (piece ∷ pieces) = refl

-- an empty prefix leaves what was cut as it is
pub nothing_before : (separator : ℕ) (m : Mode) (x : List ℕ) → with_prefix [] (cut separator m x) ≡ cut separator m x
nothing_before separator m [] = refl
nothing_before separator m (b ∷ bs) = by_case (is_outside m && b == separator)
  where
    by_case : (c : Bool) → with_prefix [] (cond c ([] ∷ cut separator Plain bs) (with_first b (cut separator (mode_after m b) bs)))
        ≡ cond c ([] ∷ cut separator Plain bs) (with_first b (cut separator (mode_after m b) bs))
    by_case true = refl
    by_case false = prefix_nothing b (cut separator (mode_after m b) bs)

-- bytes and one more before the first of pieces are that one before it, and then the bytes before that
prefix_byte : (x : List ℕ) (b : ℕ) (pieces : List (List ℕ)) → with_prefix (x ++ b ∷ []) pieces ≡ with_prefix x (with_first b pieces)
prefix_byte x b [] = refl
prefix_byte x b (piece ∷ pieces) = ap (λ y. y ∷ pieces) (append_assoc x (b ∷ []) piece)

-- the part between two places, with the byte at the second, is the part up to the next place
grown : (xs : List ℕ) (from to : ℕ) → from ≤ to → to < length xs → slice_range xs from (to + 1) ≡ slice_range xs from to ++ slice_index xs to ∷ []
grown xs from to h k =
    let n : to + 1 - from ≡ (to - from) + 1 = omega arith in
    let i : from + (to - from) ≡ to = omega arith in
    let inside : to - from < length (drop from xs) = omega (arith, length-drop from xs) in
    ap (λ m. take m (drop from xs)) n ∙ take_more (drop from xs) (to - from) 0 inside
    ∙ ap (λ b. take (to - from) (drop from xs) ++ b ∷ []) (get_or-drop from xs (to - from) 0 ∙ ap (λ m. get_or xs m 0) i)

-- the part of a list from a place to the same place is empty
empty : (xs : List ℕ) (i : ℕ) → slice_range xs i i ≡ []
empty xs i = let e : i - i ≡ 0 = omega arith in ap (λ n. take n (drop i xs)) e

-- what the pieces so far, the open one and those of what is left make together
abbrev pub all_pieces : ℕ → List (List ℕ) → List ℕ → ℕ → Mode → ℕ → List (List ℕ)
all_pieces separator pieces text from m at = pieces ++ with_prefix (slice_range text from at) (cut separator m (drop at text))

-- a separator that stands outside ends the open piece, and all pieces together stay the same
pub cut_here : (separator : ℕ) (pieces more : List (List ℕ)) (text : List ℕ) (from at : ℕ) (m : Mode) → at < length text → is_outside m ≡ true → (slice_index text at == separator) ≡ true
    → more ≡ pieces ++ slice_range text from at ∷ [] → all_pieces separator more text (at + 1) m (at + 1) ≡ all_pieces separator pieces text from m at
cut_here separator pieces more text from at m h o s e =
    let rest : drop at text ≡ slice_index text at ∷ drop (at + 1) text = drop_more text at 0 h in
    ap (λ ps. ps ++ with_prefix (slice_range text (at + 1) (at + 1)) (cut separator m (drop (at + 1) text))) e
    ∙ append_assoc pieces (slice_range text from at ∷ []) (with_prefix (slice_range text (at + 1) (at + 1)) (cut separator m (drop (at + 1) text)))
    ∙ ap (λ ps. pieces ++ slice_range text from at ∷ ps)
    (ap (λ x. with_prefix x (cut separator m (drop (at + 1) text))) (empty text (at + 1)) ∙ nothing_before separator m (drop (at + 1) text)
    ∙ ap (λ n. cut separator n (drop (at + 1) text)) (outside_plain m o))
    ∙ sym (ap (λ r. pieces ++ with_prefix (slice_range text from at) (cut separator m r)) rest
    ∙ ap (λ c. pieces ++ with_prefix (slice_range text from at) (cond c ([] ∷ cut separator Plain (drop (at + 1) text)) (with_first (slice_index text at) (cut separator (mode_after m (slice_index text at)) (drop (at + 1) text))))) (both o s)
    ∙ ap (λ x. pieces ++ x ∷ cut separator Plain (drop (at + 1) text)) (append_nil (slice_range text from at)))
  where
    outside_plain : (m : Mode) → is_outside m ≡ true → m ≡ Plain
    outside_plain Plain o = refl
    outside_plain Braced o = cc
    outside_plain Quoted o = cc
    outside_plain Escaped o = cc

    both : {a b : Bool} → a ≡ true → b ≡ true → (a && b) ≡ true
    both {a = true} {b = true} p q = refl
    both {a = false} p q = p
    both {a = true} {b = false} p q = q

-- a byte that is no separator outside joins the open piece, and all pieces together stay the same
pub goes_on : (separator : ℕ) (pieces : List (List ℕ)) (text : List ℕ) (from at : ℕ) (m : Mode) → from ≤ at → at < length text → (is_outside m && slice_index text at == separator) ≡ false
    → all_pieces separator pieces text from (mode_after m (slice_index text at)) (at + 1) ≡ all_pieces separator pieces text from m at
goes_on separator pieces text from at m k h s =
    let rest : drop at text ≡ slice_index text at ∷ drop (at + 1) text = drop_more text at 0 h in
    ap (λ x. pieces ++ with_prefix x (cut separator (mode_after m (slice_index text at)) (drop (at + 1) text))) (grown text from at k h)
    ∙ ap (λ ps. pieces ++ ps) (prefix_byte (slice_range text from at) (slice_index text at) (cut separator (mode_after m (slice_index text at)) (drop (at + 1) text)))
    ∙ sym (ap (λ r. pieces ++ with_prefix (slice_range text from at) (cut separator m r)) rest
    ∙ ap (λ c. pieces ++ with_prefix (slice_range text from at) (cond c ([] ∷ cut separator Plain (drop (at + 1) text)) (with_first (slice_index text at) (cut separator (mode_after m (slice_index text at)) (drop (at + 1) text))))) s)

-- the byte is no separator
pub stays_by_byte : (m : Mode) (b separator : ℕ) → (b ≡ separator → ⊥) → (is_outside m && b == separator) ≡ false
stays_by_byte m b separator h = let e : (b == separator) ≡ false = grind (arith, nat_tests, h) in by_mode (is_outside m) (b == separator) e
  where
    by_mode : (o c : Bool) → c ≡ false → (o && c) ≡ false
    by_mode true c e = e
    by_mode false c e = refl

-- where the mode is not outside, no byte counts as a separator
pub stays_by_mode : (m : Mode) (c : Bool) → is_outside m ≡ false → (is_outside m && c) ≡ false
stays_by_mode m c h = ap (λ o. o && c) h

-- at the end of a text, the pieces with the open one as their last are those that the text is cut into
pub last_piece : (separator : ℕ) (pieces more : List (List ℕ)) (text : List ℕ) (from at : ℕ) (m : Mode) → length text ≤ at → at ≤ length text
    → more ≡ pieces ++ drop from text ∷ [] → all_pieces separator pieces text from m at ≡ cut separator Plain text → more ≡ cut separator Plain text
last_piece separator pieces more text from at m h k e whole =
    let same : at ≡ length text = omega arith in
    e
    ∙ ap (λ x. pieces ++ x ∷ []) (sym (rest_whole text from) ∙ sym (append_nil (slice_range text from (length text))))
    ∙ ap (λ r. pieces ++ with_prefix (slice_range text from (length text)) (cut separator m r)) (sym (nothing_left text))
    ∙ sym (ap (λ n. all_pieces separator pieces text from m n) same) ∙ whole
  where
    nothing_left : (x : List ℕ) → drop (length x) x ≡ []
    nothing_left [] = refl
    nothing_left (b ∷ x) = nothing_left x
