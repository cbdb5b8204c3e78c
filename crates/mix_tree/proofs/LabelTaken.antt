-- What is seen of a label that is taken in pieces.
use Rattle.std.proofs.Common.{◌≡◌, ◌⊎◌, inl, inr, ◌<◌, ◌≤◌, ◌+◌, ◌∙◌, ◌==◌, ℕ, Bool, true, false, cond, IsTrue, List, [], ◌∷◌, ◌++◌, Some, None, refl, sym, ap, subst, arith, length, append_assoc, drop, slice_range, slice_index, length-drop}
use Rattle.std.proofs.lemmas.Bool.Decides.{nat_tests}
use Rattle.std.proofs.lemmas.List.{drop_more}
use Rattle.std.proofs.lemmas.Str.{IsCharBoundary-end, IsCharBoundary-before_ascii}
use Rattle.std.specs.List.{list_all}
use Rattle.std.specs.Str.{IsCharBoundary}
use Rattle.mix_base.proofs.Lists.{append_nil}
use Rattle.mix_base.proofs.Choices.{and_parts, none_some, some_is}
use Rattle.mix_base.proofs.Slices.{slice_then, slice_length, drop_end}
use Rattle.mix_tree.specs.Spelling.{is_bare}
use Rattle.mix_tree.specs.LabelGrammar.{is_plain, is_escape, escaped_byte}
use Rattle.mix_tree.specs.LabelMachine.{Spot, start, in_bare, in_quotes, in_escape, after_quote, step, got, unexpected, ends, or_stop, seen_from}
use Rattle.mix_tree.specs.LabelPieces.{escape_of}
use Rattle.mix_tree.proofs.LabelComplete.{plain_step}

-- where the spelling goes on with a byte, what is seen is what is seen after that byte
pub seen_byte : (s t : Spot) (i b : ℕ) (y : List ℕ) → step s b ≡ Some t → seen_from s i (b ∷ y) ≡ seen_from t (i + 1) y
seen_byte s t i b y e = ap (or_stop (λ u. seen_from u (i + 1) y) _) e

-- bytes that stand for themselves between quotes are passed, and are put to the label
plain_seen : (x y l : List ℕ) (i : ℕ) → IsTrue (list_all is_plain x) → seen_from (in_quotes l) i (x ++ y) ≡ seen_from (in_quotes (l ++ x)) (i + length x) y
plain_seen [] y l i h =
    let none : i ≡ i + length {A = ℕ} [] = omega arith in
    ap (λ k. seen_from (in_quotes k) i y) (sym (append_nil l)) ∙ ap (λ n. seen_from (in_quotes (l ++ [])) n y) none
plain_seen (b ∷ x) y l i h =
    let parts = and_parts (is_plain b) (list_all is_plain x) h in
    let one : i + 1 + length x ≡ i + length (b ∷ x) = omega arith in
    seen_byte (in_quotes l) (in_quotes (l ++ b ∷ [])) i b (x ++ y) (plain_step b l parts.0) ∙ plain_seen x y (l ++ b ∷ []) (i + 1) parts.1
    ∙ ap (λ k. seen_from (in_quotes k) (i + 1 + length x) y) (append_assoc l (b ∷ []) x) ∙ ap (λ n. seen_from (in_quotes (l ++ b ∷ x)) n y) one

-- the bytes of a text between two places that stand for themselves between quotes are passed, and are put to the label
pub quotes_seen : (x l : List ℕ) (at end : ℕ) → at ≤ end → end ≤ length x → IsTrue (list_all is_plain (slice_range x at end))
    → seen_from (in_quotes l) at (drop at x) ≡ seen_from (in_quotes (l ++ slice_range x at end)) end (drop end x)
quotes_seen x l at end order inside h =
    let place : at + length (slice_range x at end) ≡ end = omega (arith, slice_length x at end order inside) in
    ap (seen_from (in_quotes l) at) (sym (slice_then x at end order)) ∙ plain_seen (slice_range x at end) (drop end x) l at h
    ∙ ap (λ n. seen_from (in_quotes (l ++ slice_range x at end)) n (drop end x)) place

-- a text that ends between quotes is seen to end within a spelling
pub cut_seen : (x l : List ℕ) (end : ℕ) → length x ≤ end → seen_from (in_quotes l) end (drop end x) ≡ ends
cut_seen x l end h = ap (seen_from (in_quotes l) end) (drop_end x end h)

-- after the closing quote the label has ended
closed_seen : (l y : List ℕ) (i : ℕ) → seen_from (after_quote l) i y ≡ got l i y
closed_seen l [] i = refl
closed_seen l (b ∷ y) i = refl

-- where the spelling goes on with a byte of a text, what is seen there is what is seen after that byte
byte_seen : (x : List ℕ) (s t : Spot) (i : ℕ) → i < length x → step s (slice_index x i) ≡ Some t → seen_from s i (drop i x) ≡ seen_from t (i + 1) (drop (i + 1) x)
byte_seen x s t i inside e = ap (seen_from s i) (drop_more x i 0 inside) ∙ seen_byte s t i (slice_index x i) (drop (i + 1) x) e

-- at the closing quote the label is seen to end
pub quote_seen : (x l : List ℕ) (end : ℕ) → end < length x → slice_index x end ≡ 34 → seen_from (in_quotes l) end (drop end x) ≡ got l (end + 1) (drop (end + 1) x)
quote_seen x l end inside e = byte_seen x (in_quotes l) (after_quote l) end inside (ap (step (in_quotes l)) e) ∙ closed_seen l (drop (end + 1) x) (end + 1)

-- at a backslash between quotes an escape is seen to begin
backslash_seen : (x l : List ℕ) (end : ℕ) → end < length x → slice_index x end ≡ 92 → seen_from (in_quotes l) end (drop end x) ≡ seen_from (in_escape l) (end + 1) (drop (end + 1) x)
backslash_seen x l end inside e = byte_seen x (in_quotes l) (in_escape l) end inside (ap (step (in_quotes l)) e)

-- a text that ends with a backslash between quotes is seen to end within a spelling
pub escape_cut : (x l : List ℕ) (end : ℕ) → end < length x → slice_index x end ≡ 92 → length x ≤ end + 1 → seen_from (in_quotes l) end (drop end x) ≡ ends
escape_cut x l end inside e h = backslash_seen x l end inside e ∙ ap (seen_from (in_escape l) (end + 1)) (drop_end x (end + 1) h)

-- a byte that is no escape does not go on after a backslash
no_escape : (l : List ℕ) (b : ℕ) → escape_of b ≡ None → step (in_escape l) b ≡ None
no_escape l b e = by_case (is_escape b) e
  where
    by_case : (c : Bool) → cond c (Some (escaped_byte b)) None ≡ None → cond c (Some (in_quotes (l ++ escaped_byte b ∷ []))) None ≡ None
    by_case true f = none_some (escaped_byte b) (sym f)
    by_case false f = refl

-- a byte of an escape goes on after a backslash, as the byte that it means
some_escape : (l : List ℕ) (b m : ℕ) → escape_of b ≡ Some m → step (in_escape l) b ≡ Some (in_quotes (l ++ m ∷ []))
some_escape l b m e = by_case (is_escape b) e
  where
    by_case : (c : Bool) → cond c (Some (escaped_byte b)) None ≡ Some m → cond c (Some (in_quotes (l ++ escaped_byte b ∷ []))) None ≡ Some (in_quotes (l ++ m ∷ []))
    by_case true f = ap (λ d. Some (in_quotes (l ++ d ∷ []))) (some_is (escaped_byte b) m f)
    by_case false f = none_some m f

-- between quotes, after a backslash, a byte that is no escape is seen not to fit
pub escape_wrong : (x l : List ℕ) (end : ℕ) → end < length x → slice_index x end ≡ 92 → end + 1 < length x → escape_of (slice_index x (end + 1)) ≡ None
    → seen_from (in_quotes l) end (drop end x) ≡ unexpected (end + 1)
escape_wrong x l end inside e more n =
    backslash_seen x l end inside e ∙ ap (seen_from (in_escape l) (end + 1)) (drop_more x (end + 1) 0 more)
    ∙ ap (or_stop (λ t. seen_from t (end + 1 + 1) (drop (end + 1 + 1) x)) (unexpected (end + 1))) (no_escape l (slice_index x (end + 1)) n)

-- an escape between quotes is seen as the byte that it means
pub escape_seen : (x l : List ℕ) (end m : ℕ) → end < length x → slice_index x end ≡ 92 → end + 1 < length x → escape_of (slice_index x (end + 1)) ≡ Some m
    → seen_from (in_quotes l) end (drop end x) ≡ seen_from (in_quotes (l ++ m ∷ [])) (end + 2) (drop (end + 2) x)
escape_seen x l end m inside e more n =
    let two : end + 1 + 1 ≡ end + 2 = omega arith in
    backslash_seen x l end inside e ∙ byte_seen x (in_escape l) (in_quotes (l ++ m ∷ [])) (end + 1) more (some_escape l (slice_index x (end + 1)) m n)
    ∙ ap (λ k. seen_from (in_quotes (l ++ m ∷ [])) k (drop k x)) two

-- what does not stand for itself is a quote or a backslash
pub not_plain : (b : ℕ) → is_plain b ≡ false → (b == 34) ≡ false → b ≡ 92
not_plain b h k = grind (arith, nat_tests)

-- a byte that does not stand for itself between quotes is ASCII
pub not_plain_ascii : (b : ℕ) → is_plain b ≡ false → b < 128
not_plain_ascii b h = grind (arith, nat_tests)

-- what an escape means is ASCII, as it is
pub escape_ascii : (b m : ℕ) → escape_of b ≡ Some m → (b < 128) × (m < 128)
escape_ascii b m e = by_case (is_escape b) refl e
  where
    low : IsTrue (is_escape b) → b < 128
    low h = grind (arith, nat_tests)

    meant : (c d : Bool) → b < 128 → cond c 10 (cond d 9 b) < 128
    meant c d h = grind arith

    by_case : (c : Bool) → is_escape b ≡ c → cond c (Some (escaped_byte b)) None ≡ Some m → (b < 128) × (m < 128)
    by_case true h f = (low h, subst (λ k. k < 128) (some_is (escaped_byte b) m f) (meant (b == 110) (b == 116) (low h)))
    by_case false h f = none_some m f

-- a place where the text ends, or an ASCII byte stands, is where a character begins
pub scan_boundary : (x : List ℕ) (end : ℕ) → end ≤ length x → (end < length x → slice_index x end < 128) → IsCharBoundary x end
scan_boundary x end inside h = by_cases (same_or_less end (length x) inside)
  where
    same_or_less : (i j : ℕ) → i ≤ j → (i < j) ⊎ (i ≡ j)
    same_or_less i j k = grind arith

    by_cases : (end < length x) ⊎ (end ≡ length x) → IsCharBoundary x end
    by_cases (inl k) = IsCharBoundary-before_ascii x end k (h k)
    by_cases (inr e) = subst (IsCharBoundary x) (sym e) (IsCharBoundary-end x)

-- the text is empty, or does not begin with a byte of a bare character
abbrev pub NoBare : List ℕ → Type 0
NoBare [] = Unit {0}
NoBare (b ∷ y) = is_bare b ≡ false

-- a bare label is seen up to the end of its bare characters
bare_seen : (x y l : List ℕ) (i : ℕ) → IsTrue (list_all is_bare x) → NoBare y → seen_from (in_bare l) i (x ++ y) ≡ got (l ++ x) (i + length x) y
bare_seen [] [] l i h k = let none : i ≡ i + length {A = ℕ} [] = omega arith in ap (λ m. got m i []) (sym (append_nil l)) ∙ ap (λ n. got (l ++ []) n []) none
bare_seen [] (c ∷ y) l i h k =
    let none : i ≡ i + length {A = ℕ} [] = omega arith in
    rw k refl ∙ ap (λ m. got m i (c ∷ y)) (sym (append_nil l)) ∙ ap (λ n. got (l ++ []) n (c ∷ y)) none
bare_seen (b ∷ x) y l i h k =
    let parts = and_parts (is_bare b) (list_all is_bare x) h in
    let one : i + 1 + length x ≡ i + length (b ∷ x) = omega arith in
    let goes : step (in_bare l) b ≡ Some (in_bare (l ++ b ∷ [])) = rw parts.0 refl in
    seen_byte (in_bare l) (in_bare (l ++ b ∷ [])) i b (x ++ y) goes ∙ bare_seen x y (l ++ b ∷ []) (i + 1) parts.1 k
    ∙ ap (λ m. got m (i + 1 + length x) y) (append_assoc l (b ∷ []) x) ∙ ap (λ n. got (l ++ b ∷ x) n y) one

-- bare characters, after which none follows, are seen as the label
label_seen : (x y : List ℕ) (i : ℕ) → 0 < length x → IsTrue (list_all is_bare x) → NoBare y → seen_from start i (x ++ y) ≡ got x (i + length x) y
label_seen [] y i some h k = absurd (omega arith)
label_seen (b ∷ x) y i some h k =
    let parts = and_parts (is_bare b) (list_all is_bare x) h in
    let one : i + 1 + length x ≡ i + length (b ∷ x) = omega arith in
    let goes : step start b ≡ Some (in_bare (b ∷ [])) = rw parts.0 refl in
    seen_byte start (in_bare (b ∷ [])) i b (x ++ y) goes ∙ bare_seen x y (b ∷ []) (i + 1) parts.1 k ∙ ap (λ n. got (b ∷ x) n y) one

-- where a scan ends, no bare character goes on
no_bare : (x : List ℕ) (end : ℕ) → (end < length x → is_bare (slice_index x end) ≡ false) → end ≤ length x → NoBare (drop end x)
no_bare x end h inside = by_rest (drop end x) refl
  where
    by_rest : (y : List ℕ) → drop end x ≡ y → NoBare y
    by_rest [] e = tt
    by_rest (b ∷ y) e =
        let more : end < length x = omega (arith, length-drop end x, ap length e) in
        let same : slice_index x end ≡ b = ap (λ r. slice_index r 0) (sym (drop_more x end 0 more) ∙ e) in
        subst (λ c. is_bare c ≡ false) same (h more)

-- where a bare character stands at the beginning of a scan, and none at its end, the scan ends after its beginning
pub passed : (x : List ℕ) (from end : ℕ) → from ≤ end → IsTrue (is_bare (slice_index x from)) → from < length x → (end < length x → is_bare (slice_index x end) ≡ false) → from < end
passed x from end order bare inside h = by_cases (same_or_less from end order)
  where
    same_or_less : (i j : ℕ) → i ≤ j → (i < j) ⊎ (i ≡ j)
    same_or_less i j k = grind arith

    both : {Q : Type 0} (c : Bool) → IsTrue c → c ≡ false → Q
    both true p q = cc
    both false p q = cc

    by_cases : (from < end) ⊎ (from ≡ end) → from < end
    by_cases (inl k) = k
    by_cases (inr e) = both (is_bare (slice_index x from)) bare (ap (λ n. is_bare (slice_index x n)) e ∙ h (subst (λ n. n < length x) e inside))

-- the bare characters of a text from a place on are seen as a label
pub bare_label_seen : (x : List ℕ) (from end : ℕ) → from ≤ end → end ≤ length x → from < length x → IsTrue (is_bare (slice_index x from)) → IsTrue (list_all is_bare (slice_range x from end))
    → (end < length x → is_bare (slice_index x end) ≡ false) → seen_from start from (drop from x) ≡ got (slice_range x from end) end (drop end x)
bare_label_seen x from end order within inside first all h =
    let long = slice_length x from end order within in
    let place : from + length (slice_range x from end) ≡ end = omega (arith, long) in
    let some : 0 < length (slice_range x from end) = omega (arith, long, passed x from end order first inside h) in
    ap (seen_from start from) (sym (slice_then x from end order)) ∙ label_seen (slice_range x from end) (drop end x) from some all (no_bare x end h within)
    ∙ ap (λ n. got (slice_range x from end) n (drop end x)) place

-- what is not bare is ASCII
pub not_bare_ascii : (b : ℕ) → is_bare b ≡ false → b < 128
not_bare_ascii b h = grind (arith, nat_tests)
