-- What single words read as.
use Rattle.std.proofs.Common.{◌≡◌, ◌<◌, ◌≤◌, ◌∙◌, ◌&&◌, ℕ, zero, suc, Bool, true, false, cond, List, [], ◌∷◌, Option, Some, None, inl, inr, ◌+◌, refl, sym, ap, subst, arith, length, drop, replicate, option_and_then, nat_le}
use Rattle.std.proofs.lemmas.Bool.Decides.{nat_tests}
use Rattle.std.proofs.lemmas.Str.{is_utf8-from_IsUtf8, IsUtf8-from_is_utf8}
use Rattle.std.specs.Str.{IsUtf8, is_utf8}
use Rattle.mix_tree.specs.LabelMachine.{got, start, seen_from}
use Rattle.path_expr.specs.Form.{Form, any, seq, none, paths_of, positions_in}
use Rattle.path_expr.specs.Grammar.{Spelled, Writes}
use Rattle.path_expr.specs.Depth.{nesting}
use Rattle.path_expr.specs.Values.{value_of}
use Rattle.path_expr.specs.Machine.{read_of}
use Rattle.path_expr.specs.Results.{Spells, SpellsWithin, HasTooMany, Refuses}
use Rattle.path_expr.specs.declared.fault.PathFault.TheVariants.{Unexpected as path_unexpected, Ends as path_ends, TooDeep as path_deep}
use Rattle.path_expr.proofs.Deep.{nests_none}
use Rattle.path_expr.proofs.Verdicts.{one_spelled}
use Rattle.path_expr.proofs.Complete.{writes_read}
use Rattle.path_expr.proofs.Sound.{read_writes}
use Rattle.path_expr.proofs.Utf8.{name_utf8}
use Rattle.std.specs.List.{list_all}
use Rattle.mix_base.proofs.Choices.{and_parts, none_some}
use Rattle.std.proofs.lemmas.List.{take-append-drop}
use Rattle.mix_tree.specs.Names.{is_name_byte}
use Rattle.mix_catalog.specs.Forms.{is_source_name}
use Rattle.plan_read.specs.Reading.{begins, whole_label, quoted_read, long_path, within_positions, path_form, path_read}
use Rattle.plan_read.specs.Grammar.{SpellsPath}

-- the test of UTF-8 fails for what isn't UTF-8
pub no_utf8 : (x : List ℕ) → (IsUtf8 x → ⊥) → is_utf8 x ≡ false
no_utf8 x h = by_case (is_utf8 x) refl
  where
    by_case : (b : Bool) → is_utf8 x ≡ b → b ≡ false
    by_case true e = absurd (h (IsUtf8-from_is_utf8 x e))
    by_case false e = refl

-- a word that isn't UTF-8 spells no path
pub no_text_path : (x : List ℕ) → (IsUtf8 x → ⊥) → path_read x ≡ None
no_text_path x h = ap (λ b. cond b (option_and_then path_form (read_of x)) None) (no_utf8 x h)

-- a word that isn't UTF-8 is read as no label
pub no_text_quoted : (x : List ℕ) → (IsUtf8 x → ⊥) → quoted_read x ≡ None
no_text_quoted x h = ap (λ b. cond (b && begins 34 x) (whole_label (seen_from start 0 x)) None) (no_utf8 x h)

-- a written path of at most 100 parentheses open at once is read as its value, or as the path of 121 label positions
path_within : (p : Spelled) → nesting p ≤ 100 → path_form p ≡ Some (within_positions (value_of p))
path_within p h = let e : nat_le (nesting p) 100 ≡ true = grind (arith, nat_tests) in rw e refl

-- a word that is UTF-8 is read as the path that the machine reads of it, if any
path_text : (x : List ℕ) → IsUtf8 x → path_read x ≡ option_and_then path_form (read_of x)
path_text x u = ap (λ b. cond b (option_and_then path_form (read_of x)) None) (is_utf8-from_IsUtf8 x u)

-- a word that is written as a path of at most 100 parentheses open at once is read as that path
path_written : (x : List ℕ) → IsUtf8 x → (p : Spelled) → Writes x p → nesting p ≤ 100 → path_read x ≡ Some (within_positions (value_of p))
path_written x u p w n = path_text x u ∙ ap (option_and_then path_form) (writes_read x p w) ∙ path_within p n

-- a path of few label positions stays
few_stay : (v : Form) → positions_in v ≤ 120 → within_positions v ≡ v
few_stay v h = let e : nat_le (positions_in v) 120 ≡ true = grind (arith, nat_tests) in ap (λ b. cond b v long_path) e

-- a path of many label positions becomes the one of 121
many_cut : (v : Form) (n : ℕ) → positions_in v ≡ n → 120 < n → within_positions v ≡ long_path
many_cut v n e h = let f : nat_le (positions_in v) 120 ≡ false = grind (arith, nat_tests) in ap (λ b. cond b v long_path) f

-- a path within the limits is read
pub some_path : (x : List ℕ) (v : Form) → IsUtf8 x → SpellsWithin x v → path_read x ≡ Some v
some_path x v u h = path_written x u h.spelled h.writes h.nesting ∙ ap Some (ap within_positions h.value ∙ few_stay v h.positions)

-- a path of too many label positions is read as the path of 121 that stands for it
pub many_path : (x : List ℕ) (n : ℕ) → IsUtf8 x → HasTooMany x n → path_read x ≡ Some long_path
many_path x n u (p, w, d, e, m) = path_written x u p w d ∙ ap Some (many_cut (value_of p) n e m)

-- what a word spells as a path is what it is read as
pub path_reads : (x : List ℕ) (v : Form) → IsUtf8 x → SpellsPath x v → path_read x ≡ Some v
path_reads x v u (inl h) = some_path x v u h
path_reads x v u (inr h) = many_path x h.0 u h.1 ∙ ap Some (sym h.2)

-- no path is read where none is written with at most 100 parentheses open at once
no_path : (x : List ℕ) → IsUtf8 x → ((p : Spelled) → Writes x p → nesting p ≤ 100 → ⊥) → path_read x ≡ None
no_path x u f = path_text x u ∙ by_read (read_of x) refl
  where
    by_nesting : (p : Spelled) (b : Bool) → nat_le (nesting p) 100 ≡ b → Writes x p → cond b (Some (within_positions (value_of p))) None ≡ None
    by_nesting p true e w = absurd (f p w (grind (arith, nat_tests, e)))
    by_nesting p false e w = refl

    by_read : (o : Option Spelled) → read_of x ≡ o → option_and_then path_form o ≡ None
    by_read None e = refl
    by_read (Some p) e = by_nesting p (nat_le (nesting p) 100) refl (read_writes x p e)

-- no path is read where a byte fits none
pub unexpected_path : (x : List ℕ) (at : ℕ) → Refuses x (path_unexpected at) → path_read x ≡ None
unexpected_path x at a =
    let parts = take-append-drop (at + 1) x in
    no_path x a.0 (λ p w n. a.1.wrong (drop (at + 1) x, value_of p, subst IsUtf8 (sym parts) a.0, subst (λ y. Spells y (value_of p)) (sym parts) (p, w, refl)))

-- no path is read where the word ends in the midst of one
pub ends_path : (x : List ℕ) → Refuses x path_ends → path_read x ≡ None
ends_path x a = no_path x a.0 (λ p w n. a.1.none (value_of p) (p, w, refl))

-- no path is read whose parentheses nest too deep
pub deep_path : (x : List ℕ) (at : ℕ) → Refuses x (path_deep at) → path_read x ≡ None
deep_path x at (k, (q, v, e)) =
    no_path x k (λ p w n. none_some at (sym (nests_none q 0 0 (subst (λ z. 0 + nesting z ≤ 100) (one_spelled x p q w v) (omega (arith, n)))) ∙ e))

-- the path of 121 label positions has so many
pub long_positions : positions_in long_path ≡ 121
unfolding long_path
long_positions = refl

-- 121 paths of any label, one after another, are the path of 121
pub long_of : (ps : List Form) → ps ≡ replicate 121 (record { head = any; members = none }) → record { head = seq; members = paths_of ps } ≡ long_path
unfolding long_path
long_of ps e = ap (λ (qs : List Form). record { head = seq; members = paths_of qs }) e

-- nothing is after a place past the end
nothing_after : (x : List ℕ) (n : ℕ) → length x ≤ n → drop n x ≡ []
nothing_after [] zero h = refl
nothing_after [] (suc n) h = refl
nothing_after (b ∷ x) zero h = absurd (omega arith)
nothing_after (b ∷ x) (suc n) h = nothing_after x n (omega arith)

-- a label that is seen up to the end of a word is the whole of it
pub whole_to_end : (x l : List ℕ) (end : ℕ) → length x ≤ end → whole_label (got l end (drop end x)) ≡ Some l
whole_to_end x l end h = ap (λ r. whole_label (got l end r)) (nothing_after x end h)

-- a label that is seen to end before the end of a word isn't the whole of it
pub whole_before : (x l : List ℕ) (end : ℕ) → end < length x → whole_label (got l end (drop end x)) ≡ None
whole_before x l end h = by_drop x end h
  where
    by_drop : (y : List ℕ) (n : ℕ) → n < length y → whole_label (got l end (drop n y)) ≡ None
    by_drop [] n k = absurd (omega arith)
    by_drop (b ∷ y) zero k = refl
    by_drop (b ∷ y) (suc n) k = by_drop y n (omega arith)

-- a word that is UTF-8 and begins with a quote is read as the label that is seen of it whole, if any
pub quoted_text : (x : List ℕ) → IsUtf8 x → begins 34 x ≡ true → quoted_read x ≡ whole_label (seen_from start 0 x)
quoted_text x u b =
    ap (λ t. cond (t && begins 34 x) (whole_label (seen_from start 0 x)) None) (is_utf8-from_IsUtf8 x u)
    ∙ ap (λ t. cond t (whole_label (seen_from start 0 x)) None) b

-- a word that begins with no quote is read as no label
pub no_quote : (x : List ℕ) → IsUtf8 x → begins 34 x ≡ false → quoted_read x ≡ None
no_quote x u b =
    ap (λ t. cond (t && begins 34 x) (whole_label (seen_from start 0 x)) None) (is_utf8-from_IsUtf8 x u)
    ∙ ap (λ t. cond t (whole_label (seen_from start 0 x)) None) b

-- a name is UTF-8
pub name_word_utf8 : (x : List ℕ) → is_source_name x ≡ true → IsUtf8 x
name_word_utf8 x h = name_utf8 x (and_parts (nat_le 1 (length x)) (list_all is_name_byte x) h).1
