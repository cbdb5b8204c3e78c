-- What the text of a token says.
use Rattle.std.proofs.Common.{◌≡◌, ◌∙◌, ◌+◌, ◌-◌, ◌<◌, ◌≤◌, inl, inr, ℕ, zero, suc, Bool, true, false, IsTrue, List, [], ◌∷◌, ◌++◌, Result, Ok, Err, refl, sym, ap, subst, arith, length, take, drop, nat_lt, slice_range, length-append, rules}
use Rattle.std.proofs.lemmas.Bool.Decides.{nat_tests}
use Rattle.std.proofs.lemmas.List.{take_all, take-append-drop}
use Rattle.std.proofs.lemmas.Str.{IsUtf8-from_ascii}
use Rattle.std.specs.List.{list_all}
use Rattle.std.specs.Str.{IsUtf8, IsAscii}
use Rattle.mix_base.proofs.Choices.{and_parts, none_some}
use Rattle.mix_base.proofs.Lists.{append_nil, take_whole}
use Rattle.mix_tree.specs.Spelling.{is_bare_label}
use Rattle.mix_tree.specs.LabelGrammar.{SpellsLabel, SpellsQuoted, meaning, inside_quotes}
use Rattle.mix_tree.specs.LabelReads.{SpellsNowhere, IsLongest}
use Rattle.path_expr.specs.Form.{Form, positions_in}
use Rattle.path_expr.specs.Values.{value_of}
use Rattle.path_expr.specs.Depth.{nesting}
use Rattle.path_expr.specs.Results.{SpellsWithin, IsTooDeep, HasTooMany}
use Rattle.path_expr.specs.Results as paths_
use Rattle.mix_base.specs.Reading.{IsUnexpected, IsCut}
use Rattle.path_expr.proofs.Deep.{nests_none}
use Rattle.path_expr.proofs.Utf8.{name_utf8}
use Rattle.xmas_tokens.specs.declared.lexeme.PathLimit.{PathLimit}
use Rattle.xmas_tokens.specs.declared.lexeme.PathLimit.TheVariants.{Nesting, Positions}
use Rattle.xmas_tokens.specs.declared.token.Kind.{Kind}
use Rattle.xmas_tokens.specs.declared.token.Kind.TheVariants as kind
use Rattle.xmas_tokens.specs.declared.lexeme.Lexeme.TheVariants as lexeme
use Rattle.xmas_tokens.specs.Lexical.{is_letter, is_word_byte, IsVar}
use Rattle.xmas_tokens.specs.Tokens.{fixed, open_tag, close_tag, word, var, quoted, path, comparison}
use Rattle.xmas_tokens.specs.Lexemes.{IsWritten, IsLexeme, IsQuotedText, Quotes, IsPathText, SpellsPath}

-- the part between a prefix and an end of a text
pub between_is : (a l z : List ℕ) (from to : ℕ) → from ≡ length a → to ≡ length a + length l → slice_range (a ++ (l ++ z)) from to ≡ l
between_is [] l z from to e f =
    ap (λ n. take (to - n) (drop n (l ++ z))) e ∙ take_whole l z (to - 0) (omega arith)
between_is (b ∷ a) l z from to e f =
    let g : from ≡ suc (length a) = e in
    let n : to - suc (length a) ≡ (length a + length l) - length a = omega arith in
    ap (λ n. take (to - n) (drop n (b ∷ a ++ (l ++ z)))) g ∙ ap (λ m. take m (drop (length a) (a ++ (l ++ z)))) n ∙ between_is a l z (length a) (length a + length l) refl refl

-- bytes of a variable's name are ASCII
var_ascii : (b : ℕ) → IsTrue (is_word_byte b) → b < 128
var_ascii b h = grind (arith, nat_tests)

-- the first byte of a variable's name is ASCII
letter_ascii : (b : ℕ) → IsTrue (is_letter b) → b < 128
letter_ascii b h = grind (arith, nat_tests)

-- a list of bytes that a variable's name may have is ASCII
words_ascii : (x : List ℕ) → IsTrue (list_all is_word_byte x) → IsAscii x
words_ascii [] h i = omega arith
words_ascii (b ∷ x) h zero = var_ascii b (and_parts (is_word_byte b) (list_all is_word_byte x) h).0
words_ascii (b ∷ x) h (suc i) = words_ascii x (and_parts (is_word_byte b) (list_all is_word_byte x) h).1 i

-- a variable's name is UTF-8
var_utf8 : (v : List ℕ) → IsVar v → IsUtf8 v
var_utf8 [] h = absurd h
var_utf8 (b ∷ v) h = IsUtf8-from_ascii (b ∷ v) (ascii b v h)
  where
    ascii : (b : ℕ) (v : List ℕ) → IsVar (b ∷ v) → IsAscii (b ∷ v)
    ascii b v h zero = letter_ascii b h.0
    ascii b v h (suc i) = words_ascii v h.1 i

-- the name in the text of an opening tag is UTF-8
pub open_utf8 : (k : Kind) (x : List ℕ) → IsWritten k x → k ≡ kind.OpenTag → IsUtf8 (slice_range x 1 (length x - 1))
open_utf8 k x (fixed m, i, e, t) f = cc
open_utf8 k x (open_tag l, i, e, t) f =
    let n : length x - 1 ≡ 1 + length l = omega (arith, sym (ap length t) ∙ ap suc (length-append l (62 ∷ []))) in
    let s : slice_range x 1 (length x - 1) ≡ l = ap (λ y. slice_range y 1 (length x - 1)) (sym t) ∙ between_is (60 ∷ []) l (62 ∷ []) 1 (length x - 1) refl n in
    subst IsUtf8 (sym s) (name_utf8 l i.0)
open_utf8 k x (close_tag l, i, e, t) f = cc
open_utf8 k x (word l, i, e, t) f = cc
open_utf8 k x (var v, i, e, t) f = cc
open_utf8 k x (quoted ps, i, e, t) f = cc
open_utf8 k x (path p, i, e, t) f = cc
open_utf8 k x (comparison o, i, e, t) f = cc

-- the name in the text of a closing tag is UTF-8
pub close_utf8 : (k : Kind) (x : List ℕ) → IsWritten k x → k ≡ kind.CloseTag → IsUtf8 (slice_range x 2 (length x - 1))
close_utf8 k x (fixed m, i, e, t) f = cc
close_utf8 k x (open_tag l, i, e, t) f = cc
close_utf8 k x (close_tag l, i, e, t) f =
    let n : length x - 1 ≡ 2 + length l = omega (arith, sym (ap length t) ∙ ap (λ n. suc (suc n)) (length-append l (62 ∷ []))) in
    let s : slice_range x 2 (length x - 1) ≡ l = ap (λ y. slice_range y 2 (length x - 1)) (sym t) ∙ between_is (60 ∷ 47 ∷ []) l (62 ∷ []) 2 (length x - 1) refl n in
    subst IsUtf8 (sym s) (name_utf8 l i.0)
close_utf8 k x (word l, i, e, t) f = cc
close_utf8 k x (var v, i, e, t) f = cc
close_utf8 k x (quoted ps, i, e, t) f = cc
close_utf8 k x (path p, i, e, t) f = cc
close_utf8 k x (comparison o, i, e, t) f = cc

-- the name in the text of a variable is UTF-8
pub name_of_var_utf8 : (k : Kind) (x : List ℕ) → IsWritten k x → k ≡ kind.Var → IsUtf8 (slice_range x 1 (length x))
name_of_var_utf8 k x (fixed m, i, e, t) f = cc
name_of_var_utf8 k x (open_tag l, i, e, t) f = cc
name_of_var_utf8 k x (close_tag l, i, e, t) f = cc
name_of_var_utf8 k x (word l, i, e, t) f = cc
name_of_var_utf8 k x (var v, i, e, t) f =
    let n : length x ≡ 1 + length v = omega (arith, sym (ap length t)) in
    let s : slice_range x 1 (length x) ≡ v =
    ap (λ y. slice_range y 1 (length x)) (sym t ∙ ap (λ y. 36 ∷ y) (sym (append_nil v))) ∙ between_is (36 ∷ []) v [] 1 (length x) refl n in
    subst IsUtf8 (sym s) (var_utf8 v i)
name_of_var_utf8 k x (quoted ps, i, e, t) f = cc
name_of_var_utf8 k x (path p, i, e, t) f = cc
name_of_var_utf8 k x (comparison o, i, e, t) f = cc

-- a text that is written as a quoted label is the text of one
pub quoted_written : (k : Kind) (x : List ℕ) → IsWritten k x → k ≡ kind.Quoted → IsQuotedText x
quoted_written k x (fixed m, i, e, t) f = cc
quoted_written k x (open_tag l, i, e, t) f = cc
quoted_written k x (close_tag l, i, e, t) f = cc
quoted_written k x (word l, i, e, t) f = cc
quoted_written k x (var v, i, e, t) f = cc
quoted_written k x (quoted ps, i, e, t) f = (ps, i, t)
quoted_written k x (path p, i, e, t) f = cc
quoted_written k x (comparison o, i, e, t) f = cc

-- a text that is written as a path is the text of one
pub path_written : (k : Kind) (x : List ℕ) → IsWritten k x → k ≡ kind.Path → IsPathText x
path_written k x (fixed m, i, e, t) f = cc
path_written k x (open_tag l, i, e, t) f = cc
path_written k x (close_tag l, i, e, t) f = cc
path_written k x (word l, i, e, t) f = cc
path_written k x (var v, i, e, t) f = cc
path_written k x (quoted ps, i, e, t) f = cc
path_written k x (path p, i, e, t) f = (p, (i, t))
path_written k x (comparison o, i, e, t) f = cc

-- a quoted label's token says the label that is meant
pub quoted_lexeme : (k : Kind) (x l : List ℕ) → k ≡ kind.Quoted → Quotes x l → IsLexeme k x (lexeme.Quoted l)
quoted_lexeme k x l f (ps, i, t, m) = (quoted ps, i, sym f, t, ap lexeme.Quoted m)

-- a path's token says the path, or the limit that it passes
pub path_lexeme : (k : Kind) (x : List ℕ) (r : Result Form PathLimit) → k ≡ kind.Path → SpellsPath x r → IsLexeme k x (lexeme.Path r)
path_lexeme k x r f (p, w, e) = (path p, w.0, sym f, w.1, ap lexeme.Path e)

-- the quoted label that is the whole of a text is not bare
quoted_not_bare : (x y l : List ℕ) → 34 ∷ y ≡ x → SpellsLabel x l → SpellsQuoted x l
quoted_not_bare x y l e (inl s) = let n : IsTrue (is_bare_label (34 ∷ y)) = subst (λ z. IsTrue (is_bare_label z)) (sym e) s.0 in cc
quoted_not_bare x y l e (inr s) = s

-- the longest label at the beginning of a quoted label's text is that label
pub quoted_longest : (x l : List ℕ) (end : ℕ) → IsQuotedText x → IsLongest x 0 l end → Quotes x l
quoted_longest x l end (ps, i, t) h =
    let whole : slice_range x 0 (length x) ≡ x = search (rules, take_all) in
    let spelled : SpellsLabel (slice_range x 0 (length x)) (meaning ps) = subst (λ y. SpellsLabel y (meaning ps)) (sym whole) (inr (ps, i, sym t, refl)) in
    let last : end ≡ length x = by_case (nat_lt end (length x)) refl spelled in
    let s : SpellsLabel x l = subst (λ y. SpellsLabel y l) (ap (slice_range x 0) last ∙ whole) h.spells in
    let q = quoted_not_bare x (inside_quotes ps ++ 34 ∷ []) l t s in
    (q.0, q.1, sym q.2, q.3)
  where
    by_case : (b : Bool) → nat_lt end (length x) ≡ b → SpellsLabel (slice_range x 0 (length x)) (meaning ps) → end ≡ length x
    by_case true e s = absurd (h.longest (length x) (meaning ps) (grind (arith, nat_tests)) (omega arith) s)
    by_case false e s = let n : length x ≤ end = grind (arith, nat_tests) in omega (arith, n, h.inside)

-- a quoted label's text spells a label
pub quoted_somewhere : (x : List ℕ) → IsUtf8 x → IsQuotedText x → SpellsNowhere (drop 0 x) → ⊥
quoted_somewhere x u (ps, i, t) h =
    let whole : take (length x) x ≡ x = search (rules, take_all) in
    h (length x) (meaning ps) (subst IsUtf8 (sym whole) u) (subst (λ y. SpellsLabel y (meaning ps)) (sym whole) (inr (ps, i, sym t, refl)))

-- a text that spells a path within the limits is that of this path
pub path_within : (x : List ℕ) (v : Form) → SpellsWithin x v → SpellsPath x (Ok v)
path_within x v h =
    let n : nat_lt 100 (nesting h.spelled) ≡ false = few (nesting h.spelled) 100 h.nesting in
    let m : nat_lt 120 (positions_in (value_of h.spelled)) ≡ false = few (positions_in (value_of h.spelled)) 120 (omega (arith, h.positions, ap positions_in h.value)) in
    (h.spelled, h.writes, rw (n, m) (ap Ok h.value))
  where
    few : (n m : ℕ) → n ≤ m → nat_lt m n ≡ false
    few n m h = grind (arith, nat_tests)

-- the text of a path that is nested too deep spells one that passes the limit of nesting
pub path_nested : (x : List ℕ) (at : ℕ) → IsTooDeep x at → SpellsPath x (Err Nesting)
path_nested x at (p, w, d) = by_case (nat_lt 100 (nesting p)) refl
  where
    by_case : (b : Bool) → nat_lt 100 (nesting p) ≡ b → SpellsPath x (Err Nesting)
    by_case true e = (p, w, rw e refl)
    by_case false e =
        let n : nesting p ≤ 100 = grind (arith, nat_tests) in
        let m : 0 + nesting p ≤ 100 = omega (arith, n) in
        none_some at (sym (nests_none p 0 0 m) ∙ d)

-- the text of a path of too many label positions spells one that passes the limit of positions
pub path_long : (x : List ℕ) (n : ℕ) → HasTooMany x n → SpellsPath x (Err Positions)
path_long x n (p, w, d, e, m) =
    let k : nat_lt 100 (nesting p) ≡ false = grind (arith, nat_tests) in
    let l : 120 < positions_in (value_of p) = omega (arith, e, m) in
    let q : nat_lt 120 (positions_in (value_of p)) ≡ true = grind (arith, nat_tests) in
    (p, w, rw (k, q) refl)

-- a path's text spells a path
pub path_somewhere : (x : List ℕ) (at : ℕ) → IsPathText x → IsUtf8 x → IsUnexpected paths_.Spells x at → ⊥
path_somewhere x at (p, w) u h =
    let parts = take-append-drop (at + 1) x in
    h.wrong (drop (at + 1) x, value_of p, subst IsUtf8 (sym parts) u, subst (λ y. paths_.Spells y (value_of p)) (sym parts) (p, w, refl))

-- a path's text is not cut
pub path_not_cut : (x : List ℕ) → IsPathText x → IsCut paths_.Spells x → ⊥
path_not_cut x (p, w) h = h.none (value_of p) (p, w, refl)
