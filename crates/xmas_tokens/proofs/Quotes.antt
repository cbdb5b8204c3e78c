-- A byte that is not ASCII goes on with a token inside quotes alone.
use Rattle.std.proofs.Common.{◌≡◌, ◌∙◌, ◌<◌, ℕ, Bool, true, false, IsTrue, List, [], ◌∷◌, Option, Some, None, refl, sym, ap, arith, nat_lt, zero, suc, ◌==◌, ◌≤◌, ◌&&◌, cond, option_map, length, slice_index}
use Rattle.std.specs.List.{list_all}
use Rattle.std.proofs.lemmas.Bool.Decides.{nat_tests}
use Rattle.mix_base.proofs.Choices.{and_parts, none_some, Gives}
use Rattle.mix_tree.specs.Names.{is_name_byte}
use Rattle.xmas_tokens.specs.Lexical.{is_blank, is_letter, is_word_byte}
use Rattle.xmas_tokens.specs.Tokens.{mark_text, mark_first}
use Rattle.xmas_tokens.specs.declared.token.Mark.{Mark}
use Rattle.xmas_tokens.specs.declared.token.Mark.TheVariants as mark
use Rattle.xmas_tokens.specs.declared.token.Kind.TheVariants as kind
use Rattle.path_expr.specs.declared.scan.Scan as path_scan
use Rattle.path_expr.specs.declared.scan.Stage.TheVariants as path_stage
use Rattle.path_expr.specs.Scanned as scanned
use Rattle.path_expr.proofs.Shapes.{IsHigh, high_stage, quoting_goes_on}
use Rattle.xmas_tokens.specs.declared.token.Kind.{Kind}
use Rattle.xmas_tokens.specs.declared.lexer.Part.{Part}
use Rattle.xmas_tokens.specs.declared.lexer.Part.TheVariants as part
use Rattle.xmas_tokens.specs.Parts.{part_step, or_else, first_mark, first_item, first_word, first_part}

-- whether the byte is ASCII
abbrev pub is_low : ℕ → Bool
is_low b = nat_lt b 128

-- the byte is ASCII, as a number
pub low_byte : (b : ℕ) → IsTrue (is_low b) → b < 128
low_byte b h = grind (arith, nat_tests)

-- each token that is always the same is ASCII
pub mark_low : (m : Mark) → IsTrue (list_all is_low (mark_text m))
mark_low mark.Construct = refl
mark_low mark.Where = refl
mark_low mark.And = refl
mark_low mark.LabelWord = refl
mark_low mark.OpenBrace = refl
mark_low mark.CloseBrace = refl
mark_low mark.Comma = refl
mark_low mark.Order = refl
mark_low mark.By = refl
mark_low mark.Desc = refl

-- the token at hand is a quoted label, or a path that stands inside a quoted label
abbrev pub InQuotes : Part → Type 0
InQuotes part.Quoting = Unit {0}
InQuotes (part.Pathing s) = s.stage ≡ path_stage.Quoting
InQuotes p = ⊥

-- a byte is no blank, no letter, no byte of a word, and none of / = > < ! $
pub record IsHigher (b : ℕ) : Type 0 where
  pub blank : is_blank b ≡ false
  pub letter : is_letter b ≡ false
  pub word : is_word_byte b ≡ false
  pub slash : (b == 47) ≡ false
  pub equal : (b == 61) ≡ false
  pub greater : (b == 62) ≡ false
  pub less : (b == 60) ≡ false
  pub bang : (b == 33) ≡ false
  pub dollar : (b == 36) ≡ false

-- each byte from 128 on is no blank, no letter, no byte of a word, and none of / = > < ! $
pub is_higher : (b : ℕ) → 128 ≤ b → IsHigher b
is_higher b h = record {
  blank = grind (arith, nat_tests);
  letter = grind (arith, nat_tests);
  word = grind (arith, nat_tests);
  slash = grind (arith, nat_tests);
  equal = grind (arith, nat_tests);
  greater = grind (arith, nat_tests);
  less = grind (arith, nat_tests);
  bang = grind (arith, nat_tests);
  dollar = grind (arith, nat_tests);
}

-- a member of a list of ASCII bytes, or 0, is another byte
low_index : (x : List ℕ) (i b : ℕ) → 128 ≤ b → IsTrue (list_all is_low x) → (b == slice_index x i) ≡ false
low_index [] i b h k = grind (arith, nat_tests)
low_index (c ∷ x) zero b h k = let low : c < 128 = low_byte c (and_parts (is_low c) (list_all is_low x) k).0 in grind (arith, nat_tests)
low_index (c ∷ x) (suc i) b h k = low_index x i b h (and_parts (is_low c) (list_all is_low x) k).1

-- where the second of two tests fails, both together fail
not_and : (p q : Bool) → q ≡ false → (p && q) ≡ false
not_and true q h = h
not_and false q h = refl

-- a byte that is not ASCII goes on with a token only inside quotes
pub high_part : (p : Part) (b : ℕ) → 128 ≤ b → IsHigh b → IsHigher b → Gives InQuotes (part_step p b)
high_part part.Between b l h k = tt
high_part (part.Marking m i) b l h k = rw (not_and (nat_lt i (length (mark_text m))) (b == slice_index (mark_text m) i) (low_index (mark_text m) i b l (mark_low m))) tt
high_part (part.Angle p q) b l h k = rw (not_and q (b == 47) k.slash, not_and p (is_name_byte b) h.name) tt
high_part part.Opening b l h k = rw (h.name, k.greater) tt
high_part part.Slash b l h k = rw h.name tt
high_part part.Closing b l h k = rw (h.name, k.greater) tt
high_part part.Naming b l h k = rw h.name tt
high_part part.Dollar b l h k = rw k.letter tt
high_part part.Varying b l h k = rw k.word tt
high_part part.Quoting b l h k = rw (h.quote, h.slash) tt
high_part part.Escaping b l h k = rw h.escape tt
high_part (part.Pathing s) b l h k = high_path (scanned.shape_step s b) (high_stage s.depth b s.stage h)
  where
    high_path : (o : Option path_scan.Scan) → Gives (λ t. t.stage ≡ path_stage.Quoting) o → Gives InQuotes (option_map part.Pathing o)
    high_path None e = tt
    high_path (Some t) e = e
high_part (part.Ready r) b l h k = tt
high_part (part.Comparing r) b l h k = rw k.equal tt

-- no token that is always the same begins with a byte that is not ASCII
no_mark : (m : Mark) (may : Kind → Bool) (b : ℕ) (x : Option Part) → 128 ≤ b → x ≡ None → first_mark m may b x ≡ None
no_mark m may b x l h =
    let e : (b == mark_first m) ≡ false = low_index (mark_text m) 0 b l (mark_low m) in
    rw e h

-- a choice between None and None is None
none_both : (q : Bool) → cond {A = Option Part} q None None ≡ None
none_both true = refl
none_both false = refl

-- no token begins with a byte that is not ASCII
pub no_token : (may : Kind → Bool) (b : ℕ) → 128 ≤ b → IsHigh b → IsHigher b → first_part may b ≡ None
no_token may b l h k =
    ap (λ x. or_else x (or_else (first_item may b) (first_word may b)))
    (no_mark mark.Construct may b _ l (no_mark mark.Where may b _ l (no_mark mark.And may b _ l (no_mark mark.Order may b _ l (no_mark mark.By may b _ l (no_mark mark.Desc may b None l refl))))))
    ∙ ap (λ x. or_else x (first_word may b))
    (no_mark mark.LabelWord may b _ l (no_mark mark.OpenBrace may b _ l (no_mark mark.CloseBrace may b _ l (no_mark mark.Comma may b _ l (rw (k.less, k.dollar, h.quote) refl)))))
    ∙ rw (k.equal, k.bang, k.less, k.greater, h.name, h.quote, h.group) (none_both (may kind.Path))

-- inside quotes each byte goes on
pub quotes_go_on : (p : Part) (b : ℕ) → InQuotes p → part_step p b ≡ None → ⊥
quotes_go_on part.Between b q e = q
quotes_go_on (part.Marking m i) b q e = q
quotes_go_on (part.Angle o c) b q e = q
quotes_go_on part.Opening b q e = q
quotes_go_on part.Slash b q e = q
quotes_go_on part.Closing b q e = q
quotes_go_on part.Naming b q e = q
quotes_go_on part.Dollar b q e = q
quotes_go_on part.Varying b q e = q
quotes_go_on part.Quoting b q e = by_cases (b == 34) (b == 92) e
  where
    by_cases : (c d : Bool) → cond c (Some (part.Ready kind.Quoted)) (cond d (Some part.Escaping) (Some part.Quoting)) ≡ None → ⊥
    by_cases true d e = cc
    by_cases false true e = cc
    by_cases false false e = cc
quotes_go_on part.Escaping b q e = q
quotes_go_on (part.Pathing s) b q e = quoting_goes_on s.depth b (ap (λ p. scanned.shape_in s.depth p b) (sym q) ∙ none_back (scanned.shape_step s b) e)
  where
    none_back : (o : Option path_scan.Scan) → option_map part.Pathing o ≡ None → o ≡ None
    none_back None e = refl
    none_back (Some t) e = none_some (part.Pathing t) (sym e)
quotes_go_on (part.Ready r) b q e = q
quotes_go_on (part.Comparing r) b q e = q
