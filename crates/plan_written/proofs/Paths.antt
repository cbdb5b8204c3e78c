-- The paths, labels and names in the text of a view.
use Rattle.std.proofs.Common.{◌≡◌, ◌∙◌, ◌<◌, ◌≤◌, ℕ, Bool, true, false, cond, ◌&&◌, IsTrue, nat_lt, List, [], ◌∷◌, ◌++◌, Result, Ok, Err, refl, ap, sym, subst, arith, append_assoc}
use Rattle.std.proofs.lemmas.Bool.Decides.{nat_tests}
use Rattle.std.specs.List.{list_all}
use Rattle.std.specs.Str.{IsUtf8}
use Rattle.mix_base.proofs.Choices.{and_parts}
use Rattle.mix_base.proofs.Utf8.{utf8_split}
use Rattle.mix_tree.specs.LabelGrammar.{Piece, ArePieces, inside_quotes, meaning}
use Rattle.mix_words.specs.Words as words
use Rattle.path_expr.specs.Grammar.{Spelled}
use Rattle.path_expr.specs.Depth.{nesting}
use Rattle.path_expr.specs.Form.{Form, positions_in}
use Rattle.path_expr.specs.Values.{value_of}
use Rattle.path_expr.proofs.Utf8.{quoted_utf8}
use Rattle.xmas_tokens.specs.Lexemes.{path_form}
use Rattle.xmas_tokens.specs.Lexical.{is_blank, is_word_byte, IsBlanks, IsVar}
use Rattle.xmas_tokens.specs.Tokens.{quoted_text}
use Rattle.xmas_tokens.specs.declared.lexeme.PathLimit.{PathLimit}
use Rattle.xmas_tokens.specs.declared.lexeme.PathLimit.TheVariants.{Nesting, Positions}
use Rattle.xmas_read.specs.Value.{path_value}
use Rattle.xmas_read.proofs.CleanForm.{clean_path}
use Rattle.xmas_read.proofs.CleanPaths.{PathKept, blank_low}
use Rattle.plan_written.proofs.Trees.{IsWrittenPath}

-- the value of a spelled path, which nests at most 100 deep and has at most 120 label positions
record IsWithin (q : Spelled) (v : Form) : Type 0 where
  value : value_of q ≡ v
  nests : nesting q ≤ 100
  positions : positions_in v ≤ 120

-- a spelled path that is read as a value is within the limits
within_limits : (q : Spelled) (v : Form) → path_form q ≡ Ok v → IsWithin q v
within_limits q v h = by (nat_lt 100 (nesting q)) (nat_lt 120 (positions_in (value_of q))) refl refl h
  where
    by : (a b : Bool) → nat_lt 100 (nesting q) ≡ a → nat_lt 120 (positions_in (value_of q)) ≡ b → cond a (Err Nesting) (cond b (Err Positions) (Ok (value_of q))) ≡ Ok v → IsWithin q v
    by true b e f h = cc
    by false true e f h = cc
    by false false e f h =
        let same : value_of q ≡ v = cc in
        record { value = same; nests = grind (arith, nat_tests); positions = subst (λ (u : Form). positions_in u ≤ 120) same (grind (arith, nat_tests)) }

-- a path that is kept in the canonical form of its rule is one that its canonical text spells
kept_is_written : (p : Spelled) → PathKept p → IsWrittenPath (value_of p)
kept_is_written p k =
    let l = within_limits (clean_path p) (value_of p) (k.form ∙ k.value) in
    (k.utf8, record { spelled = clean_path p; writes = (k.is, k.text); value = l.value; nesting = l.nests; positions = l.positions })

-- the path that a condition has is one that its canonical text spells, where it is kept in the canonical form
pub path_written : (p : Spelled) → PathKept p → IsWrittenPath (path_value (path_form p))
path_written p k = subst (λ (r : Result Form PathLimit). IsWrittenPath (path_value r)) (sym k.value) (kept_is_written p k)

-- in a UTF-8 text what stands before blanks and what stands after the ASCII byte that follows them are UTF-8
pub around_blanks : (x g y : List ℕ) (b : ℕ) → IsBlanks g → b < 128 → IsUtf8 (x ++ (g ++ b ∷ y)) → IsUtf8 x × IsUtf8 y
around_blanks x [] y b h l u = utf8_split x y b l u
around_blanks x (c ∷ g) y b h l u =
    let p = and_parts (is_blank c) (list_all is_blank g) h in
    let q = utf8_split x (g ++ b ∷ y) c (blank_low c p.0) u in (q.0, (utf8_split g y b l q.1).1)

-- a label between quotes in a UTF-8 text is UTF-8
pub label_within : (before gap : List ℕ) (ps : List Piece) → ArePieces ps → IsUtf8 (before ++ (gap ++ quoted_text ps)) → IsUtf8 (meaning ps)
label_within before gap ps h u = quoted_utf8 before gap [] ps h (subst IsUtf8 (regroup before gap (inside_quotes ps)) u)
  where
    regroup : (a b c : List ℕ) → a ++ (b ++ (34 ∷ (c ++ 34 ∷ []))) ≡ (a ++ (b ++ 34 ∷ c)) ++ 34 ∷ []
    regroup a b c = simp append_assoc

-- NAMES OF VARIABLES

-- the bytes of a variable's name in a rule are those of a name
byte_same : (b : ℕ) → is_word_byte b ≡ words.is_script_byte b
byte_same b = grind (arith, nat_tests)

-- a text is of bytes of variables' names in a rule exactly where it is of bytes of names
bytes_pass : (x : List ℕ) → list_all is_word_byte x ≡ list_all words.is_script_byte x
bytes_pass [] = refl
bytes_pass (b ∷ x) = ap (λ (c : Bool). c && list_all is_word_byte x) (byte_same b) ∙ ap (λ (c : Bool). words.is_script_byte b && c) (bytes_pass x)

-- the name of a variable of a rule is a name
pub var_is_name : (x : List ℕ) → IsVar x → IsTrue (words.is_name x)
var_is_name [] h = absurd h
var_is_name (b ∷ x) h = (let f : words.is_letter b ≡ true = h.0 in let g : list_all words.is_script_byte x ≡ true = sym (bytes_pass x) ∙ h.1 in rw (f, g) refl)
