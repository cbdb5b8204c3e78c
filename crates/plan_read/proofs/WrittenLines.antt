-- The lines of a written plan: each spells its operator, and the text's names are those of the plan.
use Rattle.std.proofs.Common.{◌≡◌, ◌<◌, ◌≤◌, ◌+◌, ◌^◌, ◌∙◌, ◌==◌, ◌&&◌, ◌||◌, ◌++◌, ℕ, suc, Bool, true, false, cond, IsTrue, List, [], ◌∷◌, Some, None, refl, sym, ap, subst, arith, length, map, filter, nat_lt, codes, take}
use Rattle.std.specs.Prelude.{slice_index_or}
use Rattle.std.specs.List.{AllByRecursion, list_all, flat_map}
use Rattle.std.specs.Str.{IsUtf8, bytes_eq}
use Rattle.std.specs.Str.Parse.{digits_value}
use Rattle.std.specs.Fmt.{decimal}
use Rattle.std.proofs.lemmas.Bool.Decides.{nat_tests}
use Rattle.std.proofs.lemmas.List.{map-append}
use Rattle.std.proofs.lemmas.Str.{IsUtf8-append, IsUtf8-nil}
use Rattle.mix_base.proofs.Choices.{and_parts, and_both}
use Rattle.mix_base.proofs.Lists.{append_nil}
use Rattle.mix_base.proofs.Utf8.{one_utf8}
use Rattle.mix_tree.specs.LabelOrder.{is_digit}
use Rattle.mix_words.specs.Lines.{lines_of, is_passed}
use Rattle.mix_words.specs.Words.{is_name}
use Rattle.mix_catalog.specs.Sources.{AreNumbered}
use Rattle.mix_catalog.specs.declared.source.SourceSpec.{SourceSpec}
use Rattle.plan_core.specs.PlanText as plan_text
use Rattle.plan_core.specs.Plans.{Operator}
use Rattle.plan_read.specs.Checks.{IsRanged}
use Rattle.plan_read.specs.Grammar.{Part, number, op_parts, parts_text, SpellParts, SpellsLine, SpellLines}
use Rattle.plan_read.specs.Lines.{Line, lines_from, is_class_line, without_class, operator_lines}
use Rattle.plan_read.specs.Numbers.{is_decimal, var_number}
use Rattle.plan_read.specs.Reading.{Numbered, numbered}
use Rattle.plan_read.specs.Variables.{word_vars, line_vars, is_below, is_less}
use Rattle.plan_read.specs.Words.{words}
use Rattle.plan_read.specs.Writable.{part_vars, op_vars, vars_of, AreNames}
use Rattle.plan_read.specs.declared.words.Mode.TheVariants.{Plain}
use Rattle.plan_read.proofs.Decimals.{decimal_number, decimal_value}
use Rattle.plan_read.proofs.Passes.{passes, is_cr, IsWhole, passes_append, no_cr, cut_last, cut_word, line_over}
use Rattle.plan_read.proofs.PartWords.{name_or_number, names_of_sources, word, IsGood, part_whole, part_read, part_utf8, part_spelled}
use Rattle.plan_read.proofs.ReadWords.{all_digits, no_name}
use Rattle.plan_read.proofs.Written.{written_by_parts}

-- a line that begins with a digit has an operator
digit_passed : (x rest : List ℕ) → IsTrue (is_decimal x) → is_passed (x ++ rest) ≡ false
digit_passed [] rest h = cc
digit_passed (b ∷ x) rest h = let digit = (and_parts (is_digit b) (list_all is_digit x) (all_digits (b ∷ x) h)).0 in by_byte b (x ++ rest) digit
  where
    by_byte : (b : ℕ) (x : List ℕ) → is_digit b ≡ true → is_passed (b ∷ x) ≡ false
    by_byte b x h =
        let space : (b == 32) ≡ false = grind (arith, nat_tests, h) in
        let tab : (b == 9) ≡ false = grind (arith, nat_tests, h) in
        let mark : (b == 35) ≡ false = grind (arith, nat_tests, h) in
        ap (λ c. cond (c || b == 9) (is_passed x) (b == 35)) space ∙ ap (λ c. cond c (is_passed x) (b == 35)) tab ∙ mark

-- a line that begins with a digit is no class line
digit_classes : (x rest : List ℕ) → IsTrue (is_decimal x) → is_class_line (x ++ rest) ≡ false
digit_classes [] rest h = cc
digit_classes (b ∷ x) rest h =
    let digit = (and_parts (is_digit b) (list_all is_digit x) (all_digits (b ∷ x) h)).0 in
    let other : (b == 99) ≡ false = grind (arith, nat_tests, digit) in
    ap (λ c. c && bytes_eq (take 5 (x ++ rest)) (codes "lass ")) other

-- operators with their numbers, from n on
abbrev pub numbered_from : ℕ → List Operator → List Numbered
numbered_from n [] = []
numbered_from n (op ∷ ops) = numbered n op ∷ numbered_from (suc n) ops

module _ (sources : List SourceSpec) (catalog : AreNumbered sources) (names : List (List ℕ)) (are : AreNames names) where
  -- the names of the sources of the catalog
  abbrev spec_names : List (List ℕ)
  spec_names = names_of_sources sources catalog names are

  -- the canonical words of parts
  abbrev words_of : List Part → List (List ℕ)
  words_of ps = map (word sources catalog names are) ps

  -- parts are such as words spell
  abbrev AreGood : List Part → Type 0
  AreGood ps = AllByRecursion (IsGood sources catalog names are) ps

  -- a word and the words of parts after it are cut into those words
  cut_parts : (w : List ℕ) (ps : List Part) → IsWhole w → AreGood ps → words (w ++ parts_text names spec_names ps) ≡ w ∷ words_of ps
  cut_parts w [] h g = ap words (append_nil w) ∙ cut_last w h
  cut_parts w (p ∷ ps) h g =
      cut_word w (word sources catalog names are p ++ parts_text names spec_names ps) h
      ∙ ap (λ ws. w ∷ ws) (cut_parts (word sources catalog names are p) ps (part_whole sources catalog names are p g.0) g.1)

  -- the words of parts spell them
  parts_spelled : (ps : List Part) → AreGood ps → SpellParts names sources ps (words_of ps)
  parts_spelled [] g = tt
  parts_spelled (p ∷ ps) g = (part_spelled sources catalog names are p g.0, parts_spelled ps g.1)

  -- the variables of the words of parts are the variables of the parts
  parts_read : (ps : List Part) → AreGood ps → flat_map word_vars (words_of ps) ≡ map (name_or_number names) (flat_map part_vars ps)
  parts_read [] g = refl
  parts_read (p ∷ ps) g =
      ap (λ xs. xs ++ flat_map word_vars (words_of ps)) (part_read sources catalog names are p g.0) ∙ ap (λ xs. map (name_or_number names) (part_vars p) ++ xs) (parts_read ps g.1)
      ∙ sym (map-append (name_or_number names) (part_vars p) (flat_map part_vars ps))

  -- the words of parts have no LF, and no CR outside of quotes
  parts_pass : (ps : List Part) → AreGood ps → passes is_cr Plain (parts_text names spec_names ps) ≡ Some Plain
  parts_pass [] g = refl
  parts_pass (p ∷ ps) g =
      passes_append is_cr Plain Plain (32 ∷ word sources catalog names are p) (parts_text names spec_names ps) (no_cr Plain Plain (word sources catalog names are p) (part_whole sources catalog names are p g.0))
      ∙ parts_pass ps g.1

  -- the words of parts are UTF-8
  parts_utf8 : (ps : List Part) → AreGood ps → IsUtf8 (parts_text names spec_names ps)
  parts_utf8 [] g = IsUtf8-nil
  parts_utf8 (p ∷ ps) g =
      IsUtf8-append (32 ∷ word sources catalog names are p) (parts_text names spec_names ps)
      (IsUtf8-append (32 ∷ []) (word sources catalog names are p) (one_utf8 32 (omega arith)) (part_utf8 sources catalog names are p g.0)) (parts_utf8 ps g.1)

  -- the line of an operator of a number
  abbrev pub line_text : ℕ → Operator → List ℕ
  line_text n op = decimal n ++ plan_text.operator_text names spec_names op

  -- an operator's line is its number and its parts
  line_parts : (n : ℕ) (op : Operator) → line_text n op ≡ decimal n ++ parts_text names spec_names (op_parts op)
  line_parts n op = ap (λ x. decimal n ++ x) (written_by_parts names spec_names op)

  -- an operator's number is such as a word spells
  number_good : (n : ℕ) → n < 4294967295 → IsGood sources catalog names are (number n)
  number_good n h = record { known = h; written = tt; vars = tt }

  module _ (n : ℕ) (op : Operator) (small : n < 4294967295) (good : AreGood (op_parts op)) where
    -- the words of an operator's line are its number's and those of its parts
    line_words : words (line_text n op) ≡ words_of (number n ∷ op_parts op)
    line_words = ap words (line_parts n op) ∙ cut_parts (decimal n) (op_parts op) (part_whole sources catalog names are (number n) (number_good n small)) good

    -- an operator's line spells it
    pub line_spelled : SpellsLine names sources (line_text n op) (numbered n op)
    line_spelled = subst (SpellParts names sources (number n ∷ op_parts op)) (sym line_words) (parts_spelled (number n ∷ op_parts op) (number_good n small, good))

    -- the variables of an operator's line are the operator's variables
    pub line_read : line_vars (line_text n op) ≡ map (name_or_number names) (op_vars op)
    line_read = ap (flat_map word_vars) line_words ∙ parts_read (number n ∷ op_parts op) (number_good n small, good)

    -- an operator's line is a line
    pub line_passes : passes is_cr Plain (line_text n op) ≡ Some Plain
    line_passes =
        ap (passes is_cr Plain) (line_parts n op)
        ∙ passes_append is_cr Plain Plain (decimal n) (parts_text names spec_names (op_parts op)) (no_cr Plain Plain (decimal n) (part_whole sources catalog names are (number n) (number_good n small)))
        ∙ parts_pass (op_parts op) good

    -- an operator's line is UTF-8
    pub line_utf8 : IsUtf8 (line_text n op)
    line_utf8 =
        subst IsUtf8 (sym (line_parts n op))
        (IsUtf8-append (decimal n) (parts_text names spec_names (op_parts op)) (part_utf8 sources catalog names are (number n) (number_good n small)) (parts_utf8 (op_parts op) good))

    -- an operator's line isn't passed over
    pub line_kept : is_passed (line_text n op) ≡ false
    line_kept = digit_passed (decimal n) (plan_text.operator_text names spec_names op) (decimal_number n (omega (arith, small)))

    -- an operator's line is no class line
    pub line_classes : is_class_line (line_text n op) ≡ false
    line_classes = digit_classes (decimal n) (plan_text.operator_text names spec_names op) (decimal_number n (omega (arith, small)))

  -- the lines of operators, the first operator of number n in line k
  abbrev pub laid : ℕ → ℕ → List Operator → List Line
  laid k n [] = []
  laid k n (op ∷ ops) = record { number = k; text = line_text n op } ∷ laid (k + 1) (suc n) ops

  -- the texts of lines, in order
  abbrev texts : ℕ → List Operator → List (List ℕ)
  texts n [] = []
  texts n (op ∷ ops) = line_text n op ∷ texts (suc n) ops

  -- the parts of operators are such as words spell
  abbrev pub AllGood : List Operator → Type 0
  AllGood ops = AllByRecursion (λ op. AreGood (op_parts op)) ops

  -- the operators after the first are as many less
  one_less : (n k : ℕ) → n + suc k ≤ 10000 → suc n + k ≤ 10000
  one_less n k h = omega (arith, h)

  -- the number of an operator of at most 10,000 is small
  this_small : (n k : ℕ) → n + suc k ≤ 10000 → n < 4294967295
  this_small n k h = omega (arith, h)

  -- the text of operators is cut into their lines
  text_lines : (n : ℕ) (ops : List Operator) → n + length ops ≤ 10000 → AllGood ops → lines_of (plan_text.lines_from names spec_names n ops) ≡ texts n ops
  text_lines n [] h g = refl
  text_lines n (op ∷ ops) h g =
      line_over Plain (line_text n op) (plan_text.lines_from names spec_names (suc n) ops) (line_passes n op (this_small n (length ops) h) g.0)
      ∙ ap (λ ls. line_text n op ∷ ls) (text_lines (suc n) ops (one_less n (length ops) h) g.1)

  -- none of the lines is passed over
  lines_kept : (k n : ℕ) (ops : List Operator) → n + length ops ≤ 10000 → AllGood ops → lines_from k (texts n ops) ≡ laid k n ops
  lines_kept k n [] h g = refl
  lines_kept k n (op ∷ ops) h g =
      ap (λ c. cond c (lines_from (k + 1) (texts (suc n) ops)) (record { number = k; text = line_text n op } ∷ lines_from (k + 1) (texts (suc n) ops))) (line_kept n op (this_small n (length ops) h) g.0)
      ∙ ap (λ ls. record { number = k; text = line_text n op } ∷ ls) (lines_kept (k + 1) (suc n) ops (one_less n (length ops) h) g.1)

  -- none of the lines is a class line
  lines_stay : (k n : ℕ) (ops : List Operator) → n + length ops ≤ 10000 → AllGood ops → without_class (laid k n ops) ≡ laid k n ops
  lines_stay k n [] h g = refl
  lines_stay k n (op ∷ []) h g = ap (λ c. cond c [] (record { number = k; text = line_text n op } ∷ [])) (line_classes n op (this_small n 0 h) g.0)
  lines_stay k n (op ∷ q ∷ ops) h g = ap (λ ls. record { number = k; text = line_text n op } ∷ ls) (lines_stay (k + 1) (suc n) (q ∷ ops) (one_less n (length (q ∷ ops)) h) g.1)

  -- the lines of a text that have operators
  pub text_laid : (ops : List Operator) → length ops ≤ 10000 → AllGood ops → operator_lines (plan_text.lines_from names spec_names 0 ops) ≡ laid 1 0 ops
  text_laid ops h g =
      ap (λ ls. without_class (lines_from 1 ls)) (text_lines 0 ops (omega (arith, h)) g) ∙ ap without_class (lines_kept 1 0 ops (omega (arith, h)) g) ∙ lines_stay 1 0 ops (omega (arith, h)) g

  -- the lines spell the operators
  pub laid_spelled : (k n : ℕ) (ops : List Operator) → n + length ops ≤ 10000 → AllGood ops → SpellLines names sources (laid k n ops) (numbered_from n ops)
  laid_spelled k n [] h g = tt
  laid_spelled k n (op ∷ ops) h g = (line_spelled n op (this_small n (length ops) h) g.0, laid_spelled (k + 1) (suc n) ops (one_less n (length ops) h) g.1)

  -- the variables of the lines are the operators'
  pub laid_read : (k n : ℕ) (ops : List Operator) → n + length ops ≤ 10000 → AllGood ops
      → flat_map (λ (l : Line). line_vars l.text) (laid k n ops) ≡ map (name_or_number names) (vars_of ops)
  laid_read k n [] h g = refl
  laid_read k n (op ∷ ops) h g =
      ap (λ xs. xs ++ flat_map (λ (l : Line). line_vars l.text) (laid (k + 1) (suc n) ops)) (line_read n op (this_small n (length ops) h) g.0)
      ∙ ap (λ xs. map (name_or_number names) (op_vars op) ++ xs) (laid_read (k + 1) (suc n) ops (one_less n (length ops) h) g.1)
      ∙ sym (map-append (name_or_number names) (op_vars op) (vars_of ops))

  -- the text is UTF-8
  pub text_utf8 : (n : ℕ) (ops : List Operator) → n + length ops ≤ 10000 → AllGood ops → IsUtf8 (plan_text.lines_from names spec_names n ops)
  text_utf8 n [] h g = IsUtf8-nil
  text_utf8 n (op ∷ ops) h g =
      IsUtf8-append (line_text n op) (10 ∷ plan_text.lines_from names spec_names (suc n) ops) (line_utf8 n op (this_small n (length ops) h) g.0)
      (IsUtf8-append (10 ∷ []) (plan_text.lines_from names spec_names (suc n) ops) (one_utf8 10 (omega arith)) (text_utf8 (suc n) ops (one_less n (length ops) h) g.1))

  -- a variable is written as a name where it has one
  name_test : (v : ℕ) → v < 2 ^ 32 → is_name (name_or_number names v) ≡ nat_lt v (length names)
  name_test v small = by_case (nat_lt v (length names)) refl
    where
      by_case : (c : Bool) → nat_lt v (length names) ≡ c → is_name (cond c (slice_index_or names v []) (decimal v)) ≡ c
      by_case true e = let less : v < length names = grind (arith, nat_tests, e) in (are v less).0
      by_case false e = no_name (decimal v) (decimal_number v (omega (arith, small)))

  -- of variables, those that are written as names are the named ones, each by its name
  pub names_read : (vs : List ℕ) → AllByRecursion (λ v. v < 2 ^ 32) vs
      → filter is_name (map (name_or_number names) vs) ≡ map (λ v. slice_index_or names v []) (filter (λ v. nat_lt v (length names)) vs)
  names_read [] h = refl
  names_read (v ∷ vs) h = by_case (nat_lt v (length names)) refl (name_test v h.0) (names_read vs h.1)
    where
      by_case : (c : Bool) → nat_lt v (length names) ≡ c → is_name (name_or_number names v) ≡ nat_lt v (length names)
          → filter is_name (map (name_or_number names) vs) ≡ map (λ v. slice_index_or names v []) (filter (λ v. nat_lt v (length names)) vs)
          → filter is_name (map (name_or_number names) (v ∷ vs)) ≡ map (λ v. slice_index_or names v []) (filter (λ v. nat_lt v (length names)) (v ∷ vs))
      by_case true e t more =
          ap (λ b. cond b (name_or_number names v ∷ filter is_name (map (name_or_number names) vs)) (filter is_name (map (name_or_number names) vs))) (t ∙ e)
          ∙ ap (λ b. cond b (slice_index_or names v []) (decimal v) ∷ filter is_name (map (name_or_number names) vs)) e ∙ ap (λ xs. slice_index_or names v [] ∷ xs) more
          ∙ sym (ap (λ b. map (λ v. slice_index_or names v []) (cond b (v ∷ filter (λ v. nat_lt v (length names)) vs) (filter (λ v. nat_lt v (length names)) vs))) e)
      by_case false e t more =
          ap (λ b. cond b (name_or_number names v ∷ filter is_name (map (name_or_number names) vs)) (filter is_name (map (name_or_number names) vs))) (t ∙ e)
          ∙ more ∙ sym (ap (λ b. map (λ v. slice_index_or names v []) (cond b (v ∷ filter (λ v. nat_lt v (length names)) vs) (filter (λ v. nat_lt v (length names)) vs))) e)

  -- a variable without a name has no small number
  below_none : (v : ℕ) → v < 2 ^ 32 → is_below (length names) (name_or_number names v) ≡ false
  below_none v small = by_case (nat_lt v (length names)) refl
    where
      wide : v < 2 ^ 64
      wide = omega (arith, small)

      by_case : (c : Bool) → nat_lt v (length names) ≡ c → is_below (length names) (cond c (slice_index_or names v []) (decimal v)) ≡ false
      by_case true e = let less : v < length names = grind (arith, nat_tests, e) in ap (λ b. cond b false (is_less (length names) (var_number (slice_index_or names v [])))) (are v less).0
      by_case false e =
          let value = decimal_value v wide in
          let few : nat_lt (digits_value 10 (decimal v)) 4294967296 ≡ true = subst (λ m. nat_lt m 4294967296 ≡ true) (sym value) (grind (arith, nat_tests, small)) in
          ap (λ b. cond b false (is_less (length names) (var_number (decimal v)))) (no_name (decimal v) (decimal_number v wide))
          ∙ ap (λ b. is_less (length names) (cond b (Some (digits_value 10 (decimal v))) None)) (and_both (is_decimal (decimal v)) (nat_lt (digits_value 10 (decimal v)) 4294967296) (decimal_number v wide) few)
          ∙ ap (λ m. nat_lt m (length names)) value ∙ e

  -- no variable without a name has a small number
  none_below : (vs : List ℕ) → AllByRecursion (λ v. v < 2 ^ 32) vs → AllByRecursion (λ x. is_below (length names) x ≡ false) (map (name_or_number names) vs)
  none_below [] h = tt
  none_below (v ∷ vs) h = (below_none v h.0, none_below vs h.1)

  -- the variables of the lines are in range
  pub laid_ranged : (k n : ℕ) (ops : List Operator) → n + length ops ≤ 10000 → AllGood ops → AllByRecursion (λ op. AllByRecursion (λ v. v < 2 ^ 32) (op_vars op)) ops
      → AllByRecursion (IsRanged (length names)) (laid k n ops)
  laid_ranged k n [] h g v = tt
  laid_ranged k n (op ∷ ops) h g v = (
    subst (AllByRecursion (λ x. is_below (length names) x ≡ false)) (sym (line_read n op (this_small n (length ops) h) g.0)) (none_below (op_vars op) v.0),
    laid_ranged (k + 1) (suc n) ops (one_less n (length ops) h) g.1 v.1,
  )
