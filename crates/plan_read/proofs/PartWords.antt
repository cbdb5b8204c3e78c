-- The canonical words of parts: each stays whole where lines are cut, spells its part, and has the part's variables.
use Rattle.std.proofs.Common.{◌≡◌, inl, inr, ◌<◌, ◌^◌, ◌∙◌, ◌==◌, ◌&&◌, ◌||◌, ◌++◌, not, ℕ, zero, suc, min, Bool, true, false, cond, IsTrue, List, [], ◌∷◌, Some, None, refl, sym, ap, subst, arith, length, map, nat_lt, nat_le, codes, slice_get}
use Rattle.std.specs.Prelude.{slice_index_or, unwrap_or}
use Rattle.std.specs.List.{AllByRecursion, list_all, flat_map}
use Rattle.std.specs.Str.{IsUtf8}
use Rattle.std.specs.Str.Parse.{digits_value}
use Rattle.std.specs.Fmt.{decimal}
use Rattle.std.proofs.lemmas.Bool.Decides.{nat_tests}
use Rattle.std.proofs.lemmas.Str.{IsUtf8-append, IsUtf8-nil}
use Rattle.mix_base.proofs.Choices.{and_parts, and_both}
use Rattle.mix_base.proofs.Lists.{append_nil}
use Rattle.mix_base.proofs.Utf8.{one_utf8, utf8_push}
use Rattle.mix_tree.specs.Keys.{key_var}
use Rattle.mix_tree.specs.LabelOrder.{is_digit}
use Rattle.mix_tree.specs.Names.{IsName, is_name_byte}
use Rattle.mix_tree.specs.Spelling.{quoted}
use Rattle.mix_tree.specs.declared.var.Key.{Key}
use Rattle.mix_tree.specs.declared.var.Key.TheVariants.{Node as node_key, LabelOf as label_key}
use Rattle.mix_words.specs.Words.{is_letter, is_script_byte, is_name}
use Rattle.path_expr.specs.Canonical.{canon}
use Rattle.path_expr.proofs.Again.{quoted_pieces}
use Rattle.path_expr.proofs.Utf8.{name_utf8}
use Rattle.mix_catalog.specs.Sources.{AreNumbered}
use Rattle.mix_catalog.specs.declared.source.SourceSpec.{SourceSpec}
use Rattle.plan_core.specs.PlanText.{var_text, key_text, keys_between, keys_text}
use Rattle.plan_read.specs.Grammar.{Part, keyword, number, variable, of_source, of_element, path, text, keys, part_text, IsVarText, SpellsKey, SpellEach, SpellsPart}
use Rattle.plan_read.specs.Reading.{source_number}
use Rattle.plan_read.specs.Variables.{key_dollared, key_texts, word_vars, as_list}
use Rattle.plan_read.specs.Words.{between}
use Rattle.plan_read.specs.Writable.{part_vars, IsWritten, AreNames}
use Rattle.plan_read.specs.declared.words.Mode.TheVariants.{Plain, Braced}
use Rattle.plan_read.proofs.Decimals.{decimal_number, decimal_value}
use Rattle.plan_read.proofs.NameTexts.{name_text}
use Rattle.plan_read.proofs.Passes.{passes, parts_words, IsWhole, passes_append}
use Rattle.plan_read.proofs.PlainWords.{IsPlain, plain_vars, digits_plain, name_plain, script_plain, quoted_plain, canon_plain, quoted_utf8}
use Rattle.plan_read.proofs.ReadWords.{all_weaker, other_byte, all_digits, texts_cut, braced_reads}

-- a variable as it is written after its $
abbrev pub name_or_number : List (List ℕ) → ℕ → List ℕ
name_or_number names v = cond (nat_lt v (length names)) (slice_index_or names v []) (decimal v)

-- the first of two tests holds, so one does
left_holds : (a b : Bool) → a ≡ true → (a || b) ≡ true
left_holds true b h = refl
left_holds false b h = cc

-- the middle of three tests holds, so one does
middle_holds : (a b c : Bool) → b ≡ true → (a || b || c) ≡ true
middle_holds true b c h = refl
middle_holds false true c h = refl
middle_holds false false c h = cc

-- a digit is a byte of a variable's name
digit_script : (b : ℕ) → is_digit b ≡ true → is_script_byte b ≡ true
digit_script b h = middle_holds (is_letter b) (nat_le 48 b && nat_le b 57) (b == 95) h

-- a digit is a byte of a name
digit_name : (b : ℕ) → is_digit b ≡ true → is_name_byte b ≡ true
digit_name b h = third_of (nat_le 97 b && nat_le b 122) (nat_le 65 b && nat_le b 90) (nat_le 48 b && nat_le b 57) (b == 95) (b == 45) h
  where
    third_of : (a b c d e : Bool) → c ≡ true → (a || b || c || d || e) ≡ true
    third_of true b c d e h = refl
    third_of false true c d e h = refl
    third_of false false true d e h = refl
    third_of false false false d e h = cc

-- digits are UTF-8
digits_utf8 : (x : List ℕ) → IsTrue (list_all is_digit x) → IsUtf8 x
digits_utf8 x h = name_utf8 x (all_weaker is_digit is_name_byte digit_name x h)

-- a script name has bytes of variables' names
name_script : (x : List ℕ) → IsTrue (is_name x) → IsTrue (list_all is_script_byte x)
name_script [] h = refl
name_script (b ∷ x) h =
    let parts = and_parts (is_letter b) (list_all is_script_byte x) h in
    and_both (is_script_byte b) (list_all is_script_byte x) (left_holds (is_letter b || (nat_le 48 b && nat_le b 57)) (b == 95) (left_holds (is_letter b) (nat_le 48 b && nat_le b 57) parts.0)) parts.1

-- whether a byte may stand between braces
abbrev in_braces : ℕ → Bool
in_braces b = not (b == 10) && not (b == 125)

-- a text whose bytes all may stand between braces leaves a line between braces
braces_pass : (x : List ℕ) → IsTrue (list_all in_braces x) → passes parts_words Braced x ≡ Some Braced
braces_pass [] h = refl
braces_pass (b ∷ x) h = let parts = and_parts (in_braces b) (list_all in_braces x) h in by_byte (b == 10) (b == 125) parts.0 (braces_pass x parts.1)
  where
    by_byte : (c d : Bool) → IsTrue (not c && not d) → passes parts_words Braced x ≡ Some Braced
        → cond (c || (false && parts_words b)) None (passes parts_words (cond d Plain Braced) x) ≡ Some Braced
    by_byte false false h more = more
    by_byte true d h more = cc
    by_byte false true h more = cc

-- bytes of the names of variables may stand between braces
script_inside : (x : List ℕ) → IsTrue (list_all is_script_byte x) → IsTrue (list_all in_braces x)
script_inside x h = all_weaker is_script_byte in_braces (λ b k. and_both (not (b == 10)) (not (b == 125)) (ap not (other_byte is_script_byte b 10 refl k)) (ap not (other_byte is_script_byte b 125 refl k))) x h

-- two texts that may stand between braces may do so together
inside_append : (x y : List ℕ) → IsTrue (list_all in_braces x) → IsTrue (list_all in_braces y) → IsTrue (list_all in_braces (x ++ y))
inside_append [] y h k = k
inside_append (b ∷ x) y h k = let parts = and_parts (in_braces b) (list_all in_braces x) h in and_both (in_braces b) (list_all in_braces (x ++ y)) parts.0 (inside_append x y parts.1 k)

-- a source of a catalog has its number's name among the names of sources
source_at : (ss : List SourceSpec) (n : ℕ) → n < length ss → (s : SourceSpec) × (slice_get ss n ≡ Some s) × (slice_index_or (map (λ (t : SourceSpec). t.name) ss) n [] ≡ s.name)
source_at [] n h = absurd (omega arith)
source_at (s ∷ ss) zero h = (s, refl, refl)
source_at (s ∷ ss) (suc n) h = source_at ss n (omega arith)

module _ (sources : List SourceSpec) (catalog : AreNumbered sources) (names : List (List ℕ)) (are : AreNames names) where
  -- the names of the sources
  abbrev pub names_of_sources : List (List ℕ)
  names_of_sources = map (λ (s : SourceSpec). s.name) sources

  -- the canonical word of a part
  abbrev pub word : Part → List ℕ
  word p = part_text names names_of_sources p

  -- a part's own bounds: fixed words are plain, numbers have 32 bits, and sources are among those that there are
  abbrev pub IsKnown : Part → Type 0
  IsKnown (keyword w) = IsPlain w × IsUtf8 w
  IsKnown (number n) = n < 4294967295
  IsKnown (variable v) = Unit {0}
  IsKnown (of_source s) = s < length sources
  IsKnown (of_element name) = Unit {0}
  IsKnown (path p) = Unit {0}
  IsKnown (text label) = Unit {0}
  IsKnown (keys ks) = Unit {0}

  -- a part that is written
  pub record IsGood (p : Part) : Type 0 where
    pub known : IsKnown p
    pub written : IsWritten p
    pub vars : AllByRecursion (λ v. v < 2 ^ 32) (part_vars p)

  -- what is written of a variable is its text
  var_is : (v : ℕ) → v < 2 ^ 32 → IsVarText names v (name_or_number names v)
  var_is v small = by_case (nat_lt v (length names)) refl
    where
      by_case : (c : Bool) → nat_lt v (length names) ≡ c → IsVarText names v (cond c (slice_index_or names v []) (decimal v))
      by_case true e = let less : v < length names = grind (arith, nat_tests, e) in inl (are v less)
      by_case false e = let wide : v < 2 ^ 64 = omega (arith, small) in inr (decimal_number v wide, decimal_value v wide, small)

  -- what is written of a variable has the bytes of a name
  var_script : (v : ℕ) → v < 2 ^ 32 → IsTrue (list_all is_script_byte (name_or_number names v))
  var_script v small = by_text (name_or_number names v) (var_is v small)
    where
      by_text : (x : List ℕ) → IsVarText names v x → IsTrue (list_all is_script_byte x)
      by_text x (inl h) = name_script x h.0
      by_text x (inr h) = all_weaker is_digit is_script_byte digit_script x (all_digits x h.0)

  -- a variable is written in UTF-8
  var_utf8 : (v : ℕ) → v < 2 ^ 32 → IsUtf8 (var_text names v)
  var_utf8 v small = name_bytes (name_or_number names v) (var_is v small)
    where
      name_bytes : (x : List ℕ) → IsVarText names v x → IsUtf8 (36 ∷ x)
      name_bytes x (inl h) = IsUtf8-append (36 ∷ []) x (one_utf8 36 (omega arith)) (name_text x h.0)
      name_bytes x (inr h) = IsUtf8-append (36 ∷ []) x (one_utf8 36 (omega arith)) (digits_utf8 x (all_digits x h.0))

  -- the text of a key may stand between braces
  key_inside : (k : Key) → key_var k < 2 ^ 32 → IsTrue (list_all in_braces (key_text names k))
  key_inside (node_key v) small = script_inside (name_or_number names v) (var_script v small)
  key_inside (label_key v) small = script_inside (name_or_number names v) (var_script v small)

  -- a key is written in UTF-8
  key_utf8 : (k : Key) → key_var k < 2 ^ 32 → IsUtf8 (key_text names k)
  key_utf8 (node_key v) small = var_utf8 v small
  key_utf8 (label_key v) small = IsUtf8-append (codes "label ") (var_text names v) (name_utf8_label) (var_utf8 v small)
    where
      name_utf8_label : IsUtf8 (codes "label ")
      name_utf8_label = utf8_push (codes "label") 32 (omega arith) (name_utf8 (codes "label") refl)

  -- keys, each after a comma, may stand between braces
  more_inside : (ks : List Key) → AllByRecursion (λ v. v < 2 ^ 32) (map key_var ks) → IsTrue (list_all in_braces (flat_map (λ k. 44 ∷ key_text names k) ks))
  more_inside [] small = refl
  more_inside (k ∷ ks) small = inside_append (key_text names k) (flat_map (λ k. 44 ∷ key_text names k) ks) (key_inside k small.0) (more_inside ks small.1)

  -- keys with commas between them may stand between braces
  keys_inside : (ks : List Key) → AllByRecursion (λ v. v < 2 ^ 32) (map key_var ks) → IsTrue (list_all in_braces (keys_between names ks))
  keys_inside [] small = refl
  keys_inside (k ∷ ks) small = inside_append (key_text names k) (flat_map (λ k. 44 ∷ key_text names k) ks) (key_inside k small.0) (more_inside ks small.1)

  -- keys, each after a comma, are written in UTF-8
  more_utf8 : (ks : List Key) → AllByRecursion (λ v. v < 2 ^ 32) (map key_var ks) → IsUtf8 (flat_map (λ k. 44 ∷ key_text names k) ks)
  more_utf8 [] small = IsUtf8-nil
  more_utf8 (k ∷ ks) small =
      IsUtf8-append (44 ∷ key_text names k) (flat_map (λ k. 44 ∷ key_text names k) ks) (IsUtf8-append (44 ∷ []) (key_text names k) (one_utf8 44 (omega arith)) (key_utf8 k small.0)) (more_utf8 ks small.1)

  -- keys with commas between them are written in UTF-8
  between_utf8 : (ks : List Key) → AllByRecursion (λ v. v < 2 ^ 32) (map key_var ks) → IsUtf8 (keys_between names ks)
  between_utf8 [] small = IsUtf8-nil
  between_utf8 (k ∷ ks) small = IsUtf8-append (key_text names k) (flat_map (λ k. 44 ∷ key_text names k) ks) (key_utf8 k small.0) (more_utf8 ks small.1)

  -- each key's text spells it
  key_spelled : (k : Key) → key_var k < 2 ^ 32 → SpellsKey names k (key_text names k)
  key_spelled (node_key v) small = (name_or_number names v, refl, var_is v small)
  key_spelled (label_key v) small = (var_text names v, refl, (name_or_number names v, refl, var_is v small))

  -- the texts of keys spell them, one by one
  each_spelled : (ks : List Key) → AllByRecursion (λ v. v < 2 ^ 32) (map key_var ks) → SpellEach names ks (map (key_text names) ks)
  each_spelled [] small = tt
  each_spelled (k ∷ ks) small = (key_spelled k small.0, each_spelled ks small.1)

  -- the canonical text of keys is their texts with commas between them
  between_keys : (ks : List Key) → keys_between names ks ≡ between 44 (map (key_text names) ks)
  between_keys [] = refl
  between_keys (k ∷ ks) = ap (λ x. key_text names k ++ x) (more ks)
    where
      more : (ks : List Key) → flat_map (λ k. 44 ∷ key_text names k) ks ≡ flat_map (λ y. 44 ∷ y) (map (key_text names) ks)
      more [] = refl
      more (k ∷ ks) = ap (λ x. (44 ∷ key_text names k) ++ x) (more ks)

  -- the variable of a key's text
  key_var_read : (k : Key) → key_dollared (key_text names k) ≡ name_or_number names (key_var k) ∷ []
  key_var_read (node_key v) = by_first (name_or_number names v)
    where
      by_first : (x : List ℕ) → key_dollared (36 ∷ x) ≡ x ∷ []
      by_first x = refl
  key_var_read (label_key v) = refl

  -- the variables in the texts of keys are theirs
  keys_vars_read : (ks : List Key) → flat_map key_dollared (map (key_text names) ks) ≡ map (name_or_number names) (map key_var ks)
  keys_vars_read [] = refl
  keys_vars_read (k ∷ ks) = ap (λ xs. xs ++ flat_map key_dollared (map (key_text names) ks)) (key_var_read k) ∙ ap (λ xs. name_or_number names (key_var k) ∷ xs) (keys_vars_read ks)

  -- the variables of the word of keys are the keys' variables
  keys_vars : (ks : List Key) → AllByRecursion (λ v. v < 2 ^ 32) (map key_var ks) → word_vars (keys_text names ks) ≡ map (name_or_number names) (map key_var ks)
  keys_vars ks small =
      ap (λ o. flat_map (λ body. flat_map key_dollared (key_texts body)) (as_list o)) (braced_reads (keys_between names ks))
      ∙ one (keys_between names ks)
      ∙ ap (λ x. flat_map key_dollared (key_texts x)) (between_keys ks)
      ∙ ap (flat_map key_dollared) (texts_cut names ks (map (key_text names) ks) (each_spelled ks small)) ∙ keys_vars_read ks
    where
      one : (x : List ℕ) → flat_map (λ body. flat_map key_dollared (key_texts body)) (x ∷ []) ≡ flat_map key_dollared (key_texts x)
      one x = append_nil (flat_map key_dollared (key_texts x))

  -- the name of a source of a catalog is a name, and the source is found by it
  source_is : (s : ℕ) → s < length sources → IsName (slice_index_or names_of_sources s []) × (source_number sources (slice_index_or names_of_sources s []) ≡ s)
  source_is s h =
      let at = source_at sources s h in
      let found = catalog s at.0 at.1 in (
        subst IsName (sym at.2) found.0,
        ap (source_number sources) at.2 ∙ ap (λ o. unwrap_or o (length sources)) found.1,
      )

  -- an operator's number has 64 bits
  number_wide : (n : ℕ) → n < 4294967295 → n < 2 ^ 64
  number_wide n h = omega (arith, h)

  -- the word of a part stays whole
  pub part_whole : (p : Part) → IsGood p → IsWhole (word p)
  part_whole (keyword w) g = g.known.0.whole
  part_whole (number n) g = (digits_plain (decimal n) (all_digits (decimal n) (decimal_number n (number_wide n g.known)))).whole
  part_whole (variable v) g = (script_plain (name_or_number names v) (var_script v g.vars.0)).whole
  part_whole (of_source s) g = (name_plain (slice_index_or names_of_sources s []) (source_is s g.known).0.0).whole
  part_whole (of_element name) g = (name_plain name g.written.0).whole
  part_whole (path p) g = (canon_plain p).whole
  part_whole (text label) g = (quoted_plain label).whole
  part_whole (keys ks) g = passes_append parts_words Braced Braced (keys_between names ks) (125 ∷ []) (braces_pass (keys_between names ks) (keys_inside ks g.vars))

  -- the word of a part has its variables
  pub part_read : (p : Part) → IsGood p → word_vars (word p) ≡ map (name_or_number names) (part_vars p)
  part_read (keyword w) g = plain_vars w g.known.0
  part_read (number n) g = plain_vars (decimal n) (digits_plain (decimal n) (all_digits (decimal n) (decimal_number n (number_wide n g.known))))
  part_read (variable v) g = by_first (name_or_number names v)
    where
      by_first : (x : List ℕ) → word_vars (36 ∷ x) ≡ x ∷ []
      by_first x = refl
  part_read (of_source s) g = plain_vars (slice_index_or names_of_sources s []) (name_plain (slice_index_or names_of_sources s []) (source_is s g.known).0.0)
  part_read (of_element name) g = plain_vars name (name_plain name g.written.0)
  part_read (path p) g = plain_vars (canon p) (canon_plain p)
  part_read (text label) g = plain_vars (quoted label) (quoted_plain label)
  part_read (keys ks) g = keys_vars ks g.vars

  -- the word of a part is UTF-8
  pub part_utf8 : (p : Part) → IsGood p → IsUtf8 (word p)
  part_utf8 (keyword w) g = g.known.1
  part_utf8 (number n) g = digits_utf8 (decimal n) (all_digits (decimal n) (decimal_number n (number_wide n g.known)))
  part_utf8 (variable v) g = var_utf8 v g.vars.0
  part_utf8 (of_source s) g = name_utf8 (slice_index_or names_of_sources s []) (source_is s g.known).0.0
  part_utf8 (of_element name) g = name_utf8 name g.written.0
  part_utf8 (path p) g = g.written.0
  part_utf8 (text label) g = quoted_utf8 label g.written
  part_utf8 (keys ks) g =
      IsUtf8-append (123 ∷ []) (keys_between names ks ++ 125 ∷ []) (one_utf8 123 (omega arith)) (utf8_push (keys_between names ks) 125 (omega arith) (between_utf8 ks g.vars))

  -- the word of a part spells it
  pub part_spelled : (p : Part) → IsGood p → SpellsPart names sources p (word p)
  part_spelled (keyword w) g = refl
  part_spelled (number n) g = (decimal_number n (number_wide n g.known), value n g.known)
    where
      least : (a n : ℕ) → a ≡ n → n < 4294967295 → min a 4294967295 ≡ n
      least a n e h = omega (arith, e, h)

      value : (n : ℕ) → n < 4294967295 → min (digits_value 10 (decimal n)) 4294967295 ≡ n
      value n h = least (digits_value 10 (decimal n)) n (decimal_value n (number_wide n h)) h
  part_spelled (variable v) g = (name_or_number names v, refl, var_is v g.vars.0)
  part_spelled (of_source s) g = source_is s g.known
  part_spelled (of_element name) g = (g.written, refl)
  part_spelled (path p) g = (g.written.0, inl g.written.1)
  part_spelled (text label) g = (quoted_utf8 label g.written, quoted_pieces label)
  part_spelled (keys ks) g = (map (key_text names) ks, each_spelled ks g.vars, ap (λ x. 123 ∷ x ++ 125 ∷ []) (between_keys ks))
