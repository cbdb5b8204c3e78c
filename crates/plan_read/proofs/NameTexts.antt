-- The names of a plan's text are UTF-8.
use Rattle.std.proofs.Common.{◌≡◌, ◌&&◌, ◌||◌, ◌==◌, ◌++◌, ℕ, Bool, true, false, cond, List, [], ◌∷◌, refl, nat_le, filter, flat_map}
use Rattle.std.specs.List.{AllByRecursion, list_all, list_any}
use Rattle.std.specs.Str.{IsUtf8, bytes_eq}
use Rattle.mix_base.proofs.Choices.{and_parts, and_both}
use Rattle.mix_base.proofs.Firsts.{each_snoc}
use Rattle.mix_tree.specs.Names.{is_name_byte}
use Rattle.mix_words.specs.Words.{is_letter, is_script_byte, is_name}
use Rattle.path_expr.proofs.Utf8.{name_utf8}
use Rattle.plan_read.specs.Lines.{Line}
use Rattle.plan_read.specs.Variables.{line_vars, with_new, names_in}
use Rattle.plan_read.proofs.ReadWords.{all_weaker}

-- false is not true
false_true : ◌≡◌ {A = Bool} false true → ⊥
false_true h = cc

-- where one of two tests holds, one of five does
two_of_five : (a b c d e : Bool) → (a || b) ≡ true → (a || b || c || d || e) ≡ true
two_of_five true b c d e h = h
two_of_five false true c d e h = h
two_of_five false false c d e h = absurd (false_true h)

-- where one of four tests holds, one of five does
four_of_five : (a b c d e : Bool) → ((a || b) || c || d) ≡ true → (a || b || c || d || e) ≡ true
four_of_five true b c d e h = h
four_of_five false true c d e h = h
four_of_five false false true d e h = h
four_of_five false false false true e h = h
four_of_five false false false false e h = absurd (false_true h)

-- a letter is a byte of a name
letter_byte : (b : ℕ) → is_letter b ≡ true → is_name_byte b ≡ true
letter_byte b h = two_of_five (nat_le 97 b && nat_le b 122) (nat_le 65 b && nat_le b 90) (nat_le 48 b && nat_le b 57) (b == 95) (b == 45) h

-- a byte of a script name is a byte of a name
script_byte : (b : ℕ) → is_script_byte b ≡ true → is_name_byte b ≡ true
script_byte b h = four_of_five (nat_le 97 b && nat_le b 122) (nat_le 65 b && nat_le b 90) (nat_le 48 b && nat_le b 57) (b == 95) (b == 45) h

-- a script name is UTF-8
pub name_text : (x : List ℕ) → is_name x ≡ true → IsUtf8 x
name_text [] h = absurd (false_true h)
name_text (b ∷ x) h =
    let parts = and_parts (is_letter b) (list_all is_script_byte x) h in
    name_utf8 (b ∷ x) (and_both (is_name_byte b) (list_all is_name_byte x) (letter_byte b parts.0) (all_weaker is_script_byte is_name_byte script_byte x parts.1))

-- the script names among texts are UTF-8
named_texts : (xs : List (List ℕ)) → AllByRecursion IsUtf8 (filter is_name xs)
named_texts [] = tt
named_texts (x ∷ xs) = by_case (is_name x) refl (named_texts xs)
  where
    by_case : (b : Bool) → is_name x ≡ b → AllByRecursion IsUtf8 (filter is_name xs) → AllByRecursion IsUtf8 (cond b (x ∷ filter is_name xs) (filter is_name xs))
    by_case true e h = (name_text x e, h)
    by_case false e h = h

-- UTF-8 names with new UTF-8 names after them are UTF-8
new_texts : (names xs : List (List ℕ)) → AllByRecursion IsUtf8 names → AllByRecursion IsUtf8 xs → AllByRecursion IsUtf8 (with_new names xs)
new_texts names [] a b = a
new_texts names (x ∷ xs) a b = new_texts (cond (list_any (bytes_eq x) names) names (names ++ x ∷ [])) xs (by_case (list_any (bytes_eq x) names)) b.1
  where
    by_case : (t : Bool) → AllByRecursion IsUtf8 (cond t names (names ++ x ∷ []))
    by_case true = a
    by_case false = each_snoc IsUtf8 names x a b.0

-- the names of lines are UTF-8
pub names_text : (ls : List Line) → AllByRecursion IsUtf8 (names_in ls)
names_text ls = new_texts [] (filter is_name (flat_map (λ (l : Line). line_vars l.text) ls)) tt (named_texts (flat_map (λ (l : Line). line_vars l.text) ls))
