-- The labels of a UTF-8 text are UTF-8.
use Rattle.std.proofs.Common.{◌<◌, ◌==◌, ℕ, zero, suc, Bool, cond, IsTrue, List, [], ◌∷◌, ◌++◌, sym, subst, append_assoc, arith}
use Rattle.std.proofs.lemmas.Bool.Decides.{nat_tests}
use Rattle.std.proofs.lemmas.Str.{IsUtf8-append, IsUtf8-from_ascii}
use Rattle.std.specs.Str.{IsUtf8, IsAscii}
use Rattle.std.specs.List.{list_all}
use Rattle.mix_tree.specs.LabelGrammar.{Piece, plain, escape, is_escape, escaped_byte, is_piece, ArePieces, inside_quotes, meaning}
use Rattle.mix_tree.specs.Names.{is_name_byte}
use Rattle.mix_base.proofs.Choices.{and_parts}
use Rattle.mix_base.proofs.Utf8.{utf8_split, one_ascii}

-- bytes after a backslash are ASCII
escape_ascii : (b : ℕ) → IsTrue (is_escape b) → b < 128
escape_ascii b h = grind (arith, nat_tests)

-- a byte below 128 after a backslash means one below 128
escaped_ascii : (b : ℕ) → b < 128 → escaped_byte b < 128
escaped_ascii b h = by_cases (b == 110) (b == 116)
  where
    by_cases : (c d : Bool) → cond c 10 (cond d 9 b) < 128
    by_cases c d = grind arith

-- the label between quotes of a UTF-8 text is UTF-8
pub label_utf8 : (u : List ℕ) (ps : List Piece) → ArePieces ps → IsUtf8 (u ++ inside_quotes ps) → IsUtf8 (u ++ meaning ps)
label_utf8 u [] q h = h
label_utf8 u (plain b ∷ ps) q h =
    subst IsUtf8 (append_assoc u (b ∷ []) (meaning ps))
    (label_utf8 (u ++ b ∷ []) ps (and_parts _ (list_all is_piece ps) q).1 (subst IsUtf8 (sym (append_assoc u (b ∷ []) (inside_quotes ps))) h))
label_utf8 u (escape b ∷ ps) q h =
    let parts = and_parts (is_escape b) (list_all is_piece ps) q in
    let low : b < 128 = escape_ascii b parts.0 in
    let two = utf8_split u (b ∷ inside_quotes ps) 92 (omega arith) h in
    let rest = utf8_split [] (inside_quotes ps) b low two.1 in
    IsUtf8-append u (escaped_byte b ∷ meaning ps) two.0
    (IsUtf8-append (escaped_byte b ∷ []) (meaning ps) (IsUtf8-from_ascii (escaped_byte b ∷ []) (one_ascii (escaped_byte b) (escaped_ascii b low))) (label_utf8 [] ps parts.1 rest.1))

-- bytes of names are ASCII
name_ascii : (b : ℕ) → IsTrue (is_name_byte b) → b < 128
name_ascii b h = grind (arith, nat_tests)

-- names are ASCII
IsAscii-name : (xs : List ℕ) → IsTrue (list_all is_name_byte xs) → IsAscii xs
IsAscii-name [] h i = omega arith
IsAscii-name (x ∷ xs) h zero = name_ascii x (and_parts (is_name_byte x) (list_all is_name_byte xs) h).0
IsAscii-name (x ∷ xs) h (suc i) = IsAscii-name xs (and_parts (is_name_byte x) (list_all is_name_byte xs) h).1 i

-- names are UTF-8
pub name_utf8 : (xs : List ℕ) → IsTrue (list_all is_name_byte xs) → IsUtf8 xs
name_utf8 xs h = IsUtf8-from_ascii xs (IsAscii-name xs h)

-- the label between two quotes of a UTF-8 text is UTF-8
pub quoted_utf8 : (a b rest : List ℕ) (ps : List Piece) → ArePieces ps → IsUtf8 ((a ++ (b ++ 34 ∷ inside_quotes ps)) ++ 34 ∷ rest) → IsUtf8 (meaning ps)
quoted_utf8 a b rest ps q h =
    let all = utf8_split (a ++ (b ++ 34 ∷ inside_quotes ps)) rest 34 (omega arith) h in
    let inner = utf8_split (a ++ b) (inside_quotes ps) 34 (omega arith) (subst IsUtf8 (sym (append_assoc a b (34 ∷ inside_quotes ps))) all.0) in
    label_utf8 [] ps q inner.1
