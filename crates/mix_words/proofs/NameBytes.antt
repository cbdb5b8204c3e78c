-- Script names and SQL names are ASCII.
use Rattle.std.proofs.Common.{◌≡◌, ◌<◌, ◌≤◌, ℕ, zero, suc, Bool, true, false, ◌&&◌, ◌||◌, ◌==◌, IsTrue, List, [], ◌∷◌, refl, arith, get_or, drop, take, length, ◌-◌, ap, sym}
use Rattle.std.proofs.lemmas.Bool.Decides.{nat_tests}
use Rattle.std.proofs.lemmas.Str.{IsUtf8-from_ascii}
use Rattle.std.specs.Str.{IsAscii, IsUtf8}
use Rattle.std.specs.List.{list_all}
use Rattle.mix_words.specs.Words.{is_name, is_sql_name, is_letter, is_script_byte}

-- where a conjunction holds, both of its tests hold
and_parts : (a b : Bool) → IsTrue (a && b) → IsTrue a × IsTrue b
and_parts true true h = (refl, refl)
and_parts true false h = cc
and_parts false b h = cc

-- a letter is ASCII
letter_ascii : (b : ℕ) → IsTrue (is_letter b) → b < 128
letter_ascii b h = grind (arith, nat_tests)

-- each byte of a name is ASCII
script_byte_ascii : (b : ℕ) → IsTrue (is_script_byte b) → b < 128
script_byte_ascii b h = grind (arith, nat_tests)

-- bytes of names are ASCII
IsAscii-script_bytes : (xs : List ℕ) → IsTrue (list_all is_script_byte xs) → IsAscii xs
IsAscii-script_bytes [] h i = omega arith
IsAscii-script_bytes (x ∷ xs) h zero = script_byte_ascii x (and_parts (is_script_byte x) (list_all is_script_byte xs) h).0
IsAscii-script_bytes (x ∷ xs) h (suc i) = IsAscii-script_bytes xs (and_parts (is_script_byte x) (list_all is_script_byte xs) h).1 i

-- a name is ASCII
IsAscii-name : (xs : List ℕ) → IsTrue (is_name xs) → IsAscii xs
IsAscii-name [] h i = omega arith
IsAscii-name (x ∷ xs) h zero = letter_ascii x (and_parts (is_letter x) (list_all is_script_byte xs) h).0
IsAscii-name (x ∷ xs) h (suc i) = IsAscii-script_bytes xs (and_parts (is_letter x) (list_all is_script_byte xs) h).1 i

-- a name is UTF-8
pub IsUtf8-name : (xs : List ℕ) → IsTrue (is_name xs) → IsUtf8 xs
IsUtf8-name xs h = IsUtf8-from_ascii xs (IsAscii-name xs h)

-- an SQL name begins with a letter or _
sql_first_ascii : (b : ℕ) → IsTrue (is_letter b || b == 95) → b < 128
sql_first_ascii b h = grind (arith, nat_tests)

-- an SQL name is ASCII
IsAscii-sql_name : (xs : List ℕ) → IsTrue (is_sql_name xs) → IsAscii xs
IsAscii-sql_name [] h i = omega arith
IsAscii-sql_name (x ∷ xs) h zero = sql_first_ascii x (and_parts (is_letter x || x == 95) (list_all is_script_byte xs) h).0
IsAscii-sql_name (x ∷ xs) h (suc i) = IsAscii-script_bytes xs (and_parts (is_letter x || x == 95) (list_all is_script_byte xs) h).1 i

-- an SQL name is UTF-8
pub IsUtf8-sql_name : (xs : List ℕ) → IsTrue (is_sql_name xs) → IsUtf8 xs
IsUtf8-sql_name xs h = IsUtf8-from_ascii xs (IsAscii-sql_name xs h)

-- a prefix as long as the list is the list
take_length : (n : ℕ) (xs : List ℕ) → n ≡ length xs → take n xs ≡ xs
take_length zero [] e = refl
take_length zero (x ∷ xs) e = absurd (omega arith)
take_length (suc n) [] e = refl
take_length (suc n) (x ∷ xs) e = ap (λ r. x ∷ r) (take_length n xs (omega arith))

-- a text is a script name by the tests of its first byte and of those after it
pub is_name-parts : (xs : List ℕ) → 1 ≤ length xs → is_name xs ≡ (is_letter (get_or xs 0 0) && list_all is_script_byte (take (length xs - 1) (drop 1 xs)))
is_name-parts [] h = absurd (omega arith)
is_name-parts (x ∷ xs) h = let e : length (x ∷ xs) - 1 ≡ length xs = omega arith in ap (λ r. is_letter x && list_all is_script_byte r) (sym (take_length _ xs e))

-- a text is an SQL name by the tests of its first byte and of those after it
pub is_sql_name-parts : (xs : List ℕ) → 1 ≤ length xs → is_sql_name xs ≡ ((is_letter (get_or xs 0 0) || get_or xs 0 0 == 95) && list_all is_script_byte (take (length xs - 1) (drop 1 xs)))
is_sql_name-parts [] h = absurd (omega arith)
is_sql_name-parts (x ∷ xs) h = let e : length (x ∷ xs) - 1 ≡ length xs = omega arith in ap (λ r. (is_letter x || x == 95) && list_all is_script_byte r) (sym (take_length _ xs e))
