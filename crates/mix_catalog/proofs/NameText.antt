-- Names of sources are ASCII.
use Rattle.std.proofs.Common.{◌≡◌, ◌<◌, ℕ, zero, suc, true, IsTrue, List, [], ◌∷◌, arith, length, nat_le}
use Rattle.std.proofs.lemmas.Bool.Decides.{nat_tests}
use Rattle.std.proofs.lemmas.Str.{IsUtf8-from_ascii}
use Rattle.std.specs.Str.{IsAscii, IsUtf8}
use Rattle.std.specs.List.{list_all}
use Rattle.mix_base.proofs.Choices.{and_parts, and_both}
use Rattle.mix_tree.specs.Names.{is_name_byte, IsName}
use Rattle.mix_catalog.specs.Forms.{is_source_name}

-- a byte of a name is ASCII
byte_ascii : (b : ℕ) → IsTrue (is_name_byte b) → b < 128
byte_ascii b h = grind (arith, nat_tests)

-- bytes of a name are all ASCII
bytes_ascii : (xs : List ℕ) → IsTrue (list_all is_name_byte xs) → IsAscii xs
bytes_ascii [] h i = omega arith
bytes_ascii (x ∷ xs) h zero = byte_ascii x (and_parts (is_name_byte x) (list_all is_name_byte xs) h).0
bytes_ascii (x ∷ xs) h (suc i) = bytes_ascii xs (and_parts (is_name_byte x) (list_all is_name_byte xs) h).1 i

-- a name is UTF-8
pub IsUtf8-source_name : (xs : List ℕ) → IsTrue (is_source_name xs) → IsUtf8 xs
IsUtf8-source_name xs h = IsUtf8-from_ascii xs (bytes_ascii xs (and_parts (nat_le 1 (length xs)) (list_all is_name_byte xs) h).1)

-- bytes that are tested to be a source's name are one
pub name_tested : (xs : List ℕ) → IsTrue (is_source_name xs) → IsName xs
name_tested xs h =
    let parts = and_parts (nat_le 1 (length xs)) (list_all is_name_byte xs) h in
    let first : nat_le 1 (length xs) ≡ true = parts.0 in
    (parts.1, grind (arith, nat_tests))

-- a source's name is tested to be one
pub name_passes : (xs : List ℕ) → IsName xs → IsTrue (is_source_name xs)
name_passes xs (bytes, some) = let first : nat_le 1 (length xs) ≡ true = grind (arith, nat_tests) in and_both _ _ first bytes
