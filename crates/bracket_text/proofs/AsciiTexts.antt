-- Texts of ASCII are UTF-8.
use Rattle.std.proofs.Common.{◌≡◌, ◌<◌, ℕ, zero, suc, true, List, [], ◌∷◌, arith}
use Rattle.std.proofs.lemmas.Bool.Decides.{nat_tests}
use Rattle.std.proofs.lemmas.Str.{IsUtf8-from_ascii}
use Rattle.std.specs.Char.{is_ascii}
use Rattle.std.specs.List.{list_all}
use Rattle.std.specs.Str.{IsAscii, IsUtf8}
use Rattle.mix_base.proofs.Choices.{and_parts}

-- a text whose bytes are all tested is ASCII
all_ascii : (text : List ℕ) → list_all is_ascii text ≡ true → IsAscii text
all_ascii [] h i = omega arith
all_ascii (b ∷ bs) h zero = ascii_below b (and_parts (is_ascii b) (list_all is_ascii bs) h).0
  where
    ascii_below : (b : ℕ) → is_ascii b ≡ true → b < 128
    ascii_below b h = grind (arith, nat_tests)
all_ascii (b ∷ bs) h (suc i) = all_ascii bs (and_parts (is_ascii b) (list_all is_ascii bs) h).1 i

-- a text whose bytes are all tested as ASCII is UTF-8
pub ascii_utf8 : (text : List ℕ) → list_all is_ascii text ≡ true → IsUtf8 text
ascii_utf8 text h = IsUtf8-from_ascii text (all_ascii text h)
