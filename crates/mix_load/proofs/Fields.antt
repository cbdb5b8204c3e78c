-- The fields of people need no quotes and are text.
use Rattle.std.proofs.Common.{◌≡◌, ◌<◌, ◌+◌, ◌*◌, ◌%◌, ◌^◌, ℕ, List, [], ◌∷◌, false, refl, arith}
use Rattle.std.specs.List.{list_any}
use Rattle.std.specs.Fmt.{decimal}
use Rattle.std.specs.Char.{digit_value}
use Rattle.std.specs.Str.{IsUtf8}
use Rattle.std.specs.Str.Parse.{AllDigits}
use Rattle.std.proofs.lemmas.Bool.{ne_eqb}
use Rattle.std.proofs.lemmas.Fmt.{IsAscii-decimal, decimal_is_IsNumeral}
use Rattle.std.proofs.lemmas.List.{append-nil}
use Rattle.std.proofs.lemmas.Str.{IsUtf8-append, IsUtf8-from_ascii}
use Rattle.std.proofs.lemmas.Str.Parse.{digit_from_value}
use Rattle.csv.specs.Records.{AllText}
use Rattle.csv.specs.Writing.{default_writer, fields_text, is_blank, needs_byte, row_text}
use Rattle.csv_wrap.specs.Csv.{IsRow}
use Rattle.mix_base.proofs.Utf8.{one_utf8}
use Rattle.mix_load.specs.People.{person, record_line}

-- no byte of a field calls for quotes
abbrev IsBare : List ℕ → Type 0
IsBare x = list_any (needs_byte default_writer) x ≡ false

-- a digit calls for no quotes
digit_bare : (d : ℕ) → digit_value d < 10 → needs_byte default_writer d ≡ false
digit_bare d h =
    let r = digit_from_value d h in
    let comma = ne_eqb d 44 (λ e. absurd (omega (arith, r, e))) in
    let quote = ne_eqb d 34 (λ e. absurd (omega (arith, r, e))) in
    let return = ne_eqb d 13 (λ e. absurd (omega (arith, r, e))) in
    let feed = ne_eqb d 10 (λ e. absurd (omega (arith, r, e))) in
    rw (comma, quote, return, feed) refl

-- digits call for no quotes
digits_bare : (ds : List ℕ) → AllDigits 10 ds → IsBare ds
digits_bare [] h = refl
digits_bare (d ∷ ds) h = rw (digit_bare d h.0) (digits_bare ds h.1)

-- a number calls for no quotes
number_bare : (n : ℕ) → n < 2 ^ 64 → IsBare (decimal n)
number_bare n h = digits_bare (decimal n) (decimal_is_IsNumeral n h).0.1

-- the decimal digits of a number are UTF-8
number_utf8 : (n : ℕ) → n < 2 ^ 64 → IsUtf8 (decimal n)
number_utf8 n h = IsUtf8-from_ascii (decimal n) (IsAscii-decimal n h)

-- a record of three fields that need no quotes is its line
row_is_line : (x y z : List ℕ) → IsBare x → IsBare y → IsBare z → row_text default_writer (x ∷ y ∷ z ∷ []) ≡ record_line (x ∷ y ∷ z ∷ [])
unfolding fields_text is_blank
row_is_line x y z hx hy hz = rw (hx, hy, hz, append-nil z) refl

-- a zip has at most 64 bits
zip_fits : (i : ℕ) → 10000 + (i * 37) % 100 < 2 ^ 64
zip_fits i = omega arith

-- the record of a person is its line
pub person_is_line : (i : ℕ) → i < 2 ^ 32 → row_text default_writer (person i) ≡ record_line (person i)
person_is_line i h =
    row_is_line (decimal i) (110 ∷ decimal i) (decimal (10000 + (i * 37) % 100))
    (number_bare i (omega (arith, h))) (number_bare i (omega (arith, h))) (number_bare (10000 + (i * 37) % 100) (zip_fits i))

-- the record of a person is a row
pub person_is_row : (i : ℕ) → i < 2 ^ 32 → IsRow 3 (person i)
unfolding AllText
person_is_row i h =
    let number = number_utf8 i (omega (arith, h)) in
    let name = IsUtf8-append (110 ∷ []) (decimal i) (one_utf8 110 (omega arith)) number in
    (refl, (number, (name, (number_utf8 (10000 + (i * 37) % 100) (zip_fits i), tt))))
