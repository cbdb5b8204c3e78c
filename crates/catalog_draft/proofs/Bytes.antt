-- The bytes of what stands in a line: none is LF, names have no blanks, and what is made of UTF-8 is UTF-8.
use Rattle.std.proofs.Common.{◌≡◌, ◌<◌, ◌==◌, ◌||◌, ℕ, zero, suc, Bool, true, false, cond, nat_lt, List, [], ◌∷◌, ◌++◌, length, map, refl, sym, subst, append_assoc, arith}
use Rattle.std.proofs.lemmas.Bool.Decides.{nat_tests}
use Rattle.std.proofs.lemmas.Str.{IsUtf8-append, IsUtf8-from_ascii}
use Rattle.std.specs.Str.{IsAscii, IsUtf8}
use Rattle.std.specs.List.{list_all, flat_map}
use Rattle.mix_base.proofs.Choices.{and_parts, and_both, number_is}
use Rattle.mix_base.proofs.Utf8.{utf8_split, one_utf8, utf8_push}
use Rattle.mix_tree.specs.Names.{IsName, is_name_byte}
use Rattle.mix_tree.specs.Spelling.{escaped, is_bare, is_bare_label, quoted, spelling}
use Rattle.mix_words.specs.Words.{is_letter, is_script_byte, is_sql_name}
use Rattle.mix_catalog.proofs.NameText.{IsUtf8-source_name, name_passes}
use Rattle.catalog_draft.specs.Names.{file_name, fit, or_source, source_name, stem}
use Rattle.catalog_draft.proofs.LineTexts.{NoBlank, NoLf, both_no_lf, implied, inside_by, no_lf_by}

-- whether a byte is ASCII
abbrev pub is_low : ℕ → Bool
is_low b = nat_lt b 128

-- bytes that are tested to be ASCII are
low_bytes : (x : List ℕ) → list_all is_low x ≡ true → IsAscii x
low_bytes [] h i = omega arith
low_bytes (b ∷ x) h zero = let low : is_low b ≡ true = (and_parts (is_low b) (list_all is_low x) h).0 in grind (arith, nat_tests)
low_bytes (b ∷ x) h (suc i) = low_bytes x (and_parts (is_low b) (list_all is_low x) h).1 i

-- a text of ASCII is UTF-8
pub ascii_utf8 : (x : List ℕ) → list_all is_low x ≡ true → IsUtf8 x
ascii_utf8 x h = IsUtf8-from_ascii x (low_bytes x h)

-- no escape of a byte has LF
escaped_no_lf : (b : ℕ) → NoLf (escaped b)
escaped_no_lf b = by_cases (b == 34) (b == 92) (b == 10) (b == 9) refl
  where
    by_cases : (c d e f : Bool) → (b == 10) ≡ e → NoLf (cond c (92 ∷ 34 ∷ []) (cond d (92 ∷ 92 ∷ []) (cond e (92 ∷ 110 ∷ []) (cond f (92 ∷ 116 ∷ []) (b ∷ [])))))
    by_cases true d e f h = refl
    by_cases false true e f h = refl
    by_cases false false true f h = refl
    by_cases false false false true h = refl
    by_cases false false false false h = rw h refl

-- a text with its escapes has no LF
escapes_no_lf : (x : List ℕ) → NoLf (flat_map escaped x)
escapes_no_lf [] = refl
escapes_no_lf (b ∷ x) = both_no_lf (escaped b) (flat_map escaped x) (escaped_no_lf b) (escapes_no_lf x)

-- bytes of a bare label are bare
bare_bytes : (x : List ℕ) → is_bare_label x ≡ true → list_all is_bare x ≡ true
bare_bytes [] h = refl
bare_bytes (b ∷ x) h = h

-- a label's spelling has no LF
pub spelling_no_lf : (x : List ℕ) → NoLf (spelling x)
spelling_no_lf x = by_case (is_bare_label x) refl
  where
    by_case : (c : Bool) → is_bare_label x ≡ c → NoLf (cond c x (quoted x))
    by_case true e = no_lf_by is_bare refl x (bare_bytes x e)
    by_case false e = both_no_lf (flat_map escaped x) (34 ∷ []) (escapes_no_lf x) refl

-- a UTF-8 text stays UTF-8 where a byte of it, and all bytes after that, are written with their escapes
escaped_one : (u : List ℕ) (b : ℕ) (l : List ℕ) → IsUtf8 (u ++ b ∷ l) → IsUtf8 ((u ++ b ∷ []) ++ flat_map escaped l) → (IsUtf8 l → IsUtf8 (flat_map escaped l)) → IsUtf8 (u ++ (escaped b ++ flat_map escaped l))
escaped_one u b l h next rest = by_cases (b == 34) (b == 92) (b == 10) (b == 9) refl refl refl refl
  where
    two : (c : ℕ) → c < 128 → b < 128 → IsUtf8 (u ++ 92 ∷ c ∷ flat_map escaped l)
    two c low k =
        let parts = utf8_split u l b k h in
        IsUtf8-append u (92 ∷ c ∷ flat_map escaped l) parts.0
        (IsUtf8-append (92 ∷ []) (c ∷ flat_map escaped l) (one_utf8 92 (omega arith)) (IsUtf8-append (c ∷ []) (flat_map escaped l) (one_utf8 c low) (rest parts.1)))

    by_cases : (c d e f : Bool) → (b == 34) ≡ c → (b == 92) ≡ d → (b == 10) ≡ e → (b == 9) ≡ f
        → IsUtf8 (u ++ (cond c (92 ∷ 34 ∷ []) (cond d (92 ∷ 92 ∷ []) (cond e (92 ∷ 110 ∷ []) (cond f (92 ∷ 116 ∷ []) (b ∷ [])))) ++ flat_map escaped l))
    by_cases true d e f p q r s = two 34 (omega arith) (let k = number_is b 34 p in omega (arith, k))
    by_cases false true e f p q r s = two 92 (omega arith) (let k = number_is b 92 q in omega (arith, k))
    by_cases false false true f p q r s = two 110 (omega arith) (let k = number_is b 10 r in omega (arith, k))
    by_cases false false false true p q r s = two 116 (omega arith) (let k = number_is b 9 s in omega (arith, k))
    by_cases false false false false p q r s = subst IsUtf8 (append_assoc u (b ∷ []) (flat_map escaped l)) next

-- a UTF-8 text stays UTF-8 with the escapes of its last part
escaped_all : (u l : List ℕ) → IsUtf8 (u ++ l) → IsUtf8 (u ++ flat_map escaped l)
escaped_all u [] h = h
escaped_all u (b ∷ l) h = escaped_one u b l h (escaped_all (u ++ b ∷ []) l (subst IsUtf8 (sym (append_assoc u (b ∷ []) l)) h)) (escaped_all [] l)

-- the spelling of a UTF-8 label is UTF-8
pub spelling_utf8 : (l : List ℕ) → IsUtf8 l → IsUtf8 (spelling l)
spelling_utf8 l u = by_case (is_bare_label l)
  where
    by_case : (c : Bool) → IsUtf8 (cond c l (quoted l))
    by_case true = u
    by_case false = IsUtf8-append (34 ∷ []) (flat_map escaped l ++ 34 ∷ []) (one_utf8 34 (omega arith)) (utf8_push (flat_map escaped l) 34 (omega arith) (escaped_all [] l u))

-- a byte of a source's name stands for each byte
fit_named : (b : ℕ) → is_name_byte (fit b) ≡ true
fit_named b = by_case (is_name_byte b) refl
  where
    by_case : (c : Bool) → is_name_byte b ≡ c → is_name_byte (cond c b 95) ≡ true
    by_case true e = e
    by_case false e = refl

-- bytes of a source's name stand for all bytes
fits_named : (x : List ℕ) → list_all is_name_byte (map fit x) ≡ true
fits_named [] = refl
fits_named (b ∷ x) = and_both (is_name_byte (fit b)) (list_all is_name_byte (map fit x)) (fit_named b) (fits_named x)

-- a byte of a source's name is ASCII
named_low : (b : ℕ) → is_name_byte b ≡ true → is_low b ≡ true
named_low b h = grind (arith, nat_tests)

-- bytes that stand for others in a source's name are UTF-8
pub fitted_utf8 : (x : List ℕ) → IsUtf8 (map fit x)
fitted_utf8 x = ascii_utf8 (map fit x) (implied is_name_byte is_low named_low (map fit x) (fits_named x))

-- bytes of a name, or `source`, are a name
named_by : (x : List ℕ) → list_all is_name_byte x ≡ true → IsName (or_source x)
named_by [] h = (refl, omega arith)
named_by (b ∷ x) h = (h, omega arith)

-- the source of a file has a name
pub source_named : (path : List ℕ) → IsName (source_name path)
source_named path = named_by (map fit (stem (file_name path))) (fits_named (stem (file_name path)))

-- a name has no LF
pub name_no_lf : (x : List ℕ) → IsName x → NoLf x
name_no_lf x h = no_lf_by is_name_byte refl x h.0

-- a name has no blank
pub name_no_blank : (x : List ℕ) → IsName x → NoBlank x
name_no_blank x h = implied is_name_byte _ (inside_by is_name_byte refl refl) x h.0

-- a name is UTF-8
pub name_utf8 : (x : List ℕ) → IsName x → IsUtf8 x
name_utf8 x h = IsUtf8-source_name x (name_passes x h)

-- a letter or _ may stand in an SQL name
first_script : (b : ℕ) → (is_letter b || b == 95) ≡ true → is_script_byte b ≡ true
first_script b h = grind (arith, nat_tests)

-- the bytes of an SQL name
pub sql_bytes : (x : List ℕ) → is_sql_name x ≡ true → list_all is_script_byte x ≡ true
sql_bytes [] h = refl
sql_bytes (b ∷ x) h =
    let parts = and_parts (is_letter b || b == 95) (list_all is_script_byte x) h in
    and_both (is_script_byte b) (list_all is_script_byte x) (first_script b parts.0) parts.1

-- a byte of an SQL name may stand in the name of a source
script_named : (b : ℕ) → is_script_byte b ≡ true → is_name_byte b ≡ true
script_named b h = grind (arith, nat_tests)

-- an SQL name has a byte
sql_some : (x : List ℕ) → is_sql_name x ≡ true → 0 < length x
sql_some [] h = cc
sql_some (b ∷ x) h = omega arith

-- an SQL name may name a source
pub sql_named : (x : List ℕ) → is_sql_name x ≡ true → IsName x
sql_named x h = (implied is_script_byte is_name_byte script_named x (sql_bytes x h), sql_some x h)
