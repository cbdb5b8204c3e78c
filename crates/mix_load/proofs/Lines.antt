-- The text of people is a CSV file of their records.
use Rattle.std.proofs.Common.{◌≡◌, ◌<◌, ◌≤◌, ◌+◌, ◌-◌, ◌^◌, ◌∙◌, ◌++◌, ℕ, zero, suc, List, [], ◌∷◌, Some, map, refl, sym, ap, append_assoc, arith, length, length-append}
use Rattle.std.specs.List.{All, concat, join_with_byte}
use Rattle.std.proofs.lemmas.List.{append-nil, map-append}
use Rattle.std.proofs.lemmas.List.Elements.{All-append}
use Rattle.std.proofs.lemmas.List.Folds.{concat-append}
use Rattle.csv.proofs.RoundTrip.{read-write}
use Rattle.csv.specs.Machine.{next_record}
use Rattle.csv.specs.Reading.{default_config, records_from}
use Rattle.csv.specs.declared.parser.State.TheVariants as st
use Rattle.csv_wrap.specs.Csv.{IsFile, IsRow, file_records, without_marks}
use Rattle.mix_load.specs.People.{people, people_columns, people_text, person, record_line}
use Rattle.mix_load.proofs.Fields.{person_is_line, person_is_row}

-- the lines of the records of some number of people
abbrev lines : ℕ → List ℕ
lines n = concat (map record_line (people n))

-- the lines of one person more are those before and that person's
lines_more : (n : ℕ) → lines (suc n) ≡ lines n ++ record_line (person n)
lines_more n =
    ap concat (map-append record_line (people n) (person n ∷ [])) ∙ concat-append (map record_line (people n)) (record_line (person n) ∷ [])
    ∙ ap (λ x. lines n ++ x) (append-nil (record_line (person n)))

-- the text of one person more is the text before and that person's line
pub text_more : (n : ℕ) → people_text (n + 1) ≡ people_text n ++ record_line (person n)
text_more n =
    let e : n + 1 ≡ suc n = omega arith in
    ap people_text e ∙ ap (λ x. record_line people_columns ++ x) (lines_more n) ∙ sym (append_assoc (record_line people_columns) (lines n) (record_line (person n)))

-- a line of a person reads as the record
line_reads : (i : ℕ) (tail : List ℕ) → i < 2 ^ 32
    → next_record default_config st.StartRecord [] [] (record_line (person i) ++ tail) ≡ Some (person i, st.StartRecord, tail)
line_reads i tail h = ap (λ x. next_record default_config st.StartRecord [] [] (x ++ tail)) (sym (person_is_line i h)) ∙ read-write (person i) tail

-- the lines of people read as their records, and then what stands after them
lines_read : (n k : ℕ) (tail : List ℕ) → n ≤ 2 ^ 32
    → records_from default_config (n + k) st.StartRecord (lines n ++ tail) ≡ people n ++ records_from default_config k st.StartRecord tail
unfolding records_from
lines_read zero k tail h = let e : 0 + k ≡ k = omega arith in ap (λ j. records_from default_config j st.StartRecord tail) e
lines_read (suc n) k tail h =
    let line = record_line (person n) in
    let e : suc n + k ≡ n + suc k = omega arith in
    ap (λ j. records_from default_config j st.StartRecord (lines (suc n) ++ tail)) e
    ∙ ap (λ x. records_from default_config (n + suc k) st.StartRecord (x ++ tail)) (lines_more n)
    ∙ ap (records_from default_config (n + suc k) st.StartRecord) (append_assoc (lines n) line tail)
    ∙ lines_read n (suc k) (line ++ tail) (omega (arith, h))
    ∙ rw (line_reads n tail (omega (arith, h))) (sym (append_assoc (people n) (person n ∷ []) (records_from default_config k st.StartRecord tail)))

-- the lines of people have as many bytes as there are people, at least
lines_long : (n : ℕ) → n ≤ length (lines n)
lines_long zero = omega arith
lines_long (suc n) =
    omega (arith, lines_long n, ap length (lines_more n), length-append (lines n) (record_line (person n)), ends (person n))
  where
    ends : (fields : List (List ℕ)) → 1 ≤ length (record_line fields)
    ends fields = omega (arith, length-append (join_with_byte 44 fields) (10 ∷ []))

-- nothing reads as no record
none_read : (k : ℕ) → records_from default_config k st.StartRecord [] ≡ []
unfolding records_from next_record
none_read zero = refl
none_read (suc k) = refl

-- the lines of people with nothing after them read as their records
all_read : (n k : ℕ) → n ≤ 2 ^ 32 → records_from default_config (n + k) st.StartRecord (lines n) ≡ people n
all_read n k h =
    ap (records_from default_config (n + k) st.StartRecord) (sym (append-nil (lines n))) ∙ lines_read n k [] h
    ∙ ap (λ r. people n ++ r) (none_read k) ∙ append-nil (people n)

-- the records of people are rows
rows : (n : ℕ) → n ≤ 2 ^ 32 → All (IsRow 3) (people n)
rows zero h = λ k d less. absurd (omega (arith, less))
rows (suc n) h = All-append (IsRow 3) (people n) (person n ∷ []) (rows n (omega (arith, h))) (one (person_is_row n (omega (arith, h))))
  where
    one : IsRow 3 (person n) → All (IsRow 3) (person n ∷ [])
    one r zero d less = r
    one r (suc k) d less = absurd (omega (arith, less))

-- the text of people is a file of them
pub text_is_file : (n : ℕ) → n ≤ 2 ^ 32 → IsFile (people_text n) people_columns (people n)
unfolding file_records without_marks records_from next_record
text_is_file n h =
    let k = length (people_text n) - n in
    let long : length (people_text n) + 1 ≡ suc (n + k) = omega (arith, lines_long n, length-append (record_line people_columns) (lines n)) in
    let read : file_records (people_text n) ≡ people_columns ∷ people n =
    ap (λ j. records_from default_config j st.StartRecord (people_text n)) long ∙ ap (λ r. people_columns ∷ r) (all_read n k h) in
    (read, rows n h)
