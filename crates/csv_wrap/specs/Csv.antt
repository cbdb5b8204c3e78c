-- The rows of a CSV file under declared columns, by the records that `csv` reads.
use Rattle.std.specs.Prelude.{◌≡◌, ◌≢◌, ◌+◌, ℕ, Bool, get_or, List, [], ◌∷◌, ◌++◌, length, take, slice_get, if◌then◌else◌, Some}
use Rattle.std.specs.List.{All}
use Rattle.csv_wrap.specs.declared.fault.CsvFault.{CsvFault}
use Rattle.csv_wrap.specs.declared.fault.CsvFault.TheVariants.{HeaderDiffers, Length, NoHeader, NotUtf8, OutOfMemory}
use Rattle.std.specs.Borrow.{Bor}
use Rattle.csv.specs.Reading.{Reached, Ready, default_config, is_bom, reader_config, reader_state, reader_trim, records, source_of}
use Rattle.csv.specs.declared.parser.State.TheVariants as st
use Rattle.csv.specs.declared.reader.Reader.{Reader}
use Rattle.csv.specs.declared.reader.Trim.TheVariants as trim
use Rattle.csv.specs.Records.{AllText}

-- whether a text begins with a byte order mark
abbrev pub begins_with_mark : List ℕ → Bool
begins_with_mark xs = is_bom (get_or xs 0 0) (get_or xs 1 0) (get_or xs 2 0)

-- a text without the byte order marks at its beginning, however many these are
unfoldable pub without_marks : List ℕ → List ℕ
without_marks [] = []
without_marks (a ∷ []) = a ∷ []
without_marks (a ∷ b ∷ []) = a ∷ b ∷ []
without_marks (a ∷ b ∷ c ∷ rest) = if is_bom a b c then without_marks rest else a ∷ b ∷ c ∷ rest

-- the records of a file: fields between commas, in double quotes where they need them, with no trimming, of any lengths
unfoldable pub file_records : List ℕ → List (List (List ℕ))
file_records bytes = records default_config (without_marks bytes)

-- two lists agree below k, and not at k, where one of them may have ended
abbrev pub DiffersFirstAt : List (List ℕ) → List (List ℕ) → ℕ → Type 0
DiffersFirstAt xs ys k = (take k xs ≡ take k ys) × (slice_get xs k ≢ slice_get ys k)

-- the fields of a row are as many as wanted, and each of them is text
abbrev pub IsRow : ℕ → List (List ℕ) → Type 0
IsRow wanted fields = (length fields ≡ wanted) × AllText fields

-- a reader of a given text has read given records, and stands before the next one
abbrev pub IsAt : List ℕ → List (List (List ℕ)) → Reader (Bor (List ℕ)) → Type 0
IsAt text rows r = (reader_trim r ≡ trim.None) × Ready r × (reader_config r ≡ default_config)
    × (rest : List ℕ) × (source_of (λ s. Some s.now) r ≡ Some rest) × Reached default_config st.StartRecord text rows (reader_state r) rest

-- the row of a number, counted from 1 after the header, has given fields, and all rows before it are good
abbrev pub IsFirstFaulty : List ℕ → List (List ℕ) → ℕ → List (List ℕ) → Type 0
IsFirstFaulty bytes columns row fields = (before : List (List (List ℕ))) × (after : List (List (List ℕ)))
    × (file_records bytes ≡ columns ∷ (before ++ (fields ∷ after))) × All (IsRow (length columns)) before × (row ≡ length before + 1)

-- a file's records are its columns as a header and given rows, all of them good
abbrev pub IsFile : List ℕ → List (List ℕ) → List (List (List ℕ)) → Type 0
IsFile bytes columns rows = (file_records bytes ≡ columns ∷ rows) × All (IsRow (length columns)) rows

-- a fault explains why the text of a CSV file with given columns is refused
abbrev pub Explains : List ℕ → List (List ℕ) → CsvFault → Type 0
Explains bytes columns NoHeader = file_records bytes ≡ []
Explains bytes columns (HeaderDiffers column) = (header : List (List ℕ)) × (rows : List (List (List ℕ))) × (file_records bytes ≡ header ∷ rows) × DiffersFirstAt header columns column
Explains bytes columns (Length row found wanted) = (wanted ≡ length columns) × (found ≢ wanted) × (fields : List (List ℕ)) × (length fields ≡ found) × IsFirstFaulty bytes columns row fields
Explains bytes columns (NotUtf8 row) = (fields : List (List ℕ)) × (length fields ≡ length columns) × ¬ (AllText fields) × IsFirstFaulty bytes columns row fields
Explains bytes columns OutOfMemory = Unit {0}
