-- What is written of a CSV file: by the first of its records.
use Rattle.std.specs.Prelude.{◌≡◌, ◌⊎◌, ℕ, Bool, true, false, List, [], ◌∷◌, Option, Some, None, Vec}
use Rattle.std.specs.declared.alloc.Global.{Global}
use Rattle.csv.specs.Records.{AllText}
use Rattle.csv_wrap.specs.Csv.{file_records}
use Rattle.csv_wrap.specs.declared.fault.CsvFault.{CsvFault}
use Rattle.csv_wrap.specs.declared.fault.CsvFault.TheVariants.{HeaderDiffers, Length, NoHeader, OutOfMemory, NotUtf8 as RowNotUtf8}
use Rattle.mix_catalog.specs.declared.source.SourceSpec.{SourceSpec}
use Rattle.mix_catalog.specs.Seen.{csv}
use Rattle.catalog_draft.specs.declared.reasons.Unsaid.{Unsaid}
use Rattle.catalog_draft.specs.declared.reasons.Unsaid.TheVariants.{NotUtf8}
use Rattle.catalog_draft.specs.Lines.{csv_line, file_note, text_of}
use Rattle.catalog_draft.specs.Names.{source_name}
use Rattle.catalog_draft.specs.Reasons.{unsaid_of}

-- the source that a CSV file with columns is to be
abbrev pub csv_source : List ℕ → List (List ℕ) → SourceSpec
csv_source path columns = csv (source_name path) path columns 100

-- the line of a CSV file with columns, or the line that says why there is none
abbrev pub line_or_note : List ℕ → List (List ℕ) → Option Unsaid → List ℕ
line_or_note path columns None = csv_line path columns
line_or_note path columns (Some why) = file_note path why

-- the line for a CSV file of a header whose fields are text
abbrev pub header_line : List ℕ → List (List ℕ) → List ℕ
header_line path header = line_or_note path header (unsaid_of [] (csv_source path header))

-- whether a file has a record, the first of which has given fields
abbrev pub IsFirst : List ℕ → List (List ℕ) → Bool → Type 0
IsFirst bytes fields true = (rows : List (List (List ℕ))) × (file_records bytes ≡ fields ∷ rows)
IsFirst bytes fields false = file_records bytes ≡ []

-- labels are given fields, or there are none where some field is no text
abbrev pub AreFields : List (List ℕ) → Option (Vec (List ℕ) Global) → Type 0
AreFields fields None = ¬ AllText fields
AreFields fields (Some labels) = AllText fields × (labels.items ≡ fields)

-- the line for a CSV file of a header; it says so where a field is no text
abbrev pub SaysHeader : List ℕ → List (List ℕ) → List ℕ → Type 0
SaysHeader path header line = (AllText header × (line ≡ header_line path header)) ⊎ (¬ AllText header × (line ≡ file_note path NotUtf8))

-- a text is the line for a header
abbrev pub SaysLine : List ℕ → List (List ℕ) → List ℕ → Type 0
SaysLine path header text = (line : List ℕ) × SaysHeader path header line × (text ≡ text_of (line ∷ []))

-- a text is the line for the header of a CSV file
abbrev pub SaysCsv : List ℕ → List ℕ → List ℕ → Type 0
SaysCsv path bytes text =
    (header : List (List ℕ)) × (rows : List (List (List ℕ))) × (file_records bytes ≡ header ∷ rows) × SaysLine path header text

-- a fault says why nothing is written of a CSV file: it has no record; want of memory says nothing of it
abbrev pub LacksHeader : List ℕ → CsvFault → Type 0
LacksHeader bytes NoHeader = file_records bytes ≡ []
LacksHeader bytes (HeaderDiffers column) = ⊥
LacksHeader bytes (Length row found wanted) = ⊥
LacksHeader bytes (RowNotUtf8 row) = ⊥
LacksHeader bytes OutOfMemory = Unit {0}
