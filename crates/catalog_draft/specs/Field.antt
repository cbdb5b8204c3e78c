-- What a header has at a place.
use Rattle.std.specs.Prelude.{◌≡◌, ℕ, List, ◌∷◌, Some, None}
use Rattle.std.specs.Str.{IsUtf8}
use Rattle.csv.specs.Records.{field_at}
use Rattle.csv_wrap.specs.Csv.{file_records}
use Rattle.catalog_draft.specs.declared.field.HeaderField.{HeaderField}
use Rattle.catalog_draft.specs.declared.field.HeaderField.TheVariants.{Missing, NotUtf8, Named}

-- fields have nothing at a place, bytes that are not UTF-8, or a name
abbrev pub IsFieldAt : List (List ℕ) → ℕ → HeaderField → Type 0
IsFieldAt fields at Missing = field_at fields at ≡ None
IsFieldAt fields at NotUtf8 = (field : List ℕ) × (field_at fields at ≡ Some field) × ¬ IsUtf8 field
IsFieldAt fields at (Named name) = field_at fields at ≡ Some name

-- the header of a CSV file with records has nothing at a place, bytes that are not UTF-8, or a name
abbrev pub IsHeaderField : List ℕ → ℕ → HeaderField → Type 0
IsHeaderField bytes at field = (header : List (List ℕ)) (rows : List (List (List ℕ))) → file_records bytes ≡ header ∷ rows → IsFieldAt header at field
