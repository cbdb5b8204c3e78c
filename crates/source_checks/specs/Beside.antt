-- What is said beside the line with which a source's file is refused.
use Rattle.std.specs.Prelude.{◌≡◌, ℕ, List, []}
use Rattle.catalog_draft.specs.Field.{IsHeaderField}
use Rattle.catalog_draft.specs.declared.field.HeaderField.{HeaderField}
use Rattle.csv_wrap.specs.declared.fault.CsvFault.{CsvFault}
use Rattle.csv_wrap.specs.declared.fault.CsvFault.TheVariants.{HeaderDiffers, Length, NoHeader, NotUtf8, OutOfMemory}
use Rattle.mix_io.specs.Views.{FilesView}
use Rattle.mix_place.specs.Causes.{IsRead}
use Rattle.mix_place.specs.declared.refusal.FileFault.{FileFault}
use Rattle.mix_place.specs.declared.refusal.FileFault.TheVariants.{Unread, TooLong, Document, Csv, Json, Catalog, Script, View, Plan}
use Rattle.source_checks.specs.Words.{names_line}

-- beside the refusal of a CSV file with given columns stands nothing, but of a header that differs the name that it has there and that of the catalog
abbrev pub IsBesideCsv : FilesView → List ℕ → List (List ℕ) → CsvFault → List ℕ → Type 0
IsBesideCsv files path columns NoHeader words = words ≡ []
IsBesideCsv files path columns (HeaderDiffers at) words =
    (text : List ℕ) × IsRead files path text × (field : HeaderField) × IsHeaderField text at field × (words ≡ names_line field columns at)
IsBesideCsv files path columns (Length row found wanted) words = words ≡ []
IsBesideCsv files path columns (NotUtf8 row) words = words ≡ []
IsBesideCsv files path columns OutOfMemory words = words ≡ []

-- beside the refusal of a source's file stands nothing, but of a CSV header that differs both names
abbrev pub IsBeside : FilesView → List ℕ → List (List ℕ) → FileFault → List ℕ → Type 0
IsBeside files path columns Unread words = words ≡ []
IsBeside files path columns TooLong words = words ≡ []
IsBeside files path columns (Document e) words = words ≡ []
IsBeside files path columns (Csv e) words = IsBesideCsv files path columns e words
IsBeside files path columns (Json e) words = words ≡ []
IsBeside files path columns (Catalog e) words = words ≡ []
IsBeside files path columns (Script e) words = words ≡ []
IsBeside files path columns (View e) words = words ≡ []
IsBeside files path columns (Plan e) words = words ≡ []
