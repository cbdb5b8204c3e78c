-- What holds of the texts that are written: they are catalogs of the sources that they are for.
use Rattle.std.specs.Prelude.{◌≡◌, ℕ, List, [], ◌∷◌, None, IsUtf8}
use Rattle.csv.specs.Records.{AllText}
use Rattle.mix_catalog.specs.Sources.{IsCatalog}
use Rattle.schema_keep.specs.declared.shape.TableShape.{TableShape}
use Rattle.catalog_draft.specs.Header.{csv_source, header_line}
use Rattle.catalog_draft.specs.Lines.{text_of}
use Rattle.catalog_draft.specs.Reasons.{unsaid_of}
use Rattle.catalog_draft.specs.Tables.{tables_sources, tables_text}

-- the line for a header is a catalog of the source that has its columns, unless it says why there is none
abbrev pub HeadersAreRead : Type 0
HeadersAreRead =
    (path : List ℕ) (header : List (List ℕ)) → IsUtf8 path → AllText header → unsaid_of [] (csv_source path header) ≡ None
    → IsCatalog (text_of (header_line path header ∷ [])) (csv_source path header ∷ [])

-- the text for the tables of a file is a catalog of the sources that these are to be
abbrev pub TablesAreRead : Type 0
TablesAreRead = (path : List ℕ) (tables : List TableShape) → IsUtf8 path → IsCatalog (tables_text path tables) (tables_sources path [] tables)
