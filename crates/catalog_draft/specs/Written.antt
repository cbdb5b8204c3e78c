-- What a table adds to what is written.
use Rattle.std.specs.Prelude.{◌≡◌, ◌++◌, ℕ, List, Result}
use Rattle.schema_keep.specs.declared.shape.TableShape.{TableShape}
use Rattle.catalog_draft.specs.declared.reasons.Unsaid.{Unsaid}
use Rattle.catalog_draft.specs.declared.tables.Written.{Written}
use Rattle.catalog_draft.specs.Lines.{text_of}
use Rattle.catalog_draft.specs.Tables.{lines_for, sources_after}

-- the lines of a table of a draft were written after others, and its source stands after the others, where it has one
abbrev pub IsWritten : List ℕ → TableShape → Result (List ℕ) Unsaid → Written → Written → Type 0
IsWritten path t d old new = (new.text.items ≡ old.text.items ++ text_of (lines_for path t d)) × (new.sources.items ≡ sources_after path old.sources.items t d)
