-- Why no line of a catalog says a source.
use Rattle.std.specs.Prelude.{ℕ, cond, ◌==◌, nat_lt, nat_le, List, length, Option, Some, None, is_some, codes}
use Rattle.mix_catalog.specs.declared.source.SourceSpec.{SourceSpec}
use Rattle.mix_catalog.specs.Columns.{are_apart}
use Rattle.mix_catalog.specs.Grammar.{columns_of}
use Rattle.mix_catalog.specs.Sources.{source_named}
use Rattle.catalog_draft.specs.declared.reasons.Unsaid.{Unsaid}
use Rattle.catalog_draft.specs.declared.reasons.Unsaid.TheVariants.{NotUtf8, NotRead, Name, Key, NoColumns, ManyColumns, ColumnTwice, NameTwice, TooMany}

-- the words for why no line says a source
abbrev pub reason_text : Unsaid → List ℕ
reason_text NotUtf8 = codes "a column's name is not UTF-8"
reason_text NotRead = codes "it is of a kind that is not read"
reason_text Name = codes "a catalog names a table by letters, digits and _"
reason_text Key = codes "it has no key that a catalog can name"
reason_text NoColumns = codes "it has no column that a catalog can name"
reason_text ManyColumns = codes "a catalog names at most 200 columns"
reason_text ColumnTwice = codes "two columns have the same name"
reason_text NameTwice = codes "a line above has its name"
reason_text TooMany = codes "a catalog has at most 32 sources"

-- why a source can't stand after others of a catalog, if so: its columns are none, too many or twice the same, its name is taken, or there are 32 before
abbrev pub unsaid_of : List SourceSpec → SourceSpec → Option Unsaid
unsaid_of before s =
    cond (length (columns_of s.kind) == 0) (Some NoColumns)
    (cond (nat_lt 200 (length (columns_of s.kind))) (Some ManyColumns)
    (cond (are_apart (columns_of s.kind))
    (cond (is_some (source_named before s.name)) (Some NameTwice) (cond (nat_le 32 (length before)) (Some TooMany) None))
    (Some ColumnTwice)))
