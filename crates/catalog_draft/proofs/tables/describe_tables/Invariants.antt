use Rattle.std.proofs.Common.{◌≡◌, ◌++◌, drop}
use Rattle.catalog_draft.specs.Lines.{text_of}
use Rattle.catalog_draft.specs.Tables.{tables_lines, tables_text}
use Rattle.catalog_draft.proofs.tables.describe_tables.Given as goal

abbrev pub invariant-loop-table : goal.invariant-loop-table
invariant-loop-table l = l.written.text.items ++ text_of (tables_lines l.path l.written.sources.items (drop l.table-index l.tables)) ≡ tables_text l.path l.tables
