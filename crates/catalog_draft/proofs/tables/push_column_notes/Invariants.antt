use Rattle.std.proofs.Common.{◌≡◌, ◌++◌, drop, map}
use Rattle.std.specs.Prelude.{not}
use Rattle.std.specs.List.{filter}
use Rattle.mix_catalog.specs.declared.column.Column.{Column}
use Rattle.catalog_draft.specs.Lines.{column_note, text_of}
use Rattle.catalog_draft.specs.Tables.{can_name}
use Rattle.catalog_draft.proofs.tables.push_column_notes.Given as goal

abbrev pub invariant-loop-column : goal.invariant-loop-column
invariant-loop-column l =
    l.text.items ++ text_of (map (λ (c : Column). column_note l.table c.name) (filter (λ c. not (can_name c)) (drop l.column-index l.columns)))
    ≡ l.fn.text.items ++ text_of (map (λ (c : Column). column_note l.table c.name) (filter (λ c. not (can_name c)) l.columns))
