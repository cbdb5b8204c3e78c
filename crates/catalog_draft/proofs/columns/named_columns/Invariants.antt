use Rattle.std.proofs.Common.{◌≡◌, ◌++◌, drop}
use Rattle.std.specs.List.{filter}
use Rattle.catalog_draft.specs.Tables.{can_name}
use Rattle.catalog_draft.proofs.columns.named_columns.Given as goal

abbrev pub invariant-loop-column : goal.invariant-loop-column
invariant-loop-column l = l.kept.items ++ filter can_name (drop l.column-index l.columns) ≡ filter can_name l.columns
