use Rattle.std.proofs.Common.{◌≡◌, take}
use Rattle.table_wrap.proofs.cells.copy_columns.Given as goal

abbrev pub invariant-columns : goal.invariant-columns
invariant-columns l = l.copies.items ≡ take l.column-index l.columns
