use Rattle.std.proofs.Common.{◌≡◌, map, take}
use Rattle.table_keep.specs.Rows.{rows_of}
use Rattle.table_keep.specs.Table.{projected}
use Rattle.table_keep.proofs.mem_table.copy_rows.Given as goal

abbrev pub invariant-rows : goal.invariant-rows
invariant-rows l = rows_of l.copies.items ≡ map (projected l.places) (rows_of (take l.row-index l.rows))
