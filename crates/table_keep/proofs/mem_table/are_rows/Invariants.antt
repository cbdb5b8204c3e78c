use Rattle.std.proofs.Common.{◌≡◌, drop}
use Rattle.std.specs.List.{list_all}
use Rattle.table_keep.specs.Rows.{rows_of}
use Rattle.table_keep.specs.Table.{is_row}
use Rattle.table_keep.proofs.mem_table.are_rows.Given as goal

-- all are rows where those to come are
abbrev pub invariant-rows : goal.invariant-rows
invariant-rows l = list_all (is_row l.width) (rows_of l.rows) ≡ list_all (is_row l.width) (rows_of (drop l.row-index l.rows))
