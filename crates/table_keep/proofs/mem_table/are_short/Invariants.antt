use Rattle.std.proofs.Common.{◌≡◌, drop, map}
use Rattle.std.specs.List.{list_all}
use Rattle.table_keep.specs.Rows.{value_of}
use Rattle.table_keep.specs.Table.{is_short}
use Rattle.table_keep.proofs.mem_table.are_short.Given as goal

-- all cells are short where those to come are
abbrev pub invariant-cells : goal.invariant-cells
invariant-cells l = list_all is_short (map value_of l.cells) ≡ list_all is_short (map value_of (drop l.cell-index l.cells))
