use Rattle.std.proofs.Common.{◌≡◌, drop}
use Rattle.table_keep.specs.Page.{all_fit}
use Rattle.table_keep.specs.Rows.{rows_of}
use Rattle.table_keep.proofs.page.all_fit.Given as goal

-- all rows fit where those to come do
abbrev pub invariant-rows : goal.invariant-rows
invariant-rows l = all_fit l.columns (rows_of l.rows) ≡ all_fit l.columns (rows_of (drop l.row-index l.rows))
