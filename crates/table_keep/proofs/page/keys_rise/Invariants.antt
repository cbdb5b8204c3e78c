use Rattle.std.proofs.Common.{◌≡◌, drop}
use Rattle.table_keep.specs.Page.{keys_rise}
use Rattle.table_keep.specs.Rows.{rows_of}
use Rattle.table_keep.proofs.page.keys_rise.Given as goal

-- the keys rise where those of the rows to come do
abbrev pub invariant-rows : goal.invariant-rows
invariant-rows l = keys_rise l.fn.after (rows_of l.rows) ≡ keys_rise l.least (rows_of (drop l.row-index l.rows))
