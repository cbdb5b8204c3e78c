use Rattle.std.proofs.Common.{length}
use Rattle.table_keep.proofs.page.+cells_fit.Given as goal

abbrev pub decreases-cells_fit : goal.decreases-cells_fit
decreases-cells_fit l = length l.columns.now
