use Rattle.std.proofs.Common.{ℕ, List, []}
use Rattle.csv_wrap.specs.Csv.{IsAt, without_marks}
use Rattle.csv_wrap.proofs.RowFacts.{HasRead}
use Rattle.csv_wrap.proofs.reading.rows_of.Given as goal

abbrev pub invariant-rows : goal.invariant-rows
invariant-rows l = (bytes : List ℕ) → IsAt (without_marks bytes) [] l.fn.reader → HasRead bytes l.columns l.reader l.fields l.row
