use Rattle.std.proofs.Common.{◌≡◌}
use Rattle.lxp_core.specs.Open.{Open}
use Rattle.lxp_core.specs.Plain.{put_all}
use Rattle.csv_wrap.specs.Document.{columns_of, rows_of}
use Rattle.csv_wrap.proofs.Shown.{shown_rows}
use Rattle.csv_wrap.proofs.document.CsvDoc.give_rows.Given as goal

abbrev pub invariant-rows : goal.invariant-rows
invariant-rows l =
    (rest : Open) → put_all l.list.items (shown_rows (columns_of l.self) (rows_of l.self) l.row l.last rest)
    ≡ shown_rows (columns_of l.self) (rows_of l.self) l.first l.last rest
