use Rattle.std.proofs.Common.{◌≡◌, [], get_or}
use Rattle.lxp_core.specs.Plain.{put_all}
use Rattle.csv_wrap.specs.Document.{columns_of, rows_of}
use Rattle.csv_wrap.proofs.Shown.{shown_cells}
use Rattle.csv_wrap.proofs.document.CsvDoc.cells.Given as goal

abbrev pub invariant-columns : goal.invariant-columns
invariant-columns l =
    let fields = get_or (rows_of l.self) l.row [] in
    put_all l.list.items (shown_cells (columns_of l.self) fields l.column) ≡ shown_cells (columns_of l.self) fields 0
