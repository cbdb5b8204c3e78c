use Rattle.std.proofs.Common.{◌≡◌, ◌<◌, ◌≤◌, ◌∙◌, ◌+◌, [], get_or, length, sym, ap, arith}
use Rattle.std.proofs.lemmas.Str.{IsUtf8-had}
use Rattle.lxp_core.specs.Open.{nil, node}
use Rattle.lxp_core.specs.Plain.{put_all}
use Rattle.csv_wrap.specs.Document.{columns_of, rows_of}
use Rattle.csv_wrap.proofs.RowFacts.{length-row}
use Rattle.csv_wrap.proofs.Shown.{cells_end, cells_step, column_is, shown_cells}
use Rattle.csv_wrap.proofs.document.CsvDoc.cells.Goals as goal

pub columns-preserved : goal.columns-preserved
columns-preserved c =
    let d = c.args.self.now in
    let columns = columns_of d in
    let fields = get_or (rows_of d) c.args.row [] in
    let i = c.columns.column in
    let long : length (get_or (rows_of c.args.self.now) c.args.row []) ≡ length c.args.self.now.columns.items = length-row (length d.columns.items) c.args.row d.table d.full c.requires in
    let inside : c.columns.column < length c.args.self.now.columns.items = omega arith in
    let within : c.columns.column < length (get_or (rows_of c.args.self.now) c.args.row []) = omega (arith, long, inside) in
    let tail = shown_cells columns fields (i + 1) in
    let old = c.columns.list.items in
    let field = c.field-field.result.now in
    let column = column_is columns i c.index.result.now inside c.index.ensures in
    c.in_ok-push_cell.ensures tail
    ∙ ap (λ name. put_all old (node name (node field nil nil) tail)) (sym column)
    ∙ ap (λ f. put_all old (node (get_or columns i []) (node f nil nil) tail)) c.field-field.ensures.bytes
    ∙ ap (put_all c.columns.list.items) (sym (cells_step columns fields i inside within)) ∙ c.columns.invariant

pub returns : goal.returns
returns c =
    let d = c.args.self.now in
    let fields = get_or (rows_of d) c.args.row [] in
    let past : length c.args.self.now.columns.items ≤ c.columns.column = omega arith in
    ap (put_all c.columns.list.items) (sym (cells_end (columns_of d) fields c.columns.column past)) ∙ c.columns.invariant

pub push_cell-requires : goal.push_cell-requires
push_cell-requires c = IsUtf8-had c.field-field.result.now c.field-field.ensures.utf8
