use Rattle.std.proofs.Common.{◌≡◌, ◌∙◌, ◌+◌, ◌≤◌, ◌∷◌, [], length, min, nat_lt, ap, sym, arith}
use Rattle.lxp_core.specs.Open.{node}
use Rattle.lxp_core.specs.Plain.{put_all}
use Rattle.row_document.specs.Rows.{rest_given}
use Rattle.csv_wrap.specs.declared.parts.Part.TheVariants.{RowsFrom}
use Rattle.csv_wrap.specs.Parts.{hole_of}
use Rattle.csv_wrap.specs.Document.{columns_of, has_more, rows_of}
use Rattle.csv_wrap.proofs.Given.{rest_same}
use Rattle.csv_wrap.proofs.RowFacts.{length-cut}
use Rattle.csv_wrap.proofs.Shown.{rows_chunk, rows_end, rows_step, shown_rows}
use Rattle.csv_wrap.proofs.document.CsvDoc.give_rows.Goals as goal

pub rows-preserved : goal.rows-preserved
rows-preserved c = λ rest.
    let d = c.args.self.now in
    let columns = columns_of d in
    let rows = rows_of d in
    let row = c.rows.row in
    let old = c.rows.list.items in
    let last = c.chunk_end-last.result in
    let tail = shown_rows columns rows (row + 1) last rest in
    let count = length-cut (length d.columns.items) d.table.rows d.table.fields in
    let within : c.chunk_end-last.result ≤ length (rows_of c.args.self.now) = omega (arith, c.chunk_end-last.ensures, count) in
    c.in_ok-push_row.ensures tail
    ∙ ap (λ kids. put_all old (node (114 ∷ 111 ∷ 119 ∷ []) kids tail)) c.in_ok-cells.ensures
    ∙ ap (put_all old) (sym (rows_step columns rows row last rest c.rows-test.true within))
    ∙ c.rows.invariant rest

pub returns : goal.returns
returns c =
    let d = c.args.self.now in
    let columns = columns_of d in
    let rows = rows_of d in
    let list = c.rows.list.items in
    let first = c.args.first in
    let last = c.chunk_end-last.result in
    let rest = rest_given (has_more d (first + d.chunk)) (hole_of (RowsFrom (first + d.chunk))) in
    let count = length-cut (length d.columns.items) d.table.rows d.table.fields in
    let inside : c.args.first ≤ length (rows_of c.args.self.now) = omega (arith, c.requires, count) in
    let end : c.chunk_end-last.result ≡ min (c.args.first + c.args.self.now.chunk) (length (rows_of c.args.self.now)) = c.chunk_end-last.ensures ∙ ap (min (first + d.chunk)) (sym count) in
    let past : c.chunk_end-last.result ≤ c.rows.row = omega (arith, c.rows-test.false) in
    c.in_ok-push_rest.ensures
    ∙ ap (λ id. put_all list (rest_given (nat_lt last d.table.rows) id)) c.hole.ensures
    ∙ ap (λ count. put_all list (rest_given (nat_lt last count) (hole_of (RowsFrom last)))) (sym count)
    ∙ ap (put_all list) (rest_same d last (first + d.chunk) end)
    ∙ ap (put_all list) (sym (rows_end columns rows c.rows.row last rest past))
    ∙ c.rows.invariant rest
    ∙ rows_chunk columns rows first last d.chunk rest inside end
