use Rattle.std.proofs.Common.{◌∙◌, nat_le, Some, sym, ap, length}
use Rattle.csv_wrap.specs.Document.{has_part}
use Rattle.csv_wrap.proofs.RowFacts.{length-cut}
use Rattle.csv_wrap.proofs.document.CsvDoc.has.Goals as goal

pub returns-in-RowsFrom : goal.returns-in-RowsFrom
returns-in-RowsFrom c =
    let d = c.args.self.now in
    ap (nat_le c.in-RowsFrom.first) (sym (length-cut (length d.columns.items) d.table.rows d.table.fields)) ∙ ap (λ p. has_part d (Some p)) (sym c.in-RowsFrom.is)
