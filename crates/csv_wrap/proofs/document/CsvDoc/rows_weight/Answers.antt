use Rattle.std.proofs.Common.{◌≡◌, ◌∙◌, ◌+◌, ◌-◌, ◌*◌, length, ap, sym, arith}
use Rattle.csv_wrap.proofs.Weights.{rows-left}
use Rattle.csv_wrap.proofs.document.CsvDoc.rows_weight.Goals as goal

pub returns-clause-weight : goal.returns-clause-weight
returns-clause-weight c =
    let d = c.args.self.now in
    let width : c.len.result ≡ length c.args.self.now.columns.items = omega (arith, c.len.ensures, d.columns.ok.0) in
    let left : c.saturating_sub-left.result ≡ c.args.self.now.table.rows - c.args.first = omega (arith, c.saturating_sub-left.ensures) in
    ap (λ n. n * (1 + 2 * c.len.result)) left ∙ ap (λ w. (d.table.rows - c.args.first) * (1 + 2 * w)) width ∙ sym (rows-left d c.args.first)
