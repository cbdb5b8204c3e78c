use Rattle.std.proofs.Common.{◌≡◌, ◌∙◌, ◌+◌, ◌*◌, [], get_or, length, arith, ap, List, ℕ}
use Rattle.csv_wrap.proofs.RowFacts.{field_of, field_within}
use Rattle.csv_wrap.proofs.document.CsvDoc.field.Goals as goal

pub overflow_mul-row : goal.overflow_mul-row
overflow_mul-row c =
    let d = c.args.self.now in
    let width : c.len-width.result ≡ length d.columns.items = omega (arith, c.len-width.ensures, d.columns.ok.0) in
    omega (arith, field_within (length d.columns.items) c.args.row c.args.column c.len-width.result d.table d.full width c.requires.row c.requires.column, c.len-places.ensures)

pub overflow_add-row : goal.overflow_add-row
overflow_add-row c =
    let d = c.args.self.now in
    let width : c.len-width.result ≡ length d.columns.items = omega (arith, c.len-width.ensures, d.columns.ok.0) in
    omega (arith, field_within (length d.columns.items) c.args.row c.args.column c.len-width.result d.table d.full width c.requires.row c.requires.column, c.len-places.ensures)

pub text-requires : goal.text-requires
text-requires c =
    let d = c.args.self.now in
    let width : c.len-width.result ≡ length d.columns.items = omega (arith, c.len-width.ensures, d.columns.ok.0) in
    field_within (length d.columns.items) c.args.row c.args.column c.len-width.result d.table d.full width c.requires.row c.requires.column

pub returns-clause-bytes : goal.returns-clause-bytes
returns-clause-bytes c =
    let d = c.args.self.now in
    let width : c.len-width.result ≡ length d.columns.items = omega (arith, c.len-width.ensures, d.columns.ok.0) in
    let fields : List (List ℕ) = d.table.fields in
    c.text.ensures.bytes ∙ ap (λ w. get_or fields (c.args.row * w + c.args.column) []) width
    ∙ field_of (length d.columns.items) c.args.row c.args.column d.table c.requires.row c.requires.column
