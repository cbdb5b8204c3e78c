use Rattle.std.proofs.Common.{◌≡◌, ◌∙◌, ◌≤◌, ℕ, nat_le, true, Some, length, ap, sym, arith}
use Rattle.std.proofs.lemmas.Bool.Decides.{nat_tests}
use Rattle.csv_wrap.specs.Document.{has_part}
use Rattle.csv_wrap.proofs.RowFacts.{length-cut}
use Rattle.csv_wrap.proofs.document.CsvDoc.give_part.Goals as goal

-- what a test of a count says of it
at_most : (first rows count : ℕ) → count ≡ rows → nat_le first count ≡ true → first ≤ rows
at_most first rows count e h = grind (arith, nat_tests)

pub give_rows-requires : goal.give_rows-requires
give_rows-requires c =
    let d = c.args.self.now in
    at_most c.in-RowsFrom.first d.table.rows _ (length-cut (length d.columns.items) d.table.rows d.table.fields) (ap (λ p. has_part d (Some p)) (sym c.in-RowsFrom.is) ∙ c.requires)
