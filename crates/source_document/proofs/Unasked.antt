-- Fills that ask no table.
use Rattle.std.proofs.Common.{ℕ, refl, arith}
use Rattle.table_keep.specs.Views.{TablesView, KeepsTables}
use Rattle.source_document.specs.Meaning.{IsPaged}

-- tables of which nothing is asked keep what every call keeps
pub tables_same : (v : TablesView) → KeepsTables v v
tables_same v = record { told = λ d. refl; pages = omega arith; rows = omega arith; faults = λ d. omega arith }

-- where nothing is asked, no page is
pub none_paged : (most : ℕ) (v : TablesView) → IsPaged most v v
none_paged most v = record { at_most_one = omega arith; at_most_rows = omega arith }
