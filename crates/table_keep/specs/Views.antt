-- What tables mean to a caller: all that generic code may speak of.
use Rattle.std.specs.Prelude.{◌≡◌, ◌≤◌, ℕ, List, Option}
use Rattle.mix_catalog.specs.declared.column.Column.{Column}
use Rattle.table_keep.specs.declared.page.PageAsk.{PageAsk}
use Rattle.table_keep.specs.Rows.{Row}

-- a table as it is declared: where it stands, by which key its rows go, and which columns they have
pub record Declared : Type 0 where
  pub file : List ℕ
  pub table : List ℕ
  pub key : List ℕ
  pub columns : List Column

-- the declared table of which a page is asked
abbrev pub declared_by : PageAsk → Declared
declared_by ask = record { file = ask.file.now; table = ask.table.now; key = ask.key.now; columns = ask.columns.now }

-- what tables mean: their rows, how many pages were asked and how many rows these were to have, and how often a page has failed
pub record TablesView : Type 0 where
  -- the rows of a declared table by rising key, where they are told
  pub told : Declared → Option (List Row)
  -- how many pages were asked
  pub pages : ℕ
  -- how many rows were asked for, by all pages together
  pub rows : ℕ
  -- how often a page of a declared table has failed
  pub faults : Declared → ℕ

-- what every call keeps of tables: their rows; no count of pages, rows or faults falls
pub record KeepsTables (old new : TablesView) : Type 0 where
  pub told : (d : Declared) → new.told d ≡ old.told d
  pub pages : old.pages ≤ new.pages
  pub rows : old.rows ≤ new.rows
  pub faults : (d : Declared) → old.faults d ≤ new.faults d

-- what tables mean that tell given rows and of which no page was asked yet
abbrev pub unasked : (Declared → Option (List Row)) → TablesView
unasked told = record { told = told; pages = 0; rows = 0; faults = λ _. 0 }
