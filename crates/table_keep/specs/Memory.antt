-- What tables in memory mean.
use Rattle.std.specs.Prelude.{ℕ, ◌+◌, ◌-◌, ◌^◌, min, Bool, List, Option, None, if◌then◌else◌, option_and_then}
use Rattle.std.specs.Ordering.{nat_cmp}
use Rattle.std.specs.BTreeSet.{contains}
use Rattle.table_keep.specs.declared.mem_tables.MemTables.{MemTables}
use Rattle.table_keep.specs.declared.page.PageAsk.{PageAsk}
use Rattle.table_keep.specs.Page.{first_above}
use Rattle.table_keep.specs.Rows.{Row}
use Rattle.table_keep.specs.Table.{rows_told, unless_null}
use Rattle.table_keep.specs.Views.{TablesView, declared_by}

-- whether the call of a number, counted from 1, is to fail
abbrev pub fails_at : MemTables → ℕ → Bool
fails_at m call = contains nat_cmp m.failing call

-- the page that the call of a number gives: none where it is to fail, where the rows are not told, and where one of the page's has NULL in
-- a column that never is
abbrev pub page_at_call : MemTables → ℕ → PageAsk → Option (List Row)
page_at_call m call ask =
    if fails_at m call then None
    else option_and_then (λ rows. unless_null ask.columns.now (first_above ask.after ask.limit rows)) (rows_told m.tables.items (declared_by ask))

-- the number of the next call of tables in memory, counted from 1; the last number of 64 bits has none after it
abbrev pub next_call : MemTables → ℕ
next_call m = min (m.calls + 1) (2 ^ 64 - 1)

-- the page that the next call of tables in memory gives, where it gives one
abbrev pub next_page : MemTables → PageAsk → Option (List Row)
next_page m ask = page_at_call m (next_call m) ask

-- what tables in memory mean: they tell their rows, and count faults for all declared tables together
abbrev pub mem_tables_view : MemTables → TablesView
mem_tables_view m = record { told = rows_told m.tables.items; pages = m.calls; rows = m.rows; faults = λ _. m.faults }
