-- What no tables mean.
use Rattle.std.specs.Prelude.{◌≡◌, true, List, Option, Some, None}
use Rattle.table_keep.specs.declared.no_tables.NoTables.{NoTables}
use Rattle.table_keep.specs.Page.{keys_rise}
use Rattle.table_keep.specs.Rows.{Row}
use Rattle.table_keep.specs.Views.{Declared, TablesView}

-- what no tables mean: they tell no rows, and each page that was asked has failed
abbrev pub no_tables_view : NoTables → TablesView
no_tables_view n = record { told = λ _. None; pages = n.pages; rows = n.rows; faults = λ _. n.pages }

-- where there are no tables, no rows are told, so all that are go by rising key
pub untold_rise : (a : NoTables) (d : Declared) (rows : List Row) → (no_tables_view a).told d ≡ Some rows → keys_rise None rows ≡ true
untold_rise a d rows e = (let z : None ≡ Some rows = e in cc)
