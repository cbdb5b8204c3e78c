-- What SQLite files mean: they tell neither rows nor tables.
use Rattle.std.specs.Prelude.{ℕ, None}
use Rattle.mix_base.specs.Counts.{HasRisen}
use Rattle.schema_keep.specs.Views.{SchemasView}
use Rattle.schema_keep.specs.declared.fault.SchemaFault.{SchemaFault}
use Rattle.schema_keep.specs.declared.fault.SchemaFault.TheVariants.{Failed, OutOfMemory}
use Rattle.sqlite_tables.specs.declared.schemas.SqliteSchemas.{SqliteSchemas}
use Rattle.sqlite_tables.specs.declared.tables.SqliteTables.{SqliteTables}
use Rattle.table_keep.specs.Views.{TablesView}

-- the view of SQLite tables, which tell no rows and count the faults of all declared tables together
abbrev pub sqlite_view : SqliteTables → TablesView
sqlite_view t = record { told = λ _. None; pages = t.pages; rows = t.rows; faults = λ _. t.faults }

-- the view of the schemas of SQLite files, which tell no tables and count the faults of all paths together
abbrev pub schemas_view : SqliteSchemas → SchemasView
schemas_view s = record { told = λ _. None; faults = λ _. s.faults }

-- a count of faults has risen, unless memory ran out
abbrev pub IsCounted : ℕ → ℕ → SchemaFault → Type 0
IsCounted old new (Failed why) = HasRisen old new
IsCounted old new OutOfMemory = Unit {0}
