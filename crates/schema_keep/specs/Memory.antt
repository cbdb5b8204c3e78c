-- What schemas in memory mean.
use Rattle.std.specs.Prelude.{ℕ, Bool, List, Option, string_bytes}
use Rattle.std.specs.List.{find}
use Rattle.std.specs.Option.{option_map}
use Rattle.std.specs.Str.{bytes_eq}
use Rattle.schema_keep.specs.declared.mem_schemas.MemSchema.{MemSchema}
use Rattle.schema_keep.specs.declared.mem_schemas.MemSchemas.{MemSchemas}
use Rattle.schema_keep.specs.declared.shape.TableShape.{TableShape}
use Rattle.schema_keep.specs.Views.{SchemasView}

-- whether a schema is that of the file at a path
abbrev pub is_at : List ℕ → MemSchema → Bool
is_at path schema = bytes_eq (string_bytes schema.path) path

-- the tables of the file at a path: those of its first schema
abbrev pub tables_at : List MemSchema → List ℕ → Option (List TableShape)
tables_at schemas path = option_map (λ schema. schema.tables.items) (find (is_at path) schemas)

-- what schemas in memory mean: they tell their tables, and count faults for all paths together
abbrev pub mem_schemas_view : MemSchemas → SchemasView
mem_schemas_view m = record { told = tables_at m.schemas.items; faults = λ _. m.faults }
