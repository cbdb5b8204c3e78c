-- What schemas mean to a caller: all that generic code may speak of.
use Rattle.std.specs.Prelude.{◌≡◌, ◌≤◌, ℕ, List, Option, Result, Ok, Err, Vec}
use Rattle.std.specs.declared.alloc.Global.{Global}
use Rattle.mix_base.specs.Counts.{HasRisen}
use Rattle.schema_keep.specs.declared.fault.SchemaFault.{SchemaFault}
use Rattle.schema_keep.specs.declared.fault.SchemaFault.TheVariants.{Failed, OutOfMemory}
use Rattle.schema_keep.specs.declared.shape.TableShape.{TableShape}

-- what schemas mean, path by path
pub record SchemasView : Type 0 where
  -- the tables of the file at a path, where they are told
  pub told : List ℕ → Option (List TableShape)
  -- how often the tables of a path could not be told
  pub faults : List ℕ → ℕ

-- what every call keeps of schemas: the tables of all files; no count of faults falls
pub record KeepsSchemas (old new : SchemasView) : Type 0 where
  pub told : (path : List ℕ) → new.told path ≡ old.told path
  pub faults : (path : List ℕ) → old.faults path ≤ new.faults path

-- where the tables of a path could not be told, its count of faults has risen
abbrev pub HasFailed : SchemasView → SchemasView → List ℕ → Result (Vec TableShape Global) SchemaFault → Type 0
HasFailed old new path (Ok tables) = Unit {0}
HasFailed old new path (Err (Failed why)) = HasRisen (old.faults path) (new.faults path)
HasFailed old new path (Err OutOfMemory) = Unit {0}

-- what schemas mean that tell given tables and were not asked yet
abbrev pub unasked : (List ℕ → Option (List TableShape)) → SchemasView
unasked told = record { told = told; faults = λ _. 0 }
