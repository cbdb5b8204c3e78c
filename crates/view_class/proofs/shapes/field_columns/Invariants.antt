use Rattle.std.proofs.Common.{◌≡◌, map, take}
use Rattle.view_class.specs.Layouts.{field_column}
use Rattle.view_class.proofs.shapes.field_columns.Given as goal

abbrev pub invariant-loop-name : goal.invariant-loop-name
invariant-loop-name l = l.columns.items ≡ map field_column (take l.name-index l.names)
