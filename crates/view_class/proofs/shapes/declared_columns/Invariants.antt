use Rattle.std.proofs.Common.{◌≡◌, map, take}
use Rattle.view_class.specs.Layouts.{declared_column}
use Rattle.view_class.proofs.shapes.declared_columns.Given as goal

abbrev pub invariant-loop-column : goal.invariant-loop-column
invariant-loop-column l = l.columns.items ≡ map declared_column (take l.column-index l.declared)
