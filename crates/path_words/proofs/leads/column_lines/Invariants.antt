-- The lines of the columns so far.
use Rattle.std.proofs.Common.{◌≡◌, take}
use Rattle.std.specs.List.{flat_map}
use Rattle.path_words.specs.Leads.{column_line}
use Rattle.path_words.proofs.leads.column_lines.Given as goal

abbrev pub invariant-loop-column : goal.invariant-loop-column
invariant-loop-column l = l.lines.items ≡ flat_map (column_line l.front) (take l.column-index l.columns)
