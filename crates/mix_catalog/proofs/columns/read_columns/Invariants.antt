use Rattle.std.proofs.Common.{◌≡◌, ◌≤◌, ◌-◌, length, drop}
use Rattle.std.specs.Str.{IsCharBoundary}
use Rattle.mix_tree.specs.LabelMachine.{start}
use Rattle.mix_catalog.specs.Columns.{columns_from, columns_at}
use Rattle.mix_catalog.proofs.columns.read_columns.Given as goal

abbrev pub invariant-loop-labels : goal.invariant-loop-labels
invariant-loop-labels l = record {
  inside : l.from ≤ length l.line;
  boundary : IsCharBoundary l.line l.from;
  seen : columns_from l.labels.items start l.from (drop l.from l.line) ≡ columns_at l.line l.at;
}

abbrev pub decreases-loop-labels : goal.decreases-loop-labels
decreases-loop-labels l = length l.line - l.from
