use Rattle.std.proofs.Common.{◌≡◌, ◌≤◌, take, drop}
use Rattle.path_expr.specs.Depth.{first_of}
use Rattle.path_expr.specs.Scanned.{shape}
use Rattle.path_expr.specs.declared.scan.Stage.TheVariants.{Start}
use Rattle.path_expr.proofs.Deep.{scan_deep}
use Rattle.path_expr.proofs.Shapes.{ScansTo}
use Rattle.path_expr.proofs.scan.scan_path.Given as goal

abbrev pub invariant-loop-at : goal.invariant-loop-at
invariant-loop-at l = record {
  depth : l.scan.depth ≤ l.at;
  scan : ScansTo (take l.at l.text) l.scan;
  found : first_of l.deep (scan_deep (drop l.at l.text) l.at l.scan) ≡ scan_deep l.text 0 (shape 0 Start);
}
