use Rattle.std.proofs.Common.{◌≤◌, take}
use Rattle.xmas_tokens.specs.Parts.{part_depth}
use Rattle.xmas_text.proofs.Cuts.{ScansTo}
use Rattle.xmas_text.proofs.scan.scan_rule.Given as goal

abbrev pub invariant-loop-at : goal.invariant-loop-at
invariant-loop-at l = record {
  depth : l.scan.depth ≤ l.at;
  part : part_depth l.scan.part ≤ l.at;
  scan : ScansTo (take l.at l.text) l.scan;
}
