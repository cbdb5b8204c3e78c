use Rattle.std.proofs.Common.{◌≤◌, ◌-◌, IsTrue, length, slice_range}
use Rattle.std.specs.List.{list_all}
use Rattle.mix_tree.specs.Spelling.{is_bare}
use Rattle.mix_tree.proofs.label_scan.bare_end.Given as goal

abbrev pub invariant-loop-end : goal.invariant-loop-end
invariant-loop-end l = record {
  order : l.from ≤ l.end;
  inside : l.end ≤ length l.text;
  bare : IsTrue (list_all is_bare (slice_range l.text l.from l.end));
}

abbrev pub decreases-loop-end : goal.decreases-loop-end
decreases-loop-end l = length l.text - l.end
