use Rattle.std.proofs.Common.{◌≡◌, ◌≤◌, ◌-◌, [], length, drop}
use Rattle.std.specs.Str.{IsUtf8, IsCharBoundary}
use Rattle.mix_tree.specs.LabelMachine.{in_quotes, seen_from}
use Rattle.mix_tree.proofs.label_reader.read_escaped.Given as goal

abbrev pub invariant-loop-to : goal.invariant-loop-to
invariant-loop-to l = record {
  inside : l.at ≤ length l.text;
  boundary : IsCharBoundary l.text l.at;
  label : IsUtf8 l.label.items;
  seen : seen_from (in_quotes l.label.items) l.at (drop l.at l.text) ≡ seen_from (in_quotes []) l.from (drop l.from l.text);
}

abbrev pub decreases-loop-to : goal.decreases-loop-to
decreases-loop-to l = length l.text - l.at
