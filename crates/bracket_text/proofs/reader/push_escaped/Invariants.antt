use Rattle.std.proofs.Common.{◌≡◌, ◌∷◌, ◌≤◌, ◌-◌, [], List, ℕ, length, drop}
use Rattle.std.specs.Str.{IsCharBoundary}
use Rattle.mix_tree.specs.LabelMachine.{in_quotes, seen_from}
use Rattle.document_store.specs.Laid.{bare_node}
use Rattle.bracket_text.proofs.reader.push_escaped.Given as goal

abbrev pub invariant-loop-to : goal.invariant-loop-to
invariant-loop-to l = record {
  order : l.from ≤ l.at;
  inside : l.at ≤ length l.text;
  boundary : IsCharBoundary l.text l.at;
  held : (label : List ℕ) × (l.store ≡ bare_node label ∷ drop 1 l.initial.store) × (seen_from (in_quotes []) l.from (drop l.from l.text) ≡ seen_from (in_quotes label) l.at (drop l.at l.text));
}

abbrev pub decreases-loop-to : goal.decreases-loop-to
decreases-loop-to l = length l.text - l.at
