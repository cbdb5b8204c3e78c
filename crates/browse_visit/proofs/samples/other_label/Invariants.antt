use Rattle.std.proofs.Common.{◌≡◌, ◌∷◌, ◌++◌, drop}
use Rattle.std.specs.Prelude.{string_bytes}
use Rattle.browse_visit.specs.Samples.{all_bytes}
use Rattle.browse_visit.proofs.samples.other_label.Given as goal

abbrev pub invariant-loop-label : goal.invariant-loop-label
invariant-loop-label l = string_bytes l.other ++ all_bytes (drop l.label-index l.labels) ≡ 97 ∷ all_bytes l.labels
