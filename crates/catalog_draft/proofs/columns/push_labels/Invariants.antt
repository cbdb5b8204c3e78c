use Rattle.std.proofs.Common.{◌≡◌, ◌++◌, ◌∷◌, drop}
use Rattle.std.specs.List.{flat_map}
use Rattle.mix_tree.specs.Spelling.{spelling}
use Rattle.catalog_draft.specs.Lines.{listed}
use Rattle.catalog_draft.proofs.columns.push_labels.Given as goal

abbrev pub invariant-loop-column : goal.invariant-loop-column
invariant-loop-column l = l.line.items ++ flat_map (λ d. 44 ∷ spelling d) (drop l.column-index l.others) ≡ l.fn.line.items ++ listed spelling l.columns
