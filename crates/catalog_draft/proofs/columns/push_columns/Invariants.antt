use Rattle.std.proofs.Common.{◌≡◌, ◌++◌, ◌∷◌, drop}
use Rattle.std.specs.List.{flat_map}
use Rattle.catalog_draft.specs.Lines.{listed, marked}
use Rattle.catalog_draft.proofs.columns.push_columns.Given as goal

abbrev pub invariant-loop-column : goal.invariant-loop-column
invariant-loop-column l = l.line.items ++ flat_map (λ d. 44 ∷ marked d) (drop l.column-index l.others) ≡ l.fn.line.items ++ listed marked l.columns
