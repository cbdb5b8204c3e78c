use Rattle.std.proofs.Common.{◌≡◌, map, drop, []}
use Rattle.mix_catalog.specs.Tables.{columns_after}
use Rattle.mix_catalog.proofs.table.read_columns.Given as goal

abbrev pub invariant-loop-piece : goal.invariant-loop-piece
invariant-loop-piece l = columns_after l.columns.items (drop l.piece-index (map (λ piece. piece.now) l.piece-items)) ≡ columns_after [] (map (λ piece. piece.now) l.piece-items)
