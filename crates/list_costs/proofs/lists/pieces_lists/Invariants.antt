-- The lists in the pieces so far.
use Rattle.std.proofs.Common.{◌≡◌, take}
use Rattle.std.specs.List.{flat_map}
use Rattle.list_costs.specs.Lists.{lists_in, piece_lists}
use Rattle.list_costs.proofs.lists.pieces_lists.Given as goal

abbrev pub invariant-loop-piece : goal.invariant-loop-piece
invariant-loop-piece l = l.lists.items ≡ flat_map (piece_lists (lists_in l.nested)) (take l.piece-index l.pieces)
