use Rattle.std.proofs.Common.{◌≡◌, get_or, map, take}
use Rattle.table_keep.specs.Rows.{null, value_of}
use Rattle.table_keep.proofs.mem_table.cells_at.Given as goal

abbrev pub invariant-places : goal.invariant-places
invariant-places l = map value_of l.copies.items ≡ map (λ p. get_or (map value_of l.cells) p null) (take l.place-index l.places)
