use Rattle.std.proofs.Common.{◌≡◌, ℕ, List, ◌++◌, drop, option_map}
use Rattle.table_keep.specs.Table.{places_of}
use Rattle.table_keep.proofs.mem_table.MemTable.places.Given as goal

-- the places so far and those of the columns to come are those of all
abbrev pub invariant-columns : goal.invariant-columns
invariant-columns l = option_map (λ (ps : List ℕ). l.places.items ++ ps) (places_of l.self.columns.items (drop l.column-index l.columns)) ≡ places_of l.self.columns.items l.columns
