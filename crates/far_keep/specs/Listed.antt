-- What one far source in memory means, and which of several a name is of.
use Rattle.std.specs.Prelude.{◌^◌, ◌&&◌, ◌==◌, ℕ, Bool, true, List, Option, Some, None, nat_lt, slice_index, option_and_then}
use Rattle.std.specs.List.{list_any, position, slice_get}
use Rattle.mix_tree.specs.Forest.{Forest, none, alone}
use Rattle.mix_tree.specs.Weight.{tree_nodes}
use Rattle.lxp_memory.specs.Small.{fits_wire}
use Rattle.far_keep.specs.declared.far_source.FarSource.{FarSource}
use Rattle.far_keep.specs.declared.mem_far.MemFar.{MemFar}
use Rattle.far_keep.specs.Names.{is_same}

-- whether the document of a far source in memory is small enough for a wire, and has fewer than 2^128 nodes
abbrev pub is_small : MemFar → Bool
is_small m = fits_wire m.document && nat_lt (tree_nodes m.document) (2 ^ 128)

-- whether the list of a far source in memory names the fill of a number as one that is to fail
abbrev pub names_call : MemFar → ℕ → Bool
names_call m call = list_any (λ k. k == call) m.failing.items

-- the place of a far source among those in memory: that of the first one of the same name, where there is one
abbrev pub place_of : List MemFar → FarSource → Option ℕ
place_of fars far = position (λ m. is_same m.far far) fars

-- the first of the far sources in memory that has a given name, where there is one
abbrev pub listed : List MemFar → FarSource → Option MemFar
listed fars far = option_and_then (slice_get fars) (place_of fars far)

-- the document of a far source in memory, and nothing where there is none
abbrev pub trees_of : Option MemFar → Forest
trees_of None = none
trees_of (Some m) = alone m.document

-- the count at a place of some counts, and another count where there is no place
abbrev pub count_at : List ℕ → ℕ → Option ℕ → ℕ
count_at counts other None = other
count_at counts other (Some i) = slice_index counts i

-- whether the fill of a number is to fail: where there is no far source, and where the list of one names it
abbrev pub fails_at : Option MemFar → ℕ → Bool
fails_at None call = true
fails_at (Some m) call = names_call m call
