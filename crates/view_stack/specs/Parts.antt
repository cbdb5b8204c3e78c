-- What the holes of a view stand for, and what they weigh.
use Rattle.std.specs.Prelude.{ℕ, zero, suc, ◌+◌, ◌-◌, ◌^◌, ◌==◌, ◌&&◌, if◌then◌else◌, [], ◌∷◌, Option, Some, None, slice_index}
use Rattle.lxp_core.specs.declared.open_tree.HoleId.{HoleId}
use Rattle.view_stack.specs.declared.part.Part.{Part}
use Rattle.view_stack.specs.declared.part.Part.TheVariants.{Whole, Below, After}

-- the hole of a part: of which kind it is, and the number of its node
abbrev pub hole_of : Part → HoleId
hole_of Whole = record { words = 0 ∷ 0 ∷ 0 ∷ [] }
hole_of (Below n) = record { words = 1 ∷ n ∷ 0 ∷ [] }
hole_of (After n) = record { words = 2 ∷ n ∷ 0 ∷ [] }

-- the part whose hole this is, where it is the hole of one
abbrev pub part_of : HoleId → Option Part
part_of h =
    if slice_index h.words 2 == 0 then
    (if (slice_index h.words 0 == 0) && (slice_index h.words 1 == 0) then Some Whole
    else if slice_index h.words 0 == 1 then Some (Below (slice_index h.words 1))
    else if slice_index h.words 0 == 2 then Some (After (slice_index h.words 1))
    else None)
    else None

-- how many nodes a tree with this many levels has in which each node has two below it
unfoldable pub full : ℕ → ℕ
full zero = 0
full (suc n) = suc (full n + full n)

-- a number above those of all nodes that are served
unfoldable pub end : ℕ
end = 2 ^ 64

-- the weight of a part; whatever is served later has a greater number, and so it weighs less than half
abbrev pub weight : Part → ℕ
weight Whole = full end
weight (Below n) = full (end - suc n)
weight (After n) = full (end - suc n)
