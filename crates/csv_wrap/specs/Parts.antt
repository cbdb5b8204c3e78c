-- What the holes of a CSV document stand for.
use Rattle.std.specs.Prelude.{◌==◌, ◌&&◌, if◌then◌else◌, [], ◌∷◌, Option, Some, None, slice_index}
use Rattle.lxp_core.specs.declared.open_tree.HoleId.{HoleId}
use Rattle.csv_wrap.specs.declared.parts.Part.{Part}
use Rattle.csv_wrap.specs.declared.parts.Part.TheVariants.{Name, RowsFrom}

-- the hole of a part: of which kind it is, and of rows the index of the first
abbrev pub hole_of : Part → HoleId
hole_of Name = record { words = 0 ∷ 0 ∷ 0 ∷ [] }
hole_of (RowsFrom first) = record { words = 1 ∷ first ∷ 0 ∷ [] }

-- the part of a CSV document that a hole stands for, where there is one
abbrev pub part_of : HoleId → Option Part
part_of h =
    if (slice_index h.words 0 == 0) && ((slice_index h.words 1 == 0) && (slice_index h.words 2 == 0)) then Some Name
    else if (slice_index h.words 0 == 1) && (slice_index h.words 2 == 0) then Some (RowsFrom (slice_index h.words 1))
    else None
