-- What the holes of a table's document stand for.
use Rattle.std.specs.Prelude.{◌==◌, ◌&&◌, if◌then◌else◌, [], ◌∷◌, Option, Some, None, slice_index}
use Rattle.std.specs.Int.{cast_signed, cast_unsigned, w64}
use Rattle.lxp_core.specs.declared.open_tree.HoleId.{HoleId}
use Rattle.table_wrap.specs.declared.parts.Part.{Part}
use Rattle.table_wrap.specs.declared.parts.Part.TheVariants.{Name, Rows}

-- the hole of a part: of which kind it is, and of rows above a key the key's 64 bits
abbrev pub hole_of : Part → HoleId
hole_of Name = record { words = 0 ∷ 0 ∷ 0 ∷ [] }
hole_of (Rows None) = record { words = 1 ∷ 0 ∷ 0 ∷ [] }
hole_of (Rows (Some key)) = record { words = 2 ∷ cast_unsigned w64 key ∷ 0 ∷ [] }

-- the part of a table's document that a hole stands for, where there is one
abbrev pub part_of : HoleId → Option Part
part_of h =
    if slice_index h.words 2 == 0 then
    (if (slice_index h.words 0 == 0) && (slice_index h.words 1 == 0) then Some Name
    else if (slice_index h.words 0 == 1) && (slice_index h.words 1 == 0) then Some (Rows None)
    else if slice_index h.words 0 == 2 then Some (Rows (Some (cast_signed w64 (slice_index h.words 1))))
    else None)
    else None
