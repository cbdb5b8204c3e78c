-- What a CSV document and its holes mean.
use Rattle.std.specs.Prelude.{◌≡◌, ℕ, ◌+◌, Bool, true, false, nat_le, nat_lt, List, take, drop, length, Option, Some, None, refl}
use Rattle.mix_tree.specs.Forest.{Forest, none, alone}
use Rattle.mix_tree.specs.Weight.{nodes_of}
use Rattle.lxp_core.specs.declared.open_tree.HoleId.{HoleId}
use Rattle.lxp_core.specs.Open.{Open, nil}
use Rattle.row_document.specs.Rows.{name_given, rows_given}
use Rattle.source_document.specs.Meaning.{IsKept, Meaning, in_memory, in_memory_kept}
use Rattle.csv_wrap.specs.declared.document.CsvDoc.{CsvDoc}
use Rattle.csv_wrap.specs.declared.parts.Part.{Part}
use Rattle.csv_wrap.specs.declared.parts.Part.TheVariants.{Name, RowsFrom}
use Rattle.csv_wrap.specs.Parts.{hole_of, part_of}
use Rattle.csv_wrap.specs.Rows.{cells, file_tree, row_forest}
use Rattle.csv_wrap.specs.Table.{rows_in}

-- how many rows a list that a CSV document gives has at most
abbrev pub chunk_of : CsvDoc → ℕ
chunk_of d = d.chunk

-- the columns of a CSV document
abbrev pub columns_of : CsvDoc → List (List ℕ)
columns_of d = d.columns.items

-- the rows of a CSV document
abbrev pub rows_of : CsvDoc → List (List (List ℕ))
rows_of d = rows_in (length d.columns.items) d.table

-- whether a CSV document has a part: its name, or its rows from an index on that is at most their number
abbrev pub has_part : CsvDoc → Option Part → Bool
has_part d None = false
has_part d (Some Name) = true
has_part d (Some (RowsFrom first)) = nat_le first (length (rows_of d))

-- the trees of a part of a CSV document: all of it, or the rows from one on
abbrev pub part_forest : CsvDoc → Option Part → Forest
part_forest d None = none
part_forest d (Some Name) = alone (file_tree d.name (columns_of d) (rows_of d))
part_forest d (Some (RowsFrom first)) = row_forest (columns_of d) (drop first (rows_of d))

-- whether a CSV document has rows from an index on
abbrev pub has_more : CsvDoc → ℕ → Bool
has_more d first = nat_lt first (length (rows_of d))

-- the list that answers a part's fill: the name, above a hole for all rows; or the next rows, at most a chunk, and a hole after them where more remain
abbrev pub part_given : CsvDoc → Option Part → Open
part_given d None = nil
part_given d (Some Name) = name_given d.name (hole_of (RowsFrom 0))
part_given d (Some (RowsFrom first)) =
    rows_given (cells (columns_of d)) (take d.chunk (drop first (rows_of d))) (has_more d (first + d.chunk)) (hole_of (RowsFrom (first + d.chunk)))

-- whether a CSV document knows a hole
abbrev pub knows : CsvDoc → HoleId → Bool
knows d h = has_part d (part_of h)

-- the trees that a hole of a CSV document stands for
abbrev pub forest : CsvDoc → HoleId → Forest
forest d h = part_forest d (part_of h)

-- the weight of a hole of a CSV document: the number of nodes that it stands for
abbrev pub weight : CsvDoc → HoleId → ℕ
weight d h = nodes_of (forest d h)

-- the hole of the root of a CSV document
abbrev pub root_hole : CsvDoc → HoleId
root_hole d = hole_of Name

-- the whole document of a CSV file
abbrev pub document : CsvDoc → Forest
document d = forest d (root_hole d)

-- the list that answers a fill of a hole of a CSV document
abbrev pub given : CsvDoc → HoleId → Open
given d h = part_given d (part_of h)

-- a CSV document knows the hole of its root
pub root_known : (d : CsvDoc) → knows d (root_hole d) ≡ true
root_known d = refl

-- what a CSV document means as a mounted one: it lies in memory
abbrev pub means : CsvDoc → Meaning
means d = in_memory (root_hole d) (knows d) (weight d) (forest d)

-- a CSV document means the same over all tables
pub means_kept : (d : CsvDoc) → IsKept (means d)
means_kept d = in_memory_kept (root_hole d) (knows d) (weight d) (forest d)
