-- What a table's document and its holes mean.
use Rattle.std.specs.Prelude.{◌≡◌, ℕ, ◌+◌, ◌-◌, ◌*◌, ◌^◌, ◌==◌, Bool, true, false, ℤ, pos, negsuc, List, [], ◌∷◌, length, Option, Some, None, IfSome, is_some, unwrap_or, refl}
use Rattle.std.specs.List.{filter}
use Rattle.std.proofs.Common.{ap}
use Rattle.mix_tree.specs.Forest.{Forest, none, alone}
use Rattle.lxp_core.specs.declared.open_tree.HoleId.{HoleId}
use Rattle.lxp_core.specs.Open.{Open}
use Rattle.lxp_core.specs.Fill.{Answers}
use Rattle.mix_catalog.specs.declared.column.Column.{Column}
use Rattle.table_keep.specs.Page.{IsPageOf, first_above, is_above}
use Rattle.table_keep.specs.Rows.{Row}
use Rattle.table_keep.specs.Views.{Declared, TablesView}
use Rattle.row_document.specs.Rows.{name_given, rows_given}
use Rattle.source_document.specs.Meaning.{IsKept, Meaning, over}
use Rattle.mix_catalog.specs.declared.source.SourceKind.{SourceKind}
use Rattle.mix_catalog.specs.declared.source.SourceKind.TheVariants.{Bracket, Csv, Table, Remote, Json, View}
use Rattle.table_wrap.specs.declared.document.TableDoc.{TableDoc}
use Rattle.table_wrap.specs.declared.parts.Part.{Part}
use Rattle.table_wrap.specs.declared.parts.Part.TheVariants.{Name, Rows}
use Rattle.table_wrap.specs.Parts.{hole_of, part_of}
use Rattle.table_wrap.specs.Rows.{row_cells, row_forest, table_tree}

-- how many rows a page of a table's document has at most
abbrev pub chunk_of : TableDoc → ℕ
chunk_of d = d.chunk

-- the name of the source whose document a table's rows are
abbrev pub name_of : TableDoc → List ℕ
name_of d = d.name

-- the columns of a document
abbrev pub columns_of : TableDoc → List Column
columns_of d = d.columns.items

-- the declared table of which a document's rows are asked
abbrev pub declared_of : TableDoc → Declared
declared_of d = record { file = d.file; table = d.table; key = d.key; columns = d.columns.items }

-- whether tables tell a document's rows
abbrev pub told : TablesView → TableDoc → Bool
told v d = is_some (v.told (declared_of d))

-- the rows of a table's document, as tables tell them, and none where they do not
abbrev pub rows_of : TablesView → TableDoc → List Row
rows_of v d = unwrap_or (v.told (declared_of d)) []

-- the trees of a part of a table's document: all of it, or the rows above a key
abbrev pub part_forest : List Row → TableDoc → Option Part → Forest
part_forest rows d None = none
part_forest rows d (Some Name) = alone (table_tree (name_of d) (columns_of d) rows)
part_forest rows d (Some (Rows after)) = row_forest (columns_of d) (filter (λ r. is_above after r.key) rows)

-- how many keys of 64 bits are above a given one; all 2^64 where none is given
abbrev pub room : Option ℤ → ℕ
room None = 2 ^ 64
room (Some (pos n)) = 2 ^ 63 - 1 - n
room (Some (negsuc n)) = 2 ^ 63 + n

-- the most nodes that the tree of a row of a table's document has
abbrev pub row_weight : TableDoc → ℕ
row_weight d = 1 + 2 * length (columns_of d)

-- the weight of a part of a table's document: as many rows as there are keys above its key; the name weighs one more than all rows
abbrev pub part_weight : TableDoc → Option Part → ℕ
part_weight d None = 0
part_weight d (Some Name) = 1 + room None * row_weight d
part_weight d (Some (Rows after)) = room after * row_weight d

-- the key of the last of some rows, or where there is none the key that they were to be above
abbrev pub last_key : Option ℤ → List Row → Option ℤ
last_key after [] = after
last_key after (r ∷ rows) = last_key (Some r.key) rows

-- whether rows may be left after those of a page: these are as many as a page may have
abbrev pub is_full : TableDoc → List Row → Bool
is_full d rows = length rows == chunk_of d

-- the list that a page of rows above a key gives: each row whole, and a hole for the rows above the last key behind a full page
abbrev pub page_given : TableDoc → Option ℤ → List Row → Open
page_given d after rows = rows_given (row_cells (columns_of d)) rows (is_full d rows) (hole_of (Rows (last_key after rows)))

-- rows are the first ones of a document above a key, at most a page of them, where the rows are told
abbrev pub AreFirst : TablesView → TableDoc → Option ℤ → List Row → Type 0
AreFirst v d after rows = IfSome (v.told (declared_of d)) (λ all. rows ≡ first_above after (chunk_of d) all)

-- a list that may answer a part's fill: the name, above a hole for all rows; or a page of rows, and a hole after them exactly where the page is full
abbrev pub IsGiven : TablesView → TableDoc → Option Part → Open → Type 0
IsGiven v d None o = ⊥
IsGiven v d (Some Name) o = o ≡ name_given (name_of d) (hole_of (Rows None))
IsGiven v d (Some (Rows after)) o = (rows : List Row) × IsPageOf after (chunk_of d) (columns_of d) rows × AreFirst v d after rows × (o ≡ page_given d after rows)

-- whether a fill of a part of a table's document asks for a page
abbrev pub asks : Option Part → Bool
asks None = false
asks (Some Name) = false
asks (Some (Rows after)) = true

-- whether a table's document knows a hole
abbrev pub knows : TableDoc → HoleId → Bool
knows d h = is_some (part_of h)

-- the trees that a hole of a table's document stands for
abbrev pub forest : TablesView → TableDoc → HoleId → Forest
forest v d h = part_forest (rows_of v d) d (part_of h)

-- the weight of a hole of a table's document
abbrev pub weight : TableDoc → HoleId → ℕ
weight d h = part_weight d (part_of h)

-- the hole of the root of a table's document
abbrev pub root_hole : TableDoc → HoleId
root_hole d = hole_of Name

-- the whole document of a table
abbrev pub document : TablesView → TableDoc → Forest
document v d = forest v d (root_hole d)

-- a table's document knows the hole of its root
pub root_known : (d : TableDoc) → knows d (root_hole d) ≡ true
root_known d = refl

-- the document of a table is the source's name with the table's rows below it
pub document_is_table : (v : TablesView) (d : TableDoc) → document v d ≡ alone (table_tree (name_of d) (columns_of d) (rows_of v d))
document_is_table v d = refl

-- what a table's document means as a mounted one: its rows are asked of tables
abbrev pub means : TableDoc → Meaning
means d = record {
  root = root_hole d;
  knows = knows d;
  weight = weight d;
  told = λ v. told v d;
  forest = λ v. forest v d;
  table = Some (declared_of d);
  asks = λ h. asks (part_of h);
  rows = chunk_of d;
}

-- where tables keep what every call keeps, a table's document means the same over them
pub means_kept : (d : TableDoc) → IsKept (means d)
means_kept d = record {
  told = λ old new k. ap (λ (rows : Option (List Row)). is_some rows) (k.told (declared_of d));
  forest = λ old new k. ap {B = HoleId → Forest} (λ (rows : Option (List Row)). λ h. part_forest (unwrap_or rows []) d (part_of h)) (k.told (declared_of d));
}

-- a list may be given for a part, and answers a fill of each hole of that part
pub record IsAnswer (v : TablesView) (d : TableDoc) (p : Option Part) (o : Open) : Type 0 where
  pub list : IsGiven v d p o
  pub answers : (h : HoleId) → part_of h ≡ p → Answers (over (means d) v) (over (means d) v) h o

-- whether a source is a table
abbrev pub is_table_of : SourceKind → Bool
is_table_of (Bracket file deep) = false
is_table_of (Csv file columns) = false
is_table_of (Table file table key columns) = true
is_table_of (Remote replies requests number) = false
is_table_of (Json file) = false
is_table_of (View file) = false

-- the table that a source declares, where it is one
abbrev pub declared_in : SourceKind → Option Declared
declared_in (Bracket file deep) = None
declared_in (Csv file columns) = None
declared_in (Table file table key columns) = Some (record { file = file; table = table; key = key; columns = columns })
declared_in (Remote replies requests number) = None
declared_in (Json file) = None
declared_in (View file) = None
