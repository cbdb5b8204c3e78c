-- Shapes of sources, and what can stand below their nodes.
use Rattle.std.specs.Prelude.{ℕ, Bool, true, false, ◌||◌, List, [], ◌∷◌, slice_index_or}
use Rattle.browse_visit.specs.declared.shape.Shape.{Shape}
use Rattle.browse_visit.specs.declared.shape.Shape.TheVariants.{Any, Rows}
use Rattle.browse_visit.specs.declared.shape.Sort.{Sort}
use Rattle.browse_visit.specs.declared.shape.Sort.TheVariants.{Document, Root, Row, Value, MaybeValue, Leaf, Anything}
use Rattle.browse_visit.specs.declared.shape.Sorts.{Sorts}
use Rattle.browse_visit.specs.declared.visit.TableColumn.{TableColumn}
use Rattle.browse_visit.specs.Layouts.{Layout, no_trees, a_tree, any_rows, any_trees, value_layout}

-- the layout of the columns of a row
abbrev pub row_of : List TableColumn → Layout
row_of [] = no_trees
row_of (c ∷ cs) = a_tree c.label (value_layout c.has_value) (row_of cs)

-- the label of a row: the word row
abbrev pub row_label : List ℕ
row_label = 114 ∷ 111 ∷ 119 ∷ []

-- the label of a shape's root
abbrev pub name_of : Shape → List ℕ
name_of Any = row_label
name_of (Rows name columns) = name

-- the columns of a shape's rows
abbrev pub columns_of : Shape → List TableColumn
columns_of Any = []
columns_of (Rows name columns) = columns.items

-- how the trees below a node are laid out
abbrev pub sort_layout : Shape → Sort → Layout
sort_layout shape Document = a_tree (name_of shape) (any_rows row_label (row_of (columns_of shape))) no_trees
sort_layout shape Root = any_rows row_label (row_of (columns_of shape))
sort_layout shape Row = row_of (columns_of shape)
sort_layout shape Value = value_layout true
sort_layout shape MaybeValue = value_layout false
sort_layout shape Leaf = no_trees
sort_layout shape Anything = any_trees

-- what stands below a document node
abbrev pub first_sort : Shape → Sort
first_sort Any = Anything
first_sort (Rows name columns) = Document

-- how a document is laid out
abbrev pub shape_layout : Shape → Layout
shape_layout shape = sort_layout shape (first_sort shape)

-- the shape of a source by its number; past the end nothing is known of it
abbrev pub shape_at : List Shape → ℕ → Shape
shape_at shapes s = slice_index_or shapes s Any

-- how the documents of the sources are laid out
abbrev pub shapes_of : List Shape → ℕ → Layout
shapes_of shapes s = shape_layout (shape_at shapes s)

-- whether a sort is in a set
abbrev pub has_sort : Sorts → Sort → Bool
has_sort k Document = k.document
has_sort k Root = k.root
has_sort k Row = k.row
has_sort k Value = k.value
has_sort k MaybeValue = k.maybe_value
has_sort k Leaf = k.leaf
has_sort k Anything = k.anything

-- the set of no sorts
abbrev pub no_sorts : Sorts
no_sorts = record { document = false; root = false; row = false; value = false; maybe_value = false; leaf = false; anything = false }

-- the set of one sort alone
abbrev pub only : Sort → Sorts
only Document = record { document = true; root = false; row = false; value = false; maybe_value = false; leaf = false; anything = false }
only Root = record { document = false; root = true; row = false; value = false; maybe_value = false; leaf = false; anything = false }
only Row = record { document = false; root = false; row = true; value = false; maybe_value = false; leaf = false; anything = false }
only Value = record { document = false; root = false; row = false; value = true; maybe_value = false; leaf = false; anything = false }
only MaybeValue = record { document = false; root = false; row = false; value = false; maybe_value = true; leaf = false; anything = false }
only Leaf = record { document = false; root = false; row = false; value = false; maybe_value = false; leaf = true; anything = false }
only Anything = record { document = false; root = false; row = false; value = false; maybe_value = false; leaf = false; anything = true }

-- the set of the sorts of either of two sets
abbrev pub both : Sorts → Sorts → Sorts
both a b = record {
  document = a.document || b.document;
  root = a.root || b.root;
  row = a.row || b.row;
  value = a.value || b.value;
  maybe_value = a.maybe_value || b.maybe_value;
  leaf = a.leaf || b.leaf;
  anything = a.anything || b.anything;
}

-- the list of all sorts, each once
abbrev pub all_sorts : List Sort
all_sorts = Document ∷ Root ∷ Row ∷ Value ∷ MaybeValue ∷ Leaf ∷ Anything ∷ []
