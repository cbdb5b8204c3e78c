-- How the documents of a catalog's sources are laid out.
use Rattle.std.specs.Prelude.{ℕ, true, List, map, Option, Some, None, slice_get}
use Rattle.mix_catalog.specs.declared.column.Column.{Column}
use Rattle.mix_catalog.specs.declared.source.SourceKind.{SourceKind}
use Rattle.mix_catalog.specs.declared.source.SourceKind.TheVariants.{Bracket, Csv, Table, Remote, Json, View}
use Rattle.mix_catalog.specs.declared.source.SourceSpec.{SourceSpec}
use Rattle.browse_visit.specs.declared.visit.TableColumn.{TableColumn}
use Rattle.browse_visit.specs.Layouts.{Layout, no_trees, a_tree, any_rows, any_trees}
use Rattle.browse_visit.specs.Shapes.{row_label, row_of}

-- a column of a CSV file: each row has a value in it, be it the empty text
abbrev pub field_column : List ℕ → TableColumn
field_column name = record { label = name; has_value = true }

-- a column of a table: each row has a value in it where it is never NULL
abbrev pub declared_column : Column → TableColumn
declared_column column = record { label = column.name; has_value = column.never_null }

-- the layout of a root of this name, and below it any number of rows with these columns
abbrev pub rows_layout : List ℕ → List TableColumn → Layout
rows_layout name columns = a_tree name (any_rows row_label (row_of columns)) no_trees

-- how the documents of a source of this name and kind are laid out: of bracket text, of a source of another machine and of a view, nothing is known
abbrev pub kind_layout : List ℕ → SourceKind → Layout
kind_layout name (Bracket file deep) = any_trees
kind_layout name (Csv file columns) = rows_layout name (map field_column columns)
kind_layout name (Table file table key columns) = rows_layout name (map declared_column columns)
kind_layout name (Remote replies requests number) = any_trees
kind_layout name (Json file) = any_trees
kind_layout name (View file) = any_trees

-- how the documents of a source are laid out
abbrev pub spec_layout : SourceSpec → Layout
spec_layout spec = kind_layout spec.name spec.kind

-- how the documents of a source are laid out, where there is one; of none nothing is known
abbrev pub layout_there : Option SourceSpec → Layout
layout_there None = any_trees
layout_there (Some spec) = spec_layout spec

-- how the documents of the source of a number in a catalog are laid out; of a number that no source has nothing is known
abbrev pub layout_in : List SourceSpec → ℕ → Layout
layout_in sources s = layout_there (slice_get sources s)
