-- Where paths lead from nodes of given sorts.
use Rattle.std.specs.Prelude.{ℕ, Bool, ◌||◌, cond, List, [], ◌∷◌, ◌++◌, codes}
use Rattle.std.specs.List.{flat_map}
use Rattle.browse_visit.specs.declared.shape.Shape.{Shape}
use Rattle.browse_visit.specs.declared.shape.Shape.TheVariants.{Any, Rows}
use Rattle.browse_visit.specs.declared.shape.Sorts.{Sorts}
use Rattle.browse_visit.specs.declared.visit.TableColumn.{TableColumn}
use Rattle.path_expr.specs.Canonical.{canon_label}

-- the line of the path to a column's value, after a path before it
abbrev pub column_line : List ℕ → TableColumn → List ℕ
column_line front c = codes "  " ++ front ++ canon_label c.label ++ codes "._\n"

-- the lines of the paths to the values of columns, where there are nodes from which they lead
abbrev pub columns_if : Bool → List ℕ → List TableColumn → List ℕ
columns_if has_nodes front columns = cond has_nodes (flat_map (column_line front) columns) []

-- the line of the path to a value, where there are columns from which it leads
abbrev pub value_if : Bool → List ℕ
value_if has_columns = cond has_columns (codes "  _\n") []

-- the lines of the longest paths that lead from nodes of these sorts of a source with rows
abbrev pub lead_lines_in : List ℕ → List TableColumn → Sorts → List ℕ
lead_lines_in name columns from =
    columns_if from.document (canon_label name ++ codes ".row.") columns ++ columns_if from.root (codes "row.") columns ++ columns_if from.row [] columns
    ++ value_if (from.value || from.maybe_value)

-- the lines of the longest paths that lead from nodes of these sorts of a source of a shape
abbrev pub lead_lines : Shape → Sorts → List ℕ
lead_lines Any from = []
lead_lines (Rows name columns) from = lead_lines_in name columns.items from

-- what is said of where paths lead: their lines after a heading, or that none leads anywhere
abbrev pub lead_text : List ℕ → List ℕ
lead_text [] = codes "from there no path leads anywhere\n"
lead_text (b ∷ lines) = codes "from there lead these paths, and what they begin with:\n" ++ b ∷ lines
