-- The class of the view of many people.
use Rattle.std.specs.Prelude.{ℕ, zero, suc, map, codes}
use Rattle.browse_class.specs.declared.class.Class.{Class}
use Rattle.browse_class.specs.Classes.{class_in}
use Rattle.browse_visit.specs.Layouts.{Layout, any_trees}
use Rattle.plan_rewrite.specs.Rewritten.{operators_for}
use Rattle.view_class.specs.Layouts.{field_column, rows_layout}
use Rattle.mix_load.specs.People.{people_columns}
use Rattle.mix_load.specs.View.{names_rule}

-- the document of people is laid out by the columns of their file
abbrev pub people_rows : Layout
people_rows = rows_layout (codes "people") (map field_column people_columns)

-- the layouts of the sources of `load`: that of people for the only source
abbrev pub people_layout : ℕ → Layout
people_layout zero = people_rows
people_layout (suc s) = any_trees

-- the class of the view of people's names
abbrev pub names_class : Class
names_class = class_in people_layout (operators_for names_rule)
