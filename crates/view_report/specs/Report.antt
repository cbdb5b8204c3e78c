-- What an accepted view comes to, in words.
use Rattle.std.specs.Prelude.{◌≡◌, ℕ, List, ◌++◌, length, codes}
use Rattle.std.specs.List.{flat_map}
use Rattle.browse_class.specs.Classes.{class_in}
use Rattle.browse_class.specs.declared.class.Class.{Class}
use Rattle.browse_class.specs.declared.class.Class.TheVariants.{Bounded, Browsable, Unbrowsable}
use Rattle.browse_visit.specs.Shapes.{shapes_of}
use Rattle.browse_visit.specs.declared.shape.Shape.{Shape}
use Rattle.mix_catalog.specs.declared.source.SourceSpec.{SourceSpec}
use Rattle.plan_core.specs.PlanMade.{plan_value}
use Rattle.plan_core.specs.declared.plan.Plan.{Plan}
use Rattle.unsatisfiable_paths.specs.Unsatisfiable.{unsatisfiable_in}
use Rattle.view_class.specs.Layouts.{layout_in}
use Rattle.view_class.specs.Lines.{class_line}
use Rattle.view_class.specs.Reads.{reads_source}
use Rattle.list_costs.specs.Told.{TellsLists}
use Rattle.path_words.specs.Told.{path_lines}
use Rattle.view_report.specs.Sources.{source_lines}

-- what a class says of steps
abbrev pub meaning_of : Class → List ℕ
meaning_of (Bounded most) = codes "no step down or right asks for more pieces than this, where tables hold what the catalog says of them\n"
meaning_of Browsable = codes "no number is known: a step goes on until it finds its node, and may have to pass over any number of others\n"
meaning_of Unbrowsable = codes "a list is sorted by ORDER BY, so that its first step needs the whole of it\n"

-- the line of a class, and what it says of steps
abbrev pub class_words : Class → List ℕ
class_words class = class_line class ++ meaning_of class

-- what is said of the paths of a plan that lead nowhere, over sources of these shapes
abbrev pub paths_said : List Shape → Plan → List ℕ
paths_said shapes plan = flat_map (path_lines shapes plan) (unsatisfiable_in shapes (plan_value plan).ops)

-- lines report a plan over the sources of a catalog: its paths that lead nowhere over documents laid out as the catalog says, its class, what steps in each
-- list of its answer cost at most by what the class is computed from, and how the sources are read that it reads
pub record Reports (sources : List SourceSpec) (plan : Plan) (lines : List ℕ) : Type 0 where
  pub shapes : List Shape
  pub laid : shapes_of shapes ≡ layout_in sources
  pub lists : List ℕ
  pub costs : TellsLists shapes plan lists
  pub lines_are : lines ≡ paths_said shapes plan ++ class_words (class_in (layout_in sources) (plan_value plan).ops) ++ lists
      ++ source_lines (reads_source (plan_value plan).ops) sources (length sources)
