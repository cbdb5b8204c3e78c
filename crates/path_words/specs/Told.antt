-- What is said of the paths of a plan that lead nowhere.
use Rattle.std.specs.Prelude.{ℕ, Bool, ◌||◌, cond, List, [], ◌++◌, Option, Some, None, slice_get, codes}
use Rattle.browse_visit.specs.Shapes.{shape_at}
use Rattle.browse_visit.specs.declared.shape.Shape.{Shape}
use Rattle.browse_visit.specs.declared.shape.Sorts.{Sorts}
use Rattle.path_expr.specs.Canonical.{canon}
use Rattle.path_expr.specs.Form.{Form}
use Rattle.plan_core.specs.declared.plan.Op.{Op}
use Rattle.plan_core.specs.declared.plan.Op.TheVariants.{GetDescendants}
use Rattle.plan_core.specs.declared.plan.Plan.{Plan}
use Rattle.unsatisfiable_paths.specs.declared.path.UnsatisfiablePath.{UnsatisfiablePath}
use Rattle.path_words.specs.Leads.{lead_lines, lead_text}

-- a source by its name
abbrev pub source_text : Option (List ℕ) → List ℕ
source_text None = []
source_text (Some name) = name

-- what the nodes of sorts are
abbrev pub start_text : Sorts → List ℕ
start_text k =
    cond k.document (codes "the document")
    (cond k.root (codes "the root") (cond k.row (codes "a row") (cond (k.value || k.maybe_value) (codes "a column") (codes "a value"))))

-- there may be nodes of some sort
abbrev pub has_nodes : Sorts → Bool
has_nodes k = k.document || (k.root || (k.row || (k.value || (k.maybe_value || k.leaf))))

-- from where in a source of a name a path leads nowhere
abbrev pub nowhere_text : Sorts → Option (List ℕ) → List ℕ
nowhere_text k source = codes " leads nowhere from " ++ start_text k ++ codes " of " ++ source_text source

-- how a path fails: from where in a source of a name it leads nowhere, or that there is no node from which it could lead
abbrev pub fails_text : Sorts → Option (List ℕ) → List ℕ
fails_text k source = cond (has_nodes k) (nowhere_text k source) (codes " begins at a variable that has no value")

-- the line that says that the path of a variable leads nowhere: which path, and from where, over sources of given names
abbrev pub head_line : List (List ℕ) → UnsatisfiablePath → Form → List ℕ → List ℕ
head_line sources x path name =
    codes "no value for $" ++ name ++ codes ": the path " ++ canon path ++ fails_text x.from (slice_get sources x.source) ++ codes "\n"

-- where paths lead, where there are nodes from which they could
abbrev pub leads_said : Shape → Sorts → List ℕ
leads_said shape from = cond (has_nodes from) (lead_text (lead_lines shape from)) []

-- what is said of a variable's path that leads nowhere: which it is, and what is there; of a variable that the view doesn't name nothing is said, since
-- such a one repeats a named one's path
abbrev pub path_said : Shape → List (List ℕ) → UnsatisfiablePath → Form → Option (List ℕ) → List ℕ
path_said shape sources x path None = []
path_said shape sources x path (Some name) = head_line sources x path name ++ leads_said shape x.from

-- what is said of an operator whose path leads nowhere
abbrev pub op_said : Shape → Plan → UnsatisfiablePath → Option Op → List ℕ
op_said shape plan x (Some (GetDescendants input start path out)) = path_said shape plan.sources.items x path (slice_get plan.names.items out)
op_said shape plan x o = []

-- what is said of a path of a plan that leads nowhere, over sources of these shapes
abbrev pub path_lines : List Shape → Plan → UnsatisfiablePath → List ℕ
path_lines shapes plan x = op_said (shape_at shapes x.source) plan x (slice_get plan.ops.items x.op)
