-- Which paths of a plan match nothing, whatever documents of given shapes its sources have.
use Rattle.std.specs.Prelude.{ℕ, zero, suc, Bool, true, false, cond, List, [], ◌∷◌, ◌++◌, length}
use Rattle.std.specs.List.{list_any}
use Rattle.path_expr.specs.Form.{Form}
use Rattle.plan_core.specs.Plans.{Operator}
use Rattle.plan_core.specs.Shapes.{Shape, one_source, visits_below, pairs_up, passes_on, no_events, shape_at}
use Rattle.browse_visit.specs.declared.shape.Shape.{Shape as SourceShape}
use Rattle.browse_visit.specs.declared.shape.Sorts.{Sorts}
use Rattle.browse_visit.specs.Laid.{path_layouts}
use Rattle.browse_visit.specs.Layouts.{Layout}
use Rattle.browse_visit.specs.Shapes.{shapes_of, has_sort, all_sorts}
use Rattle.browse_class.specs.Facts.{facts}
use Rattle.plan_class.specs.Agree.{known_below}
use Rattle.plan_class.specs.Known.{domain_of}
use Rattle.unsatisfiable_paths.specs.declared.domains.NodeDomain.{NodeDomain}
use Rattle.unsatisfiable_paths.specs.declared.path.UnsatisfiablePath.{UnsatisfiablePath}
use Rattle.unsatisfiable_paths.specs.NodeDomains.{nodes_of}

-- whether a set has any sort
abbrev pub has_any : Sorts → Bool
has_any k = list_any (has_sort k) all_sorts

-- whether there are no layouts
abbrev pub no_layouts : List Layout → Bool
no_layouts [] = true
no_layouts (g ∷ gs) = false

-- whether the visit along a path finds nothing below nodes whose trees are laid out by one of these
abbrev pub finds_nothing : Form → List Layout → Bool
finds_nothing path gs = no_layouts (path_layouts path gs)

-- the operator of a number, with where its path starts
abbrev pub starting : ℕ → NodeDomain → UnsatisfiablePath
starting n from = record { op = n; source = from.source; from = from.sorts }

-- what is said of the first n operators, one after another, each by its number and shape
abbrev pub of_each : {X : Type 0} → (ℕ → Shape → List X) → List Operator → ℕ → List X
of_each say ops zero = []
of_each say ops (suc n) = of_each say ops n ++ say n (shape_at ops n)

-- where the nodes of a plan's variable can lie
abbrev pub plan_nodes : List SourceShape → List Operator → ℕ → NodeDomain
plan_nodes shapes ops v = nodes_of (domain_of (known_below shapes ops (length ops)) v)

-- a shape's path, where it finds nothing below the nodes that its start can be
abbrev pub unsatisfiable_at : List SourceShape → List Operator → ℕ → Shape → List UnsatisfiablePath
unsatisfiable_at shapes ops n (one_source s out) = []
unsatisfiable_at shapes ops n (visits_below input start path out) =
    cond (finds_nothing path ((facts (shapes_of shapes) ops input).layouts start)) (starting n (plan_nodes shapes ops start) ∷ []) []
unsatisfiable_at shapes ops n (pairs_up left right tests) = []
unsatisfiable_at shapes ops n (passes_on input stage) = []
unsatisfiable_at shapes ops n (no_events input made) = []

-- the paths of a plan that match nothing over sources of these shapes, in the order of their operators
abbrev pub unsatisfiable_in : List SourceShape → List Operator → List UnsatisfiablePath
unsatisfiable_in shapes ops = of_each (unsatisfiable_at shapes ops) ops (length ops)

-- a shape's path, where its variable has no nodes
abbrev pub found_nothing : (ℕ → NodeDomain) → ℕ → Shape → List UnsatisfiablePath
found_nothing nodes n (one_source s out) = []
found_nothing nodes n (visits_below input start path out) = cond (has_any (nodes out).sorts) [] (starting n (nodes start) ∷ [])
found_nothing nodes n (pairs_up left right tests) = []
found_nothing nodes n (passes_on input stage) = []
found_nothing nodes n (no_events input made) = []
