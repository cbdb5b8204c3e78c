-- What is promised of visits below nodes whose trees have given layouts.
use Rattle.std.specs.Prelude.{ℕ, List}
use Rattle.mix_tree.specs.Forest.{Forest, first_kids}
use Rattle.mix_tree.specs.Place.{trees_at}
use Rattle.path_expr.specs.Form.{Form}
use Rattle.path_auto.specs.Automaton.{machine_of, table_of}
use Rattle.path_auto.specs.Visit.{visit_below}
use Rattle.plan_core.specs.Beside.{EachBinding}
use Rattle.browse_profile.specs.declared.profile.Profile.{Profile}
use Rattle.browse_profile.specs.Costs.{costs_of}
use Rattle.browse_profile.specs.Fits.{Fits}
use Rattle.browse_visit.specs.Layouts.{Layout, IsBelow}
use Rattle.browse_visit.specs.Samples.{sample_labels}
use Rattle.browse_visit.specs.Visits.{profile_below, layouts_below}

-- the profile of the visit along a path, below nodes that are laid out by one of these
abbrev pub path_profile : Form → List Layout → Profile
path_profile path gs = profile_below (machine_of (table_of path)) (sample_labels (table_of path).labels) gs

-- how the trees below the bindings of a path's visit are laid out, below nodes that are laid out by one of these
abbrev pub path_layouts : Form → List Layout → List Layout
path_layouts path gs = layouts_below (machine_of (table_of path)) (sample_labels (table_of path).labels) gs

-- the visit along a path below a node is as its profile says, and the trees below its bindings are laid out by one of those found
pub record IsVisitAsLaid (path : Form) (gs : List Layout) (whole : Forest) (start : List ℕ) : Type 0 where
  pub fits : Fits (path_profile path gs) (costs_of (visit_below (machine_of (table_of path)) whole start))
  pub kinds : EachBinding (λ place. IsBelow (path_layouts path gs) (first_kids (trees_at whole place))) (visit_below (machine_of (table_of path)) whole start)

-- below each node whose trees are laid out by one of some layouts, each visit is as its profile says, and so are the trees that it finds
abbrev pub VisitsAreAsLaid : Type 0
VisitsAreAsLaid = (path : Form) (gs : List Layout) (whole : Forest) (start : List ℕ) → IsBelow gs (first_kids (trees_at whole start)) → IsVisitAsLaid path gs whole start
