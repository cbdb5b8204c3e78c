-- The sorts at which a path accepts, and the profile of its visit, as sets of sorts.
use Rattle.std.specs.Prelude.{ℕ, Bool, cond, List, [], ◌∷◌, Option, Some, None}
use Rattle.std.specs.List.{list_any}
use Rattle.path_auto.specs.Automaton.{Machine}
use Rattle.browse_profile.specs.declared.profile.Profile.{Profile}
use Rattle.browse_visit.specs.declared.shape.Shape.{Shape}
use Rattle.browse_visit.specs.declared.shape.Sort.{Sort}
use Rattle.browse_visit.specs.declared.shape.Sort.TheVariants.{Document, Root, Row, Value, MaybeValue, Leaf, Anything}
use Rattle.browse_visit.specs.declared.shape.Sorts.{Sorts}
use Rattle.browse_visit.specs.declared.visit.TableColumn.{TableColumn}
use Rattle.browse_profile.specs.Profiles.{one_skip, one_of}
use Rattle.browse_visit.specs.Shapes.{row_label, name_of, columns_of, sort_layout, has_sort, no_sorts, only, both, all_sorts}
use Rattle.browse_visit.specs.Visits.{visit_profile}

-- a set of sorts where it is taken, else no sort
abbrev pub if_taken : Bool → Sorts → Sorts
if_taken can k = cond can k no_sorts

-- the sorts that a visit finds at a tree: the tree's own sort where it is accepted, and those below it where the visit goes on
abbrev pub tree_found : Machine → ℕ → Sort → Sorts → Sorts
tree_found m q own below = both (if_taken (m.accepts q) (only own)) (if_taken (m.goes_on q) below)

-- the sorts that a visit finds at a value, from the states above it
abbrev pub value_found : Machine → List (List ℕ) → ℕ → Sorts
value_found m labels q = if_taken (list_any (λ l. m.accepts (m.step q l)) labels) (only Leaf)

-- what stands below a column
abbrev pub value_sort : Bool → Sort
value_sort has = cond has Value MaybeValue

-- the sorts that a visit finds at the columns of a row, from the states above them
abbrev pub row_found : Machine → List (List ℕ) → ℕ → List TableColumn → Sorts
row_found m labels q [] = no_sorts
row_found m labels q (c ∷ cs) = both (tree_found m (m.step q c.label) (value_sort c.has_value) (value_found m labels (m.step q c.label))) (row_found m labels q cs)

-- the sorts that a visit finds at rows, from the states above them
abbrev pub root_found : Machine → List (List ℕ) → ℕ → Shape → Sorts
root_found m labels q shape = tree_found m (m.step q row_label) Row (row_found m labels (m.step q row_label) (columns_of shape))

-- the sorts that a visit finds at the root, from the states above it
abbrev pub document_found : Machine → List (List ℕ) → ℕ → Shape → Sorts
document_found m labels q shape = tree_found m (m.step q (name_of shape)) Root (root_found m labels (m.step q (name_of shape)) shape)

-- the sorts that a visit finds below a node of a sort
abbrev pub sort_found : Machine → List (List ℕ) → Shape → Sort → Sorts
sort_found m labels shape Document = document_found m labels m.start shape
sort_found m labels shape Root = root_found m labels m.start shape
sort_found m labels shape Row = row_found m labels m.start (columns_of shape)
sort_found m labels shape Value = value_found m labels m.start
sort_found m labels shape MaybeValue = value_found m labels m.start
sort_found m labels shape Leaf = no_sorts
sort_found m labels shape Anything = only Anything

-- the sorts that a visit finds below nodes of a set's sorts among some, after those found so far
abbrev pub found_from : Machine → List (List ℕ) → Shape → Sorts → Sorts → List Sort → Sorts
found_from m labels shape k before [] = before
found_from m labels shape k before (s ∷ ss) = found_from m labels shape k (both before (if_taken (has_sort k s) (sort_found m labels shape s))) ss

-- the sorts that a visit finds below nodes of a set
abbrev pub sorts_found : Machine → List (List ℕ) → Shape → Sorts → Sorts
sorts_found m labels shape k = found_from m labels shape k no_sorts all_sorts

-- the profile of one list or another: of one of those so far, or of one more
abbrev pub or_profile : Option Profile → Profile → Profile
or_profile None p = p
or_profile (Some a) p = one_of a p

-- the profile so far, or of one list more where it can be
abbrev pub with_profile : Option Profile → Bool → Profile → Option Profile
with_profile found can p = cond can (Some (or_profile found p)) found

-- the profile, a skip where there is none
abbrev pub the_profile : Option Profile → Profile
the_profile None = one_skip
the_profile (Some p) = p

-- the profile of the visit below a node of a sort
abbrev pub sort_profile : Machine → List (List ℕ) → Shape → Sort → Profile
sort_profile m labels shape s = visit_profile m labels m.start (sort_layout shape s)

-- the profile of the visits below a node of each sort of a set, after those so far
abbrev pub profiles_from : Machine → List (List ℕ) → Shape → Sorts → Option Profile → List Sort → Option Profile
profiles_from m labels shape k found [] = found
profiles_from m labels shape k found (s ∷ ss) = profiles_from m labels shape k (with_profile found (has_sort k s) (sort_profile m labels shape s)) ss

-- the profile of the visit below nodes of a set
abbrev pub sorts_profile : Machine → List (List ℕ) → Shape → Sorts → Profile
sorts_profile m labels shape k = the_profile (profiles_from m labels shape k None all_sorts)
