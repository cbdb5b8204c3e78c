-- What a visit along a path can cost, by how the trees below its start are laid out, and how those below its bindings are.
use Rattle.std.specs.Prelude.{◌≡◌, ℕ, cond, List, [], ◌∷◌, ◌++◌}
use Rattle.std.specs.List.{flat_map, list_any}
use Rattle.mix_base.specs.Ascents.{Among}
use Rattle.path_auto.specs.Automaton.{Machine}
use Rattle.browse_profile.specs.declared.profile.Profile.{Profile}
use Rattle.browse_visit.specs.Layouts.{Layout, no_trees, a_tree, one_value, any_rows, either, any_trees}
use Rattle.browse_profile.specs.Profiles.{one_skip, one_binding, unbounded, in_turn, one_of, any_of, repeated}

-- labels that stand for all: of each label, one of them is the same to the automaton
abbrev pub AreSamples : Machine → List (List ℕ) → Type 0
AreSamples m labels = (l : List ℕ) → (x : List ℕ) × Among x labels × ((q : ℕ) → m.step q l ≡ m.step q x)

-- the profile of a visit's event at a tree, from the states after its label
abbrev pub own_profile : Machine → ℕ → Profile
own_profile m q = cond (m.accepts q) one_binding one_skip

-- the profile of the events at a tree and below it, from the states after its label
abbrev pub tree_profile : Machine → ℕ → Profile → Profile
tree_profile m q below = cond (m.goes_on q) (in_turn (own_profile m q) below) (own_profile m q)

-- the profile of the visit of a list of trees, from the states above them, with the skip at its end
abbrev pub visit_profile : Machine → List (List ℕ) → ℕ → Layout → Profile
visit_profile m labels q no_trees = one_skip
visit_profile m labels q (a_tree label kids rest) = in_turn (tree_profile m (m.step q label) (visit_profile m labels (m.step q label) kids)) (visit_profile m labels q rest)
visit_profile m labels q one_value = in_turn (any_of (λ l. tree_profile m (m.step q l) one_skip) labels) one_skip
visit_profile m labels q (any_rows label kids) = in_turn (repeated (tree_profile m (m.step q label) (visit_profile m labels (m.step q label) kids))) one_skip
visit_profile m labels q (either a b) = one_of (visit_profile m labels q a) (visit_profile m labels q b)
visit_profile m labels q any_trees = unbounded

-- how the trees below the bindings of a visit are laid out, by the layout of the trees visited and the states above them
abbrev pub layouts_found : Machine → List (List ℕ) → ℕ → Layout → List Layout
layouts_found m labels q no_trees = []
layouts_found m labels q (a_tree label kids rest) =
    cond (m.accepts (m.step q label)) (kids ∷ []) []
    ++ (cond (m.goes_on (m.step q label)) (layouts_found m labels (m.step q label) kids) [] ++ layouts_found m labels q rest)
layouts_found m labels q one_value = cond (list_any (λ l. m.accepts (m.step q l)) labels) (no_trees ∷ []) []
layouts_found m labels q (any_rows label kids) =
    cond (m.accepts (m.step q label)) (kids ∷ []) [] ++ cond (m.goes_on (m.step q label)) (layouts_found m labels (m.step q label) kids) []
layouts_found m labels q (either a b) = layouts_found m labels q a ++ layouts_found m labels q b
layouts_found m labels q any_trees = any_trees ∷ []

-- the profile of the visit below a node below which the trees are laid out by one of these
abbrev pub profile_below : Machine → List (List ℕ) → List Layout → Profile
profile_below m labels gs = any_of (visit_profile m labels m.start) gs

-- how the trees below the bindings of a visit below a node are laid out, by the layouts below that node
abbrev pub layouts_below : Machine → List (List ℕ) → List Layout → List Layout
layouts_below m labels gs = flat_map (layouts_found m labels m.start) gs
