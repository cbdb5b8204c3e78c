-- The visit of trees that are laid out so is as its profile says.
use Rattle.std.proofs.Common.{◌≡◌, inl, inr, ℕ, true, false, cond, List, [], ◌∷◌, refl, sym, ap, subst, ◌∙◌, arith}
use Rattle.mix_base.specs.Events.{Event, skip, bind}
use Rattle.mix_tree.specs.Forest.{Forest, none, tree}
use Rattle.mix_tree.specs.Place.{child_place}
use Rattle.path_auto.specs.Automaton.{Machine}
use Rattle.path_auto.specs.Visit.{visit, place_after}
use Rattle.browse_profile.specs.declared.profile.Profile.{Profile}
use Rattle.browse_profile.specs.Costs.{Costs, ends, followed, costs_of}
use Rattle.browse_profile.specs.Fits.{Fits}
use Rattle.browse_visit.specs.Layouts.{Layout, no_trees, a_tree, one_value, any_rows, either, any_trees, IsLaid, IsNone, EachTree, IsBelow}
use Rattle.browse_profile.specs.Profiles.{one_skip, one_binding, in_turn, any_of, repeated}
use Rattle.browse_visit.specs.Visits.{AreSamples, own_profile, tree_profile, visit_profile, profile_below}
use Rattle.browse_profile.proofs.Following.{followed_assoc, costs-append}
use Rattle.browse_profile.proofs.Fitting.{fits_any, fits_in_turn, fits_first, fits_second, fits_unbounded, fits_repeated_none, fits_repeated_more}

module _ (m : Machine) (labels : List (List ℕ)) (samples : AreSamples m labels) where
  -- the events of a visit at a tree and below it, without those after it
  abbrev here : ℕ → List ℕ → Forest → List (Event (List ℕ))
  here q at kids = cond (m.accepts q) (bind at) skip ∷ cond (m.goes_on q) (visit m q (child_place at) kids) []

  -- a visit's event at a tree is as its profile says
  own_fits : (q : ℕ) (at : List ℕ) → Fits (own_profile m q) (costs_of (cond (m.accepts q) (bind at) skip ∷ []))
  own_fits q at =
      elim (m.accepts q) as (λ w. Fits (cond w one_binding one_skip) (costs_of (cond w (bind at) skip ∷ []))) [
        | true ↦ ((omega arith, refl, omega arith), omega arith)
        | false ↦ ((omega arith, refl), omega arith)
      ]

  -- the events at a tree and below it are as their profile says, where those below do
  here_fits : (q : ℕ) (at : List ℕ) (kids : Forest) (below : Profile) → Fits below (costs_of (visit m q (child_place at) kids)) → Fits (tree_profile m q below) (costs_of (here q at kids))
  here_fits q at kids below h =
      elim (m.goes_on q) as (λ w. Fits (cond w (in_turn (own_profile m q) below) (own_profile m q)) (costs_of (cond (m.accepts q) (bind at) skip ∷ cond w (visit m q (child_place at) kids) []))) [
        | true ↦
            subst (Fits (in_turn (own_profile m q) below)) (sym (costs-append (cond (m.accepts q) (bind at) skip ∷ []) (visit m q (child_place at) kids)))
            (fits_in_turn (own_profile m q) below (costs_of (cond (m.accepts q) (bind at) skip ∷ [])) (costs_of (visit m q (child_place at) kids)) (own_fits q at) h)
        | false ↦ own_fits q at
      ]

  -- a visit costs what the events at its first tree and below it cost, and then what those after it do
  tree_costs : (q : ℕ) (at label : List ℕ) (kids rest : Forest)
      → costs_of (visit m q at (tree label kids rest)) ≡ followed (costs_of (here (m.step q label) at kids)) (costs_of (visit m q (place_after at) rest))
  tree_costs q at label kids rest = costs-append (here (m.step q label) at kids) (visit m q (place_after at) rest)

  -- a visit of no trees is one skip
  no_trees_fit : (q : ℕ) (at : List ℕ) (f : Forest) → IsNone f → Fits one_skip (costs_of (visit m q at f))
  no_trees_fit q at none h = ((omega arith, refl), omega arith)
  no_trees_fit q at (tree label kids rest) h = absurd h

  -- the visit of a tree and those after it is as the profiles of both in turn say
  tree_then : (q : ℕ) (at label : List ℕ) (kids rest : Forest) (a b : Profile) → Fits a (costs_of (here (m.step q label) at kids)) → Fits b (costs_of (visit m q (place_after at) rest))
      → Fits (in_turn a b) (costs_of (visit m q at (tree label kids rest)))
  tree_then q at label kids rest a b h k =
      subst (Fits (in_turn a b)) (sym (tree_costs q at label kids rest)) (fits_in_turn a b (costs_of (here (m.step q label) at kids)) (costs_of (visit m q (place_after at) rest)) h k)

  -- rows: any number of them, and then a skip
  rows_fit : (q : ℕ) (label : List ℕ) (P : Forest → Type 0) (a : Profile) → ((at : List ℕ) (kids : Forest) → P kids → Fits a (costs_of (here (m.step q label) at kids)))
      → (at : List ℕ) (f : Forest) → EachTree label P f → (c : Costs) × Fits (repeated a) c × (costs_of (visit m q at f) ≡ followed c (ends 1))
  rows_fit q label P a each at none h = (ends 0, fits_repeated_none a, refl)
  rows_fit q label P a each at (tree l kids rest) h =
      let r = rows_fit q label P a each (place_after at) rest h.2 in
      let c : Costs = costs_of (here (m.step q l) at kids) in (
        followed (costs_of (here (m.step q l) at kids)) r.0,
        fits_repeated_more a c r.0 (subst (λ (z : List ℕ). Fits a (costs_of (here (m.step q z) at kids))) (sym h.0) (each at kids h.1)) r.1,
        tree_costs q at l kids rest ∙ ap (followed c) r.2 ∙ sym (followed_assoc c r.0 (ends 1)),
      )

  -- what is any number of lists and then a skip fits the profile of those in turn
  rows_then : (q : ℕ) (a : Profile) (d : Costs) → (c : Costs) × Fits (repeated a) c × (d ≡ followed c (ends 1)) → Fits (in_turn (repeated a) one_skip) d
  rows_then q a d r = subst (Fits (in_turn (repeated a) one_skip)) (sym r.2) (fits_in_turn (repeated a) one_skip r.0 (ends 1) r.1 ((omega arith, refl), omega arith))

  -- the visit of a leaf of any label is as the profile of a leaf of any of the sample labels says
  value_fits : (q : ℕ) (at label : List ℕ) (kids : Forest) → IsNone kids → Fits (any_of (λ l. tree_profile m (m.step q l) one_skip) labels) (costs_of (here (m.step q label) at kids))
  value_fits q at label kids h =
      let s = samples label in
      fits_any (λ l. tree_profile m (m.step q l) one_skip) labels s.0 (costs_of (here (m.step q label) at kids)) s.1
      (subst (λ (z : ℕ). Fits (tree_profile m z one_skip) (costs_of (here (m.step q label) at kids))) (s.2 q)
      (here_fits (m.step q label) at kids one_skip (no_trees_fit (m.step q label) (child_place at) kids h)))

  -- the visit of trees that are laid out in a way is as the profile of that layout says
  pub visit_fits : (g : Layout) (q : ℕ) (at : List ℕ) (f : Forest) → IsLaid g f → Fits (visit_profile m labels q g) (costs_of (visit m q at f))
  visit_fits no_trees q at f h = no_trees_fit q at f h
  visit_fits (a_tree label kids rest) q at none h = absurd h
  visit_fits (a_tree label kids rest) q at (tree l k r) h =
      tree_then q at l k r (tree_profile m (m.step q label) (visit_profile m labels (m.step q label) kids)) (visit_profile m labels q rest)
      (subst (λ (z : List ℕ). Fits (tree_profile m (m.step q z) (visit_profile m labels (m.step q z) kids)) (costs_of (here (m.step q l) at k))) h.0
      (here_fits (m.step q l) at k (visit_profile m labels (m.step q l) kids) (visit_fits kids (m.step q l) (child_place at) k h.1)))
      (visit_fits rest q (place_after at) r h.2)
  visit_fits one_value q at none h = absurd h
  visit_fits one_value q at (tree l k r) h =
      tree_then q at l k r (any_of (λ l. tree_profile m (m.step q l) one_skip) labels) one_skip (value_fits q at l k h.0) (no_trees_fit q (place_after at) r h.1)
  visit_fits (any_rows label kids) q at f h =
      rows_then q (tree_profile m (m.step q label) (visit_profile m labels (m.step q label) kids)) (costs_of (visit m q at f))
      (rows_fit q label (IsLaid kids) (tree_profile m (m.step q label) (visit_profile m labels (m.step q label) kids))
      (λ p k s. here_fits (m.step q label) p k (visit_profile m labels (m.step q label) kids) (visit_fits kids (m.step q label) (child_place p) k s)) at f h)
  visit_fits (either a b) q at f (inl h) = fits_first (visit_profile m labels q a) (visit_profile m labels q b) (costs_of (visit m q at f)) (visit_fits a q at f h)
  visit_fits (either a b) q at f (inr h) = fits_second (visit_profile m labels q a) (visit_profile m labels q b) (costs_of (visit m q at f)) (visit_fits b q at f h)
  visit_fits any_trees q at f h = fits_unbounded (costs_of (visit m q at f))

  -- the visit below a node with one of some layouts is as their profile says
  pub below_fits : (gs : List Layout) (at : List ℕ) (f : Forest) → IsBelow gs f → Fits (profile_below m labels gs) (costs_of (visit m m.start at f))
  below_fits gs at f h = fits_any (visit_profile m labels m.start) gs h.0 (costs_of (visit m m.start at f)) h.1 (visit_fits h.0 m.start at f h.2)
