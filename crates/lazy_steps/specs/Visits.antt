-- What the calls of one visit come to.
use Rattle.std.specs.Prelude.{◌≡◌, ℕ, suc, [], List, Option, MatchOption, Result, IfOk}
use Rattle.std.specs.declared.alloc.Global.{Global}
use Rattle.std.specs.declared.rc.Rc.{Rc}
use Rattle.mix_base.specs.Events.{Event}
use Rattle.mix_tree.specs.Forest.{tree, none}
use Rattle.path_auto.specs.Automaton.{Machine, machine_of}
use Rattle.path_auto.specs.Visit.{visit_below}
use Rattle.lxp_core.specs.View.{View}
use Rattle.tree_buffer.specs.declared.spot.Spot.{Spot}
use Rattle.lazy_descend.specs.Searches.{FindsNone}
use Rattle.lazy_descend.specs.Searches as Searches
use Rattle.lazy_descend.specs.declared.cursor.DescCursor.{DescCursor}
use Rattle.plan_core.specs.Plans.{Operator}
use Rattle.lxp_core.specs.declared.fault.WalkFault.{WalkFault}
use Rattle.lazy_binding.specs.declared.parts.Growing.{Growing}
use Rattle.lazy_binding.specs.declared.position.Position.{Position, Found'}
use Rattle.lazy_steps.specs.declared.visits.Visit.{Visit}
use Rattle.lazy_binding.specs.World.{World, docs_of, place_in, bound_of, match_ahead, match_number}
use Rattle.lazy_binding.specs.Parts.{operators, world_of}
use Rattle.lazy_steps.specs.Steps.{telling, matches, Asked, GivesMatch, HasCause}

-- the events of a visit below a spot, each a place in the document or a skip
abbrev pub places_below : World → Visit → Spot → List (Event (List ℕ))
places_below w k x = visit_below (machine_of k.auto.now) (tree [] (docs_of w k.source) none) (place_in w k.source x)

-- what a call of a visit by this automaton over these events leaves and answers
pub record Sought {S : Type 0} (view : S → View) (came_from : S → S → Type 0) (ops : List Operator) (m : Machine) (src : ℕ) (es : List (Event (List ℕ))) (top : ℕ)
    (s : S) (g : Growing) (s' : S) (g' : Growing) (result : Result (Option DescCursor) WalkFault) : Type 0 where
  pub asked : Asked view came_from ops es s g s' g'
  pub cause : HasCause ops (view s) (view s') result
  pub answer : IfOk result (GivesMatch (world_of (view s) g) (world_of (view s') g') ops m src es top)

-- what a call for the first match of a visit below a spot leaves and answers
abbrev pub FindsFirst : {S : Type 0} → (S → View) → (S → S → Type 0) → Visit → Spot → S → Growing → S → Growing → Result (Option DescCursor) WalkFault → Type 0
FindsFirst view came_from k x s g s' g' result =
    let w = world_of (view s) g in
    Sought view came_from (operators k.fixed.now) (machine_of k.auto.now) k.source (places_below w k x) (suc (bound_of w)) s g s' g' result

-- what a call for the next match of a visit after a cursor leaves and answers
abbrev pub FindsNext : {S : Type 0} → (S → View) → (S → S → Type 0) → Visit → DescCursor → S → Growing → S → Growing → Result (Option DescCursor) WalkFault → Type 0
FindsNext view came_from k d s g s' g' result =
    let w = world_of (view s) g in
    let m = machine_of k.auto.now in
    Sought view came_from (operators k.fixed.now) m k.source (match_ahead w k.source m d) (match_number w k.source d) s g s' g' result

-- a call of a visit by this automaton answers that no match is among these events, or a position at the first, beside position c of the input
abbrev pub GivesBeside : World → World → List Operator → Machine → ℕ → List (Event (List ℕ)) → ℕ → Position → Option (Rc Position Global) → Type 0
GivesBeside old new ops m src es top c r =
    MatchOption r (FindsNone (telling old ops) es)
    (λ p. (d : DescCursor) × Searches.Finds (telling old ops) (matches new m src) es top d × ((q : _) × (p.value ≡ Found' src q c d)))

-- what a call of a visit over these events leaves, and what it answers as a position beside position c of the input
pub record SoughtBeside {S : Type 0} (view : S → View) (came_from : S → S → Type 0) (ops : List Operator) (m : Machine) (src : ℕ) (es : List (Event (List ℕ))) (top : ℕ) (c : Position)
    (s : S) (g : Growing) (s' : S) (g' : Growing) (result : Result (Option (Rc Position Global)) WalkFault) : Type 0 where
  pub asked : Asked view came_from ops es s g s' g'
  pub cause : HasCause ops (view s) (view s') result
  pub answer : IfOk result (GivesBeside (world_of (view s) g) (world_of (view s') g') ops m src es top c)

-- what a call for a position at the first match of a visit below a spot leaves and answers
abbrev pub StandsAtFirst : {S : Type 0} → (S → View) → (S → S → Type 0) → Visit → Spot → Position → S → Growing → S → Growing → Result (Option (Rc Position Global)) WalkFault → Type 0
StandsAtFirst view came_from k x c s g s' g' result =
    let w = world_of (view s) g in
    SoughtBeside view came_from (operators k.fixed.now) (machine_of k.auto.now) k.source (places_below w k x) (suc (bound_of w)) c s g s' g' result

-- what a call for a position at the next match of a visit after a cursor leaves and answers
abbrev pub StandsAtNext : {S : Type 0} → (S → View) → (S → S → Type 0) → Visit → DescCursor → Position → S → Growing → S → Growing → Result (Option (Rc Position Global)) WalkFault → Type 0
StandsAtNext view came_from k d c s g s' g' result =
    let w = world_of (view s) g in
    let m = machine_of k.auto.now in
    SoughtBeside view came_from (operators k.fixed.now) m k.source (match_ahead w k.source m d) (match_number w k.source d) c s g s' g' result
