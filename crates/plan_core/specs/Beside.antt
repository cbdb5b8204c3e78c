-- Bindings that agree by keys, those of which no two do, and those that stand side by side where they do.
use Rattle.std.specs.Prelude.{◌≡◌, ◌⊎◌, ◌<◌, ◌≤◌, ℕ, true, false, None, List, [], ◌∷◌, length, take}
use Rattle.mix_base.specs.Events.{Event, skip, bind}
use Rattle.mix_tree.specs.Nodes.{Documents}
use Rattle.mix_tree.specs.declared.var.Key.{Key}
use Rattle.plan_core.specs.Events.{RowEvents, events, each_row}
use Rattle.plan_core.specs.Fronts.{Front, front, node_keys, are_contiguous, apart_over}
use Rattle.plan_core.specs.Plans.{Operator, PlanValue}
use Rattle.plan_core.specs.Shapes.{first_by_keys, passes_on, shape_at}
use Rattle.plan_core.specs.TolledRows.{TolledRow, key_values, same_values, tolled_restrict}
use Rattle.plan_core.specs.Valid.{IsValid}

-- each binding is as is said
abbrev pub EachBinding : {B : Type 0} → (B → Type 0) → List (Event B) → Type 0
EachBinding P [] = Unit {0}
EachBinding P (skip ∷ es) = EachBinding P es
EachBinding P (bind b ∷ es) = P b × EachBinding P es

-- two bindings agree by the keys
abbrev pub Agree : Documents → List Key → TolledRow → TolledRow → Type 0
Agree docs keys a b = same_values (key_values docs keys a) (key_values docs keys b) ≡ true

-- two bindings differ by the keys
abbrev pub Differ : Documents → List Key → TolledRow → TolledRow → Type 0
Differ docs keys a b = same_values (key_values docs keys a) (key_values docs keys b) ≡ false

-- no two bindings of events agree by the keys
abbrev pub AreApart : Documents → List Key → RowEvents → Type 0
AreApart docs keys [] = Unit {0}
AreApart docs keys (skip ∷ es) = AreApart docs keys es
AreApart docs keys (bind row ∷ es) = EachBinding (Differ docs keys row) es × AreApart docs keys es

-- among the events after a binding, those that agree with it by the keys come before all that differ
abbrev pub StandsFirst : Documents → List Key → TolledRow → RowEvents → Type 0
StandsFirst docs keys row [] = Unit {0}
StandsFirst docs keys row (skip ∷ es) = StandsFirst docs keys row es
StandsFirst docs keys row (bind b ∷ es) =
    (Agree docs keys row b × StandsFirst docs keys row es) ⊎ (Differ docs keys row b × EachBinding (Differ docs keys row) es)

-- bindings of events that agree by the keys stand side by side
abbrev pub AreBeside : Documents → List Key → RowEvents → Type 0
AreBeside docs keys [] = Unit {0}
AreBeside docs keys (skip ∷ es) = AreBeside docs keys es
AreBeside docs keys (bind row ∷ es) = StandsFirst docs keys row es × AreBeside docs keys es

-- by each list of keys that is contiguous over a front, bindings of events that agree stand side by side
abbrev pub AreContiguous : Documents → List ℕ → RowEvents → Type 0
AreContiguous docs vars es = (keys : List Key) → are_contiguous keys vars ≡ true → AreBeside docs keys es

-- events have a front: bindings that agree in its first j variables stand side by side, for each j; where it is whole, no two agree in all
pub record HaveFront (docs : Documents) (f : Front) (es : RowEvents) : Type 0 where
  pub beside : (j : ℕ) → j ≤ length f.vars → AreBeside docs (node_keys (take j f.vars)) es
  pub whole : f.whole ≡ true → AreApart docs (node_keys f.vars) es

-- the events of each operator of a valid plan have its front
abbrev pub FrontsAreOfEvents : Type 0
FrontsAreOfEvents = (p : PlanValue) → IsValid p → (docs : Documents) (n : ℕ) → n < length p.ops → HaveFront docs (front p.ops n) (events docs p.ops n)

-- no two bindings of operator i agree by the keys, and the events of operator n are those of it, of each binding the variables of the keys
pub record ArePassed (docs : Documents) (ops : List Operator) (n i : ℕ) (keys : List Key) : Type 0 where
  pub apart : AreApart docs keys (events docs ops i)
  pub events_are : events docs ops n ≡ each_row (tolled_restrict keys) (events docs ops i)

-- where a project of a valid plan stands over bindings of which no two agree by its keys, it passes on each of them
abbrev pub ApartArePassed : Type 0
ApartArePassed = (p : PlanValue) → IsValid p → (docs : Documents) (n i : ℕ) (keys : List Key) → n < length p.ops → shape_at p.ops n ≡ passes_on i (first_by_keys keys None)
    → apart_over p.ops i keys ≡ true → ArePassed docs p.ops n i keys
