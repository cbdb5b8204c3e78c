-- What holds of the values of a binding.
use Rattle.std.specs.Prelude.{◌≡◌, ℕ, List, ◌++◌, Option, Some, None}
use Rattle.mix_tree.specs.Nodes.{Documents}
use Rattle.plan_core.specs.Beside.{EachBinding, AreApart}
use Rattle.plan_core.specs.Events.{RowEvents}
use Rattle.plan_core.specs.TolledRows.{TolledValue, of_source, element, trees, TolledRow, tolled_value}
use Rattle.plan_core.specs.Valid.{Kind, a_node, an_element, a_list, Kinds, AreNodes}
use Rattle.browse_profile.specs.declared.profile.Profile.{Profile}
use Rattle.browse_profile.specs.Costs.{costs_of}
use Rattle.browse_profile.specs.Fits.{FourFit, Fits}
use Rattle.browse_visit.specs.Layouts.{Layout, IsLaidAt}
use Rattle.browse_class.specs.Cheap.{spine, IsCheap, IsCheapBelow}
use Rattle.browse_class.specs.Facts.{Facts}
use Rattle.browse_class.specs.Levels.{AreLeveled}

-- a value of a kind: a node whose trees are laid out so, an element below which all is cheap, or a list with such tolls
abbrev pub IsValue : Documents → Option ℕ → Kind → List Layout → Profile → TolledValue → Type 0
IsValue docs most a_node gs p (of_source n) = IsLaidAt docs gs n
IsValue docs most a_node gs p (element label kids) = ⊥
IsValue docs most a_node gs p (trees f) = ⊥
IsValue docs most an_element gs p (of_source n) = ⊥
IsValue docs most an_element gs p (element label kids) = IsCheap most kids
IsValue docs most an_element gs p (trees f) = ⊥
IsValue docs most a_list gs p (of_source n) = ⊥
IsValue docs most a_list gs p (element label kids) = ⊥
IsValue docs most a_list gs p (trees f) = FourFit p (spine f) × IsCheapBelow most f

-- a binding has a value of the kind, whatever stands after it, or none
abbrev pub HasValue : Documents → Option ℕ → Option Kind → List Layout → Profile → TolledRow → TolledRow → ℕ → Type 0
HasValue docs most None gs p row more v = tolled_value (row ++ more) v ≡ tolled_value more v
HasValue docs most (Some k) gs p row more v = (tolled_value (row ++ more) v ≡ tolled_value row v) × IsValue docs most k gs p (tolled_value row v)

-- a binding has of each variable a value of its kind, laid out and with tolls as the facts say
abbrev pub IsBound : Documents → Option ℕ → Kinds → Facts → TolledRow → Type 0
IsBound docs most kinds f row = (v : ℕ) (more : TolledRow) → HasValue docs most (kinds v) (f.layouts v) (f.lists v) row more v

-- the events of an operator with a front of these variables are as is known of it
pub record AreAsKnown (docs : Documents) (most : Option ℕ) (kinds : Kinds) (vars : List ℕ) (f : Facts) (es : RowEvents) : Type 0 where
  pub fits : Fits f.profile (costs_of es)
  pub bound : EachBinding (IsBound docs most kinds f) es
  pub apart : AreApart docs f.keys es
  pub nodes : AreNodes f.keys kinds
  pub leveled : AreLeveled docs vars f.levels es
