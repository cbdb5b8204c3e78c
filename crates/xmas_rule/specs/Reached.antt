-- The components of a body, found by one walk after each source condition.
use Rattle.std.specs.Prelude.{ℕ, cond, List, [], ◌∷◌, ◌++◌}
use Rattle.xmas_rule.specs.Conditions.{Binder, from_source, from_var, has}
use Rattle.xmas_rule.specs.declared.condition.Cond.{Cond}
use Rattle.xmas_rule.specs.declared.condition.Cond.TheVariants.{FromSource, FromVar, Compare}

-- the conditions that start, directly or through others, at one of these variables
abbrev pub reached : List ℕ → List Binder → List Binder
reached vs [] = []
reached vs (from_source s path v ∷ cs) = reached vs cs
reached vs (from_var x path v ∷ cs) = cond (has vs x) (from_var x path v ∷ reached (vs ++ v ∷ []) cs) (reached vs cs)

-- each source condition with those after it that it reaches
abbrev pub reaches : List Binder → List (List Binder)
reaches [] = []
reaches (from_source s path v ∷ cs) = (from_source s path v ∷ reached (v ∷ []) cs) ∷ reaches cs
reaches (from_var x path v ∷ cs) = reaches cs

-- the component that a condition begins, over the conditions after it
abbrev pub begun : Cond → List Binder → List (List Binder)
begun (FromSource s path v) cs = (from_source s path v ∷ reached (v ∷ []) cs) ∷ []
begun (FromVar x path v) cs = []
begun (Compare t) cs = []

-- the source of a component
abbrev pub source_of : List Binder → ℕ
source_of [] = 0
source_of (from_source s path var ∷ cs) = s
source_of (from_var start path var ∷ cs) = 0
