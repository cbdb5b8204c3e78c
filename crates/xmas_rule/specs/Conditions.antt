-- The conditions of a body: which variables they bind, in which order, and what is compared.
use Rattle.std.specs.Prelude.{◌≡◌, ◌<◌, ◌≤◌, ℕ, Bool, true, false, cond, List, [], ◌∷◌, ◌++◌, ◌==◌, map, Option, Some, None}
use Rattle.std.specs.List.{list_any, AllByRecursion}
use Rattle.path_expr.specs.Form.{Form, positions_in}
use Rattle.mix_tree.specs.Comparisons.{compares_nodes}
use Rattle.mix_tree.specs.declared.comparing.Operand.{Operand}
use Rattle.mix_tree.specs.declared.comparing.Operand.TheVariants.{Var as var_operand, Text as text_operand}
use Rattle.mix_tree.specs.declared.comparing.Test.{Test}
use Rattle.xmas_rule.specs.declared.condition.Cond.{Cond}
use Rattle.xmas_rule.specs.declared.condition.Cond.TheVariants.{FromSource, FromVar, Compare}

-- a condition that binds a variable to the nodes that a path leads to, from the document node of a source or from a variable's node
pub data Binder : Type 0 where
  from_source : (source : ℕ) → (path : Form) → (var : ℕ) → Binder
  from_var : (start : ℕ) → (path : Form) → (var : ℕ) → Binder

-- the variable that a condition binds
abbrev pub binder_var : Binder → ℕ
binder_var (from_source source path var) = var
binder_var (from_var start path var) = var

-- the variables of conditions, in their order
abbrev pub binder_vars : List Binder → List ℕ
binder_vars binders = map binder_var binders

-- a variable is one of these
abbrev pub has : List ℕ → ℕ → Bool
has vs v = list_any (λ w. w == v) vs

-- the conditions that bind, as written
abbrev pub binders : List Cond → List Binder
binders [] = []
binders (FromSource source path var ∷ conds) = from_source source path var ∷ binders conds
binders (FromVar start path var ∷ conds) = from_var start path var ∷ binders conds
binders (Compare t ∷ conds) = binders conds

-- the comparisons of conditions, as written
abbrev pub comparisons : List Cond → List Test
comparisons [] = []
comparisons (FromSource source path var ∷ conds) = comparisons conds
comparisons (FromVar start path var ∷ conds) = comparisons conds
comparisons (Compare t ∷ conds) = t ∷ comparisons conds

-- the component that binds the start variable takes the condition
abbrev pub add_to : Binder → ℕ → List (List Binder) → List (List Binder)
add_to c start [] = []
add_to c start (comp ∷ comps) = cond (has (binder_vars comp) start) ((comp ++ c ∷ []) ∷ comps) (comp ∷ add_to c start comps)

-- a source condition begins a component, another condition joins that of its start variable
abbrev pub with_binder : Binder → List (List Binder) → List (List Binder)
with_binder (from_source source path var) comps = comps ++ (from_source source path var ∷ []) ∷ []
with_binder (from_var start path var) comps = add_to (from_var start path var) start comps

-- the components, where some stand already
abbrev pub components_from : List (List Binder) → List Binder → List (List Binder)
components_from comps [] = comps
components_from comps (c ∷ cs) = components_from (with_binder c comps) cs

-- each source condition with all conditions that start, directly or through others, at its variable; in the order of the source conditions
abbrev pub components : List Cond → List (List Binder)
components conds = components_from [] (binders conds)

-- the binders of components, one component after another
abbrev pub flat : List (List Binder) → List Binder
flat [] = []
flat (comp ∷ comps) = comp ++ flat comps

-- the variable order: component by component, each as written
abbrev pub in_order : List Cond → List ℕ
in_order conds = binder_vars (flat (components conds))

-- each variable is bound once, and each start variable by an earlier condition; some are bound already
abbrev pub AreBound : List ℕ → List Binder → Type 0
AreBound vs [] = Unit {0}
AreBound vs (from_source source path var ∷ cs) = (has vs var ≡ false) × AreBound (vs ++ var ∷ []) cs
AreBound vs (from_var start path var ∷ cs) = (has vs start ≡ true) × (has vs var ≡ false) × AreBound (vs ++ var ∷ []) cs

-- what is compared with is a text, or a variable below n
abbrev pub OperandBelow : ℕ → Operand → Type 0
OperandBelow n (var_operand v) = v < n
OperandBelow n (text_operand label) = Unit {0}

-- a comparison is of variables below n, and of labels: nodes are compared in plans alone
abbrev pub IsCompared : ℕ → Test → Type 0
IsCompared n t = (t.left < n) × OperandBelow n t.right × (compares_nodes t.op ≡ false)

-- all comparisons are of variables below n, and of labels
abbrev pub AreCompared : ℕ → List Test → Type 0
AreCompared n tests = AllByRecursion (IsCompared n) tests

-- the sources of the conditions are below n
abbrev pub AreSources : ℕ → List Binder → Type 0
AreSources n [] = Unit {0}
AreSources n (from_source source path var ∷ cs) = (source < n) × AreSources n cs
AreSources n (from_var start path var ∷ cs) = AreSources n cs

-- the path of a condition has at most 120 label positions
abbrev pub HasFewPositions : Binder → Type 0
HasFewPositions (from_source source path var) = positions_in path ≤ 120
HasFewPositions (from_var start path var) = positions_in path ≤ 120
