-- Selections moved into and below joins.
use Rattle.std.specs.Prelude.{ℕ, Bool, true, false, cond, ◌&&◌, List, [], ◌∷◌, ◌++◌, Option, None, Some}
use Rattle.std.specs.List.{last_or}
use Rattle.mix_tree.specs.declared.comparing.Operand.{Operand}
use Rattle.mix_tree.specs.declared.comparing.Operand.TheVariants.{Var as var_operand, Text as text_operand}
use Rattle.mix_tree.specs.declared.comparing.Test.{Test}
use Rattle.plan_core.specs.ByNumber.{by_number}
use Rattle.plan_core.specs.Plans.{Operator, source, get_descendants, join, over, tuple_destroy, PlanValue}
use Rattle.plan_core.specs.Unary.{Unary, select, order_by, project, group_by, concatenate, create_element}
use Rattle.plan_core.specs.Valid.{Kind, Kinds}
use Rattle.plan_make.specs.Operators.{operators_of, plan_of}
use Rattle.plan_make.specs.Trees.{Tree, begin, descend, both, above}
use Rattle.plan_make.proofs.TreeParts.{tree_kinds, ended}
use Rattle.xmas_rule.specs.Rules.{RuleValue}

-- whether a variable has a kind, so is bound
abbrev pub is_bound : Option Kind → Bool
is_bound None = false
is_bound (Some k) = true

-- whether what is compared with is a text, or a variable that is bound
abbrev pub binds_operand : Kinds → Operand → Bool
binds_operand kinds (var_operand v) = is_bound (kinds v)
binds_operand kinds (text_operand label) = true

-- whether all variables of a comparison are bound
abbrev pub binds_test : Kinds → Test → Bool
binds_test kinds t = is_bound (kinds t.left) && binds_operand kinds t.right

-- a selection over a tree: into a join or below it, where there is one
abbrev pub pushed : Test → Tree → Tree
pushed t (begin s out) = above (begin s out) (select t)
pushed t (descend x start path out) = above (descend x start path out) (select t)
pushed t (both l r tests) = cond (binds_test (tree_kinds l) t) (both (pushed t l) r tests) (cond (binds_test (tree_kinds r) t) (both l (pushed t r) tests) (both l r (tests ++ t ∷ [])))
pushed t (above x op) = above (above x op) (select t)

-- a tree with an operator over it; a selection is pushed into the tree
abbrev pub put_over : Unary → Tree → Tree
put_over (select t) x = pushed t x
put_over (order_by v desc) x = above x (order_by v desc)
put_over (project keys) x = above x (project keys)
put_over (group_by keys piece out) x = above x (group_by keys piece out)
put_over (concatenate pieces out) x = above x (concatenate pieces out)
put_over (create_element label list out) x = above x (create_element label list out)

-- a tree with all its selections moved
abbrev pub rewritten : Tree → Tree
rewritten (begin s out) = begin s out
rewritten (descend x start path out) = descend (rewritten x) start path out
rewritten (both l r tests) = both (rewritten l) (rewritten r) tests
rewritten (above x op) = put_over op (rewritten x)

-- an operator over the trees of its inputs
abbrev pub op_tree : Operator → (ℕ → Tree) → Tree
op_tree (source s out) of = begin s out
op_tree (get_descendants input start path out) of = descend (of input) start path out
op_tree (join left right tests) of = both (of left) (of right) tests
op_tree (over input op) of = above (of input) op
op_tree (tuple_destroy input element) of = begin 0 0

-- the tree of operator n: it and all that stands below it
unfoldable pub tree_at : List Operator → ℕ → Tree
tree_at ops n = by_number op_tree (begin 0 0) ops n

-- the operators above which the last one stands, rewritten
abbrev pub ended_by : (ℕ → Tree) → Option Operator → List Operator
ended_by of None = []
ended_by of (Some (source s out)) = []
ended_by of (Some (get_descendants input start path out)) = []
ended_by of (Some (join left right tests)) = []
ended_by of (Some (over input op)) = []
ended_by of (Some (tuple_destroy input element)) = ended (rewritten (of input)) element

-- the operators of a plan, rewritten
abbrev pub rewritten_ops : List Operator → List Operator
rewritten_ops ops = ended_by (tree_at ops) (last_or None ops)

-- a plan, its selections pushed down
abbrev pub rewritten_plan : PlanValue → PlanValue
rewritten_plan p = record { ops = rewritten_ops p.ops; names = p.names; sources = p.sources }

-- the operators of a rule's plan, rewritten
abbrev pub operators_for : RuleValue → List Operator
operators_for r = rewritten_ops (operators_of r)

-- the plan of a rule over sources with these names, rewritten
abbrev pub plan_for : List (List ℕ) → RuleValue → PlanValue
plan_for sources r = rewritten_plan (plan_of sources r)
