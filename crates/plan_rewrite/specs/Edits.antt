-- A selection pushed into the numbered operators of a tree.
use Rattle.std.specs.Prelude.{◌≡◌, ℕ, zero, suc, ◌+◌, ◌-◌, cond, nat_lt, List, [], ◌∷◌, ◌++◌, map, Option, None, Some}
use Rattle.mix_tree.specs.declared.comparing.Test.{Test}
use Rattle.plan_core.specs.Plans.{Operator, source, get_descendants, join, over, tuple_destroy}
use Rattle.plan_core.specs.Unary.{select}
use Rattle.plan_make.specs.Trees.{Tree, begin, descend, both, above, under}
use Rattle.plan_make.proofs.TreeParts.{tree_kinds}
use Rattle.plan_rewrite.specs.Rewritten.{binds_test}

-- the number of an operator where one is put in after that of number n
abbrev pub bumped : ℕ → ℕ → ℕ
bumped n i = cond (nat_lt i n) i (suc i)

-- an operator whose inputs are numbered as where one is put in after operator n
abbrev pub bumped_op : ℕ → Operator → Operator
bumped_op n (source s out) = source s out
bumped_op n (get_descendants input start path out) = get_descendants (bumped n input) start path out
bumped_op n (join left right tests) = join (bumped n left) (bumped n right) tests
bumped_op n (over input op) = over (bumped n input) op
bumped_op n (tuple_destroy input element) = tuple_destroy (bumped n input) element

-- operator n with a selection put into it, where it is a join, and else after it; then the others
abbrev pub landed : Test → ℕ → Operator → List Operator → List Operator
landed t n (source s out) ops = source s out ∷ over n (select t) ∷ map (bumped_op n) ops
landed t n (get_descendants input start path out) ops = get_descendants input start path out ∷ over n (select t) ∷ map (bumped_op n) ops
landed t n (join left right tests) ops = join left right (tests ++ t ∷ []) ∷ ops
landed t n (over input op) ops = over input op ∷ over n (select t) ∷ map (bumped_op n) ops
landed t n (tuple_destroy input element) ops = tuple_destroy input element ∷ over n (select t) ∷ map (bumped_op n) ops

-- operators with a selection put over the one after k others, or added to it where it is a join
abbrev pub edited : Test → ℕ → ℕ → List Operator → List Operator
edited t n k [] = []
edited t n zero (op ∷ ops) = landed t n op ops
edited t n (suc k) (op ∷ ops) = op ∷ edited t n k ops

-- over which operator of a tree a selection comes to stand, or into which join, counted from the tree's first
abbrev pub landing : Test → Tree → ℕ
landing t (begin s out) = under (begin s out)
landing t (descend x start path out) = under (descend x start path out)
landing t (both l r tests) = cond (binds_test (tree_kinds l) t) (landing t l) (cond (binds_test (tree_kinds r) t) (suc (under l) + landing t r) (suc (under l) + suc (under r)))
landing t (above x op) = under (above x op)

-- a comparison was added to an operator that is a join, or is left
abbrev pub Added : Test → Option Test → Operator → Operator → Type 0
Added t None (source s out) after = ⊥
Added t None (get_descendants input start path out) after = ⊥
Added t None (join left right tests) after = after ≡ join left right (tests ++ t ∷ [])
Added t None (over input op) after = ⊥
Added t None (tuple_destroy input element) after = ⊥
Added t (Some u) (source s out) after = (after ≡ source s out) × (u ≡ t)
Added t (Some u) (get_descendants input start path out) after = (after ≡ get_descendants input start path out) × (u ≡ t)
Added t (Some u) (join left right tests) after = ⊥
Added t (Some u) (over input op) after = (after ≡ over input op) × (u ≡ t)
Added t (Some u) (tuple_destroy input element) after = (after ≡ tuple_destroy input element) × (u ≡ t)

-- an operator whose inputs are raised by one amount
abbrev pub raised_op : ℕ → Operator → Operator
raised_op i (source s out) = source s out
raised_op i (get_descendants input start path out) = get_descendants (i + input) start path out
raised_op i (join left right tests) = join (i + left) (i + right) tests
raised_op i (over input op) = over (i + input) op
raised_op i (tuple_destroy input element) = tuple_destroy (i + input) element

-- the operators of a left side, those of a right side raised after them, and the join of both
abbrev pub joined_ops : ℕ → List Operator → ℕ → List Operator → List Test → List Operator
joined_ops a left b right tests = (left ++ map (raised_op a) right) ++ join (a - 1) ((a + b) - 1) tests ∷ []

-- an operator that reads operator i in place of its input
abbrev pub on_input : ℕ → Operator → Operator
on_input i (source s out) = source s out
on_input i (get_descendants input start path out) = get_descendants i start path out
on_input i (join left right tests) = join left right tests
on_input i (over input op) = over i op
on_input i (tuple_destroy input element) = tuple_destroy i element
