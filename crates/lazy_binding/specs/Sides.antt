-- Which variables of a join are those of its right side.
use Rattle.std.specs.Prelude.{◌≡◌, ◌-◌, ℕ, suc, cond, is_some, Option, None, Some, List, [], ◌∷◌, take, drop, slice_get}
use Rattle.std.specs.declared.alloc.Global.{Global}
use Rattle.std.specs.declared.vec.Vec.{Vec}
use Rattle.plan_core.specs.Plans.{Operator}
use Rattle.plan_core.specs.Shapes.{Shape, one_source, visits_below, pairs_up, shape_of, shape_at}
use Rattle.plan_core.specs.Valid.{Kinds, kinds}

-- the variable that an operator of this shape binds to a node; none where it binds no such one
abbrev pub node_var : Shape → Option ℕ
node_var (one_source s out) = Some out
node_var (visits_below input start path out) = Some out
node_var f = None

-- a list of variables with one more, where there is one that a side of a join does not bind
abbrev pub with_other : Kinds → Option ℕ → List ℕ → List ℕ
with_other side None vars = vars
with_other side (Some v) vars = cond (is_some (side v)) vars (v ∷ vars)

-- the variables that these operators bind to nodes, and that a side of a join does not bind
abbrev pub others : Kinds → List Operator → List ℕ
others side [] = []
others side (o ∷ os) = with_other side (node_var (shape_of o)) (others side os)

-- the variables of the right side of a join alone: those that the operators between its left side and itself bind; none of any other shape
abbrev pub shape_right : List Operator → ℕ → Shape → List ℕ
shape_right ops n (pairs_up l r tests) = others (kinds ops l) (take (n - suc l) (drop (suc l) ops))
shape_right ops n f = []

-- the variables of operator n's right side alone, where it is a join; none of any other operator
abbrev pub right_vars : List Operator → ℕ → List ℕ
right_vars ops n = shape_right ops n (shape_at ops n)

-- the list at the place of each operator holds the variables of its right side alone
abbrev pub AreRights : List Operator → List (Vec ℕ Global) → Type 0
AreRights ops rights = (n : ℕ) (vars : Vec ℕ Global) → slice_get rights n ≡ Some vars → vars.items ≡ right_vars ops n
