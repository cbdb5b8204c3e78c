-- Numbers that bound lists by the operators that make them.
use Rattle.std.specs.Prelude.{ℕ, suc, ◌+◌, cond, ◌==◌, List, [], ◌∷◌}
use Rattle.plan_core.specs.declared.plan.Piece.{Piece}
use Rattle.plan_core.specs.declared.plan.Piece.TheVariants.{Var as var_piece, LabelOf as label_piece, Text as text_piece}
use Rattle.plan_core.specs.Plans.{Operator, source, get_descendants, join, over, tuple_destroy}
use Rattle.plan_core.specs.Unary.{Unary, group_by, concatenate, create_element}
use Rattle.plan_core.specs.ByNumber.{by_number}

-- what a piece counts for: a variable what its value counts for, a label or a text one
abbrev pub piece_count : (ℕ → ℕ) → Piece → ℕ
piece_count of (var_piece v) = of v
piece_count of (label_piece v) = 1
piece_count of (text_piece label) = 1

-- what all pieces of a list count for: a variable what its value counts for, a label or a text one
abbrev pub pieces_count : (ℕ → ℕ) → List Piece → ℕ
pieces_count of [] = 0
pieces_count of (p ∷ ps) = piece_count of p + pieces_count of ps

-- how many lists and pieces are entered on the way through the value of a variable of an operator with one input, by those of the input's variables
abbrev pub unary_size : Unary → (ℕ → ℕ) → ℕ → ℕ
unary_size (group_by keys piece out) of v = cond (out == v) 3 (of v)
unary_size (concatenate pieces out) of v = cond (out == v) (suc (suc (pieces_count (λ w. suc (of w)) pieces))) (of v)
unary_size (create_element label list out) of v = cond (out == v) 1 (of v)
unary_size op of v = of v

-- how many lists and pieces are entered on the way through the value of a variable of an operator, by those of its inputs' variables
abbrev pub op_size : Operator → (ℕ → ℕ → ℕ) → ℕ → ℕ
op_size (source s out) of v = 1
op_size (get_descendants input start path out) of v = cond (out == v) 1 (of input v)
op_size (join left right tests) of v = of left v + of right v
op_size (over input op) of v = unary_size op (of input) v
op_size (tuple_destroy input element) of v = 0

-- how many lists and pieces are entered on the way through the value of a variable of operator n
unfoldable pub size : List Operator → ℕ → ℕ → ℕ
size ops n = by_number op_size (λ v. 0) ops n

-- how many trees the value of a variable of an operator with one input has at most, by those of the input's variables and a bound of the input's bindings
abbrev pub unary_extent : ℕ → Unary → (ℕ → ℕ) → ℕ → ℕ
unary_extent bound (group_by keys piece out) of v = cond (out == v) (suc bound) (of v)
unary_extent bound (concatenate pieces out) of v = cond (out == v) (pieces_count of pieces) (of v)
unary_extent bound (create_element label list out) of v = cond (out == v) 1 (of v)
unary_extent bound op of v = of v

-- how many trees the value of a variable of an operator has at most, by those of its inputs' variables and bounds of their bindings
abbrev pub op_extent : (ℕ → ℕ) → Operator → (ℕ → ℕ → ℕ) → ℕ → ℕ
op_extent bound (source s out) of v = 1
op_extent bound (get_descendants input start path out) of v = cond (out == v) 1 (of input v)
op_extent bound (join left right tests) of v = of left v + of right v
op_extent bound (over input op) of v = unary_extent (bound input) op (of input) v
op_extent bound (tuple_destroy input element) of v = 0

-- how many trees the value of a variable of operator n has at most, where each operator has at most so many bindings
unfoldable pub extent : (ℕ → ℕ) → List Operator → ℕ → ℕ → ℕ
extent bound ops n = by_number (op_extent bound) (λ v. 0) ops n
