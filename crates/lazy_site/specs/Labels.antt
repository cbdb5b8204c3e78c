-- The labels of the elements that variables hold, which no document changes.
use Rattle.std.specs.Prelude.{ℕ, Bool, cond, ◌==◌, List, Option, Some, None}
use Rattle.std.specs.List.{list_any}
use Rattle.mix_tree.specs.Keys.{has_var}
use Rattle.plan_core.specs.Plans.{Operator, source, get_descendants, join, over, tuple_destroy}
use Rattle.plan_core.specs.Unary.{Unary, project, group_by, concatenate, create_element}
use Rattle.plan_core.specs.ByNumber.{by_number}
use Rattle.plan_core.specs.TolledRows.{TolledRow}

-- for each variable that is bound, the label of the element that it holds, or that it holds none
abbrev pub Labels : Type 0
Labels = ℕ → Option (Option (List ℕ))

-- the first of two, where it says something of a variable, and else the second
abbrev pub either_label : Option (Option (List ℕ)) → Option (Option (List ℕ)) → Option (Option (List ℕ))
either_label None l = l
either_label (Some k) l = Some k

-- the labels of the elements that the variables of an operator with one input hold, by those of the input's
abbrev pub unary_labels : Unary → Labels → Labels
unary_labels (project keys) of v = cond (has_var keys v) (of v) None
unary_labels (group_by keys piece out) of v = cond (out == v) (Some None) (cond (has_var keys v) (of v) None)
unary_labels (concatenate pieces out) of v = cond (out == v) (Some None) (of v)
unary_labels (create_element label list out) of v = cond (out == v) (Some (Some label)) (of v)
unary_labels op of v = of v

-- the labels of the elements that the variables of an operator hold, by those of its inputs'
abbrev pub op_labels : Operator → (ℕ → Labels) → Labels
op_labels (source s out) of v = cond (out == v) (Some None) None
op_labels (get_descendants input start path out) of v = cond (out == v) (Some None) (of input v)
op_labels (join left right tests) of v = either_label (of left v) (of right v)
op_labels (over input op) of v = unary_labels op (of input) v
op_labels (tuple_destroy input made) of v = None

-- the labels of the elements that the variables of operator n hold
unfoldable pub labels : List Operator → ℕ → Labels
labels ops n = by_number op_labels (λ v. None) ops n

-- whether a variable is bound in a binding
abbrev pub stands_in : TolledRow → ℕ → Bool
stands_in row v = list_any (λ p. p.0 == v) row
