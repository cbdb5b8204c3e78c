-- What an operator is to those who walk over its bindings: one of a few shapes, with its parameters.
use Rattle.std.specs.Prelude.{ℕ, Bool, List, [], ◌∷◌, Option, None, Some}
use Rattle.mix_tree.specs.declared.var.Key.{Key}
use Rattle.mix_tree.specs.declared.comparing.Test.{Test}
use Rattle.path_expr.specs.Form.{Form}
use Rattle.plan_core.specs.declared.plan.Piece.{Piece}
use Rattle.plan_core.specs.Unary.{Unary, select, order_by, project, group_by, concatenate, create_element}
use Rattle.plan_core.specs.Plans.{Operator, source, get_descendants, join, over, tuple_destroy}
use Rattle.plan_core.specs.ByNumber.{op_at}

-- what is made of a binding: the list of pieces, or an element over a list
pub data Made : Type 0 where
  a_list_of : (pieces : List Piece) → Made
  an_element_of : (label : List ℕ) → (list : ℕ) → Made

-- what the bindings of one input go through: a comparison; a variable more; the first by keys, each by itself or with the list of a group's piece;
-- one group of all; an order by a variable's label
pub data Stage : Type 0 where
  filters : (test : Test) → Stage
  extends : (out : ℕ) → (made : Made) → Stage
  first_by_keys : (keys : List Key) → (group : Option (Piece × ℕ)) → Stage
  one_group : (piece : Piece) → (out : ℕ) → Stage
  in_order : (var : ℕ) → (desc : Bool) → Stage

-- the shape of an operator: the node of a source; a visit from a variable's node; two inputs in pairs; one input, and what its bindings go through;
-- no bindings
pub data Shape : Type 0 where
  one_source : (source out : ℕ) → Shape
  visits_below : (input start : ℕ) → (path : Form) → (out : ℕ) → Shape
  pairs_up : (left right : ℕ) → (tests : List Test) → Shape
  passes_on : (input : ℕ) → (stage : Stage) → Shape
  no_events : (input made : ℕ) → Shape

-- what the bindings below an operator with one input go through
abbrev pub stage_of : Unary → Stage
stage_of (select test) = filters test
stage_of (order_by v desc) = in_order v desc
stage_of (project keys) = first_by_keys keys None
stage_of (group_by [] piece out) = one_group piece out
stage_of (group_by (k ∷ keys) piece out) = first_by_keys (k ∷ keys) (Some (piece, out))
stage_of (concatenate pieces out) = extends out (a_list_of pieces)
stage_of (create_element label list out) = extends out (an_element_of label list)

-- the shape of an operator; what is said of operators is said of their shapes
abbrev pub shape_of : Operator → Shape
shape_of (source s out) = one_source s out
shape_of (get_descendants input start path out) = visits_below input start path out
shape_of (join left right tests) = pairs_up left right tests
shape_of (over input op) = passes_on input (stage_of op)
shape_of (tuple_destroy input made) = no_events input made

-- the shape of operator n of a plan
abbrev pub shape_at : List Operator → ℕ → Shape
shape_at ops n = shape_of (op_at ops n)
