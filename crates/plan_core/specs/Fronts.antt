-- Fronts: variables by whose first ones the bindings of an operator that agree stand side by side.
use Rattle.std.specs.Prelude.{ℕ, Bool, true, false, cond, ◌&&◌, None, List, [], ◌∷◌, ◌++◌, map, slice_index_or}
use Rattle.std.specs.List.{list_all, list_any}
use Rattle.mix_tree.specs.Keys.{key_eq, stands}
use Rattle.mix_tree.specs.declared.var.Key.{Key}
use Rattle.mix_tree.specs.declared.var.Key.TheVariants.{Node as node_key}
use Rattle.plan_core.specs.ByNumber.{by_number}
use Rattle.plan_core.specs.Plans.{Operator, source, get_descendants, join, over, tuple_destroy}
use Rattle.plan_core.specs.Unary.{select, order_by, project, group_by, concatenate, create_element}
use Rattle.plan_core.specs.Shapes.{Stage, filters, extends, first_by_keys, one_group, in_order, Shape, one_source, visits_below, pairs_up, passes_on, no_events, shape_of}

-- variables in order, and whether no two bindings agree in all of them
pub record Front : Type 0 where
  pub vars : List ℕ
  pub whole : Bool

-- a front without variables
abbrev pub no_front : Bool → Front
no_front whole = record { vars = []; whole = whole }

-- the keys that are the nodes of variables
abbrev pub node_keys : List ℕ → List Key
node_keys vs = map (λ v. node_key v) vs

-- the first of these variables, as far as each is a node key
abbrev pub shared : List Key → List ℕ → List ℕ
shared keys [] = []
shared keys (v ∷ vs) = cond (list_any (key_eq (node_key v)) keys) (v ∷ shared keys vs) []

-- keys cover others: bindings that agree by the first agree by the others
abbrev pub covers : List Key → List Key → Bool
covers keys others = list_all (stands keys) others

-- bindings that agree by these keys stand side by side: the first variables of the front that are node keys cover them all
abbrev pub are_contiguous : List Key → List ℕ → Bool
are_contiguous keys vars = covers (node_keys (shared keys vars)) keys

-- the front of a stage, from that of its input
abbrev pub stage_front : Stage → Front → Front
stage_front (filters test) f = f
stage_front (extends out made) f = f
stage_front (first_by_keys keys group) f = record { vars = shared keys f.vars; whole = are_contiguous keys f.vars }
stage_front (one_group piece out) f = no_front true
stage_front (in_order v desc) f = no_front false

-- the front of a shape, from those of its inputs
abbrev pub shape_front : Shape → (ℕ → Front) → Front
shape_front (one_source s out) of = no_front true
shape_front (visits_below input start path out) of = record { vars = (of input).vars ++ cond (of input).whole (out ∷ []) []; whole = (of input).whole }
shape_front (pairs_up left right tests) of =
    record { vars = (of left).vars ++ cond (of left).whole (of right).vars []; whole = (of left).whole && (of right).whole }
shape_front (passes_on input stage) of = stage_front stage (of input)
shape_front (no_events input made) of = no_front true

-- the front of an operator, from those of its inputs
abbrev pub op_front : Operator → (ℕ → Front) → Front
op_front op of = shape_front (shape_of op) of

-- the front of operator n of a plan
unfoldable pub front : List Operator → ℕ → Front
front ops n = by_number op_front (no_front true) ops n

-- groups by these keys over operator n end at the first other key
abbrev pub stops_over : List Operator → ℕ → List Key → Bool
stops_over ops n keys = are_contiguous keys (front ops n).vars

-- the groups of an operator end at the first other key
abbrev pub op_stops : List Operator → Operator → Bool
op_stops ops (source s out) = false
op_stops ops (get_descendants input start path out) = false
op_stops ops (join left right tests) = false
op_stops ops (over input (select test)) = false
op_stops ops (over input (order_by v desc)) = false
op_stops ops (over input (project keys)) = false
op_stops ops (over input (group_by keys piece out)) = stops_over ops input keys
op_stops ops (over input (concatenate pieces out)) = false
op_stops ops (over input (create_element label list out)) = false
op_stops ops (tuple_destroy input made) = false

-- no two bindings of operator n agree by these keys: they cover its front, and it is whole
abbrev pub apart_over : List Operator → ℕ → List Key → Bool
apart_over ops n keys = (front ops n).whole && covers keys (node_keys (front ops n).vars)

-- a shape passes on each binding of its input, where it would keep the first ones by keys: it is a project's, and no two of them agree by its keys
abbrev pub shape_apart : List Operator → Shape → Bool
shape_apart ops (passes_on input (first_by_keys keys None)) = apart_over ops input keys
shape_apart ops f = false

-- an operator is a project that passes on each binding of its input, since no two of them agree by its keys
abbrev pub op_apart : List Operator → Operator → Bool
op_apart ops op = shape_apart ops (shape_of op)

-- the front of a number among fronts; elsewhere that of no bindings
abbrev pub front_at : List Front → ℕ → Front
front_at fronts n = slice_index_or fronts n (no_front true)
