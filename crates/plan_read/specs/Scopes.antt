-- What the scopes that are kept while operators are gone through stand for: the kinds of the variables that each operator binds.
use Rattle.std.specs.Prelude.{◌≡◌, ◌≤◌, ◌+◌, ℕ, Bool, true, false, not, ◌&&◌, ◌==◌, List, [], ◌∷◌, length, slice_get, Option, None, Some, option_map}
use Rattle.std.specs.List.{AllByRecursion, count_by, flat_map, list_all, list_any}
use Rattle.std.specs.Ordering.{nat_cmp}
use Rattle.std.specs.BTreeMap.{get}
use Rattle.std.specs.BTreeSet.{BTreeSet, contains}
use Rattle.mix_tree.specs.Comparisons.{compares_nodes}
use Rattle.mix_tree.specs.Keys.{key_var}
use Rattle.mix_tree.specs.declared.var.Key.{Key}
use Rattle.mix_tree.specs.declared.comparing.Operand.{Operand}
use Rattle.mix_tree.specs.declared.comparing.Operand.TheVariants.{Var as var_operand, Text as text_operand}
use Rattle.mix_tree.specs.declared.comparing.Test.{Test}
use Rattle.mix_tree.specs.declared.comparing.TestOp.{TestOp}
use Rattle.plan_core.specs.declared.plan.Piece.{Piece}
use Rattle.plan_core.specs.declared.plan.Piece.TheVariants.{Var as var_piece, LabelOf as label_piece, Text as text_piece}
use Rattle.plan_core.specs.Plans.{Operator}
use Rattle.plan_core.specs.Shapes.{Made, a_list_of, an_element_of, Stage, filters, extends, first_by_keys, one_group, in_order, Shape, one_source, visits_below, pairs_up, passes_on, no_events, shape_of}
use Rattle.plan_core.specs.Valid.{Kind, a_node, an_element, a_list, Kinds, no_kinds, with_kind, either_kind, stage_kinds, IsFit, inputs_of, outs_of, uses_of}
use Rattle.plan_read.specs.Checks.{IsShort}
use Rattle.plan_read.specs.declared.scope.Bound.{Bound}
use Rattle.plan_read.specs.declared.scope.Bound.TheVariants as bound
use Rattle.plan_read.specs.declared.scope.Scope.{Scope}
use Rattle.plan_read.specs.declared.scopes.Scopes.{Scopes}

-- what a variable is bound to
abbrev pub kind_of : Bound → Kind
kind_of bound.Node = a_node
kind_of bound.Element = an_element
kind_of bound.List = a_list

-- the kinds of a scope's variables
abbrev pub kinds_in : Scope → Kinds
kinds_in s v = option_map kind_of (get nat_cmp s.vars v)

-- whether a kind is that of a source node
abbrev pub is_a_node : Option Kind → Bool
is_a_node None = false
is_a_node (Some a_node) = true
is_a_node (Some an_element) = false
is_a_node (Some a_list) = false

-- whether there is a kind
abbrev pub is_a_kind : Option Kind → Bool
is_a_kind None = false
is_a_kind (Some k) = true

-- whether there is a kind, and not that of a list
abbrev pub is_no_list : Option Kind → Bool
is_no_list None = false
is_no_list (Some a_node) = true
is_no_list (Some an_element) = true
is_no_list (Some a_list) = false

-- whether keys are of source nodes
abbrev pub keys_fit : Kinds → List Key → Bool
keys_fit kinds keys = list_all (λ k. is_a_node (kinds (key_var k))) keys

-- whether an operand is one that this can be compared with
abbrev pub operand_fits : Kinds → TestOp → Operand → Bool
operand_fits kinds op (var_operand v) = is_a_node (kinds v)
operand_fits kinds op (text_operand label) = not (compares_nodes op)

-- whether a comparison is of a source node
abbrev pub test_fits : Kinds → Test → Bool
test_fits kinds t = operand_fits kinds t.op t.right && is_a_node (kinds t.left)

-- whether a piece is of a bound variable, or of a source node's label
abbrev pub piece_fits : Kinds → Piece → Bool
piece_fits kinds (var_piece v) = is_a_kind (kinds v)
piece_fits kinds (label_piece v) = is_a_node (kinds v)
piece_fits kinds (text_piece label) = true

-- whether a variable's kind is known, and not that of a list
abbrev pub single_fits : Kinds → Piece → Bool
single_fits kinds (var_piece v) = is_no_list (kinds v)
single_fits kinds (label_piece v) = is_a_node (kinds v)
single_fits kinds (text_piece label) = true

-- whether a kind is that of a made element
abbrev pub is_a_made : Option Kind → Bool
is_a_made None = false
is_a_made (Some a_node) = false
is_a_made (Some an_element) = true
is_a_made (Some a_list) = false

-- whether a kind is that of a list
abbrev pub is_a_list : Option Kind → Bool
is_a_list None = false
is_a_list (Some a_node) = false
is_a_list (Some an_element) = false
is_a_list (Some a_list) = true

-- whether what is made is made of what is bound
abbrev pub made_fits : Kinds → Made → Bool
made_fits kinds (a_list_of pieces) = list_all (piece_fits kinds) pieces
made_fits kinds (an_element_of label list) = is_a_list (kinds list)

-- whether what a stage uses is bound below it, and of the kind that it needs
abbrev pub stage_fits : Kinds → Stage → Bool
stage_fits kinds (filters test) = test_fits kinds test
stage_fits kinds (extends out made) = made_fits kinds made
stage_fits kinds (first_by_keys keys None) = keys_fit kinds keys
stage_fits kinds (first_by_keys keys (Some group)) = keys_fit kinds keys && single_fits kinds group.0
stage_fits kinds (one_group piece out) = single_fits kinds piece
stage_fits kinds (in_order v desc) = is_a_node (kinds v)

-- whether what a shape uses is bound by its inputs, and of the kind that it needs; `kinds` are those that its inputs bind together
abbrev pub shape_fits : Shape → Kinds → Bool
shape_fits (one_source s out) kinds = true
shape_fits (visits_below input start path out) kinds = is_a_node (kinds start)
shape_fits (pairs_up left right tests) kinds = list_all (test_fits kinds) tests
shape_fits (passes_on input stage) kinds = stage_fits kinds stage
shape_fits (no_events input made) kinds = is_a_made (kinds made)

-- the kinds that inputs bind together
abbrev pub kinds_below : List ℕ → (ℕ → Kinds) → Kinds
kinds_below [] of = no_kinds
kinds_below (i ∷ []) of = of i
kinds_below (i ∷ j ∷ is) of = λ v. either_kind (of i v) (of j v)

-- the kinds that a shape binds, from those that its inputs bind together
abbrev pub kinds_above : Shape → Kinds → Kinds
kinds_above (one_source s out) kinds = with_kind out a_node kinds
kinds_above (visits_below input start path out) kinds = with_kind out a_node kinds
kinds_above (pairs_up left right tests) kinds = kinds
kinds_above (passes_on input stage) kinds = stage_kinds stage kinds
kinds_above (no_events input made) kinds = no_kinds

-- the tests decide what a valid plan needs of an operator whose path is short
pub record FitIsDecided : Type 0 where
  pub sound : (op : Operator) (of : ℕ → Kinds) → IsShort (shape_of op) → shape_fits (shape_of op) (kinds_below (inputs_of op) of) ≡ true → IsFit op of
  pub complete : (op : Operator) (of : ℕ → Kinds) → IsFit op of → IsShort (shape_of op) × (shape_fits (shape_of op) (kinds_below (inputs_of op) of) ≡ true)

-- what is kept of an operator that is used n times and binds these kinds: nothing past the end, no scope where it is used once, and where it isn't
-- used its scope
abbrev pub IsSlot : Option (Option Scope) → ℕ → Kinds → Type 0
IsSlot None n kinds = Unit {0}
IsSlot (Some None) n kinds = n ≡ 1
IsSlot (Some (Some s)) n kinds = (n ≡ 0) × ((v : ℕ) → kinds_in s v ≡ kinds v)

-- what is kept of so many operators, of which number i is used so often and binds the kinds of i
pub record AreSlots (slots : List (Option Scope)) (count : ℕ) (uses : ℕ → ℕ) (of : ℕ → Kinds) : Type 0 where
  pub many : length slots ≡ count
  pub each : (i : ℕ) → IsSlot (slice_get slots i) (uses i) (of i)

-- the scope in a slot, where there is a slot and it has one
abbrev pub scope_in : Option (Option Scope) → Option Scope
scope_in None = None
scope_in (Some s) = s

-- whether the operator of a slot is there, and isn't used
abbrev pub is_open : Option (Option Scope) → Bool
is_open None = false
is_open (Some None) = false
is_open (Some (Some s)) = true

-- how often operator n is used, where these inputs are used too
abbrev pub used_more : (ℕ → ℕ) → List ℕ → ℕ → ℕ
used_more uses inputs n = uses n + count_by (λ i. i == n) inputs

-- no input is used more than once
abbrev pub AreOnce : (ℕ → ℕ) → List ℕ → Type 0
AreOnce uses inputs = AllByRecursion (λ i. used_more uses inputs i ≤ 1) inputs

-- what taking the scopes of inputs gives: nothing where an input is used twice, and else the scope of the kinds that they bind together, the slots
-- being what is left
abbrev pub IsBelow : List (Option Scope) → ℕ → (ℕ → ℕ) → (ℕ → Kinds) → List ℕ → Option Scope → Type 0
IsBelow slots count uses of inputs None = AreOnce uses inputs → ⊥
IsBelow slots count uses of inputs (Some s) =
    AreOnce uses inputs × ((v : ℕ) → kinds_in s v ≡ kinds_below inputs of v) × AreSlots slots count (used_more uses inputs) of

-- the set has exactly these variables
abbrev pub AreOuts : BTreeSet ℕ → List ℕ → Type 0
AreOuts set vars = (v : ℕ) → contains nat_cmp set v ≡ list_any (λ w. w == v) vars

-- what is kept after operators that bind these kinds, each by its number
pub record AreScopes (s : Scopes) (before : List Operator) (of : ℕ → Kinds) : Type 0 where
  pub slots : AreSlots s.slots.items (length before) (uses_of before) of
  pub outs : AreOuts s.outs (flat_map outs_of before)

-- an operator that stands after others is sound: what it uses is bound and of the kind that it needs, it binds a new variable, and it uses no
-- input a second time
pub record IsSoundAfter (before : List Operator) (op : Operator) (of : ℕ → Kinds) : Type 0 where
  pub fit : shape_fits (shape_of op) (kinds_below (inputs_of op) of) ≡ true
  pub new : AllByRecursion (λ v. list_any (λ w. w == v) (flat_map outs_of before) ≡ false) (outs_of op)
  pub once : AreOnce (uses_of before) (inputs_of op)
