-- Keys by which the bindings of an operator are told apart, and which bindings evidence is of.
use Rattle.std.specs.Prelude.{◌≡◌, ◌<◌, ℕ, Bool, true, cond, Option, Some, None, List, [], ◌∷◌, ◌++◌, map, length}
use Rattle.std.specs.List.{flat_map, AllByRecursion}
use Rattle.mix_tree.specs.Comparisons.{compares_nodes}
use Rattle.mix_tree.specs.Nodes.{Documents, Node}
use Rattle.mix_tree.specs.declared.comparing.Operand.{Operand}
use Rattle.mix_tree.specs.declared.comparing.Operand.TheVariants.{Var as var_operand, Text as text_operand}
use Rattle.mix_tree.specs.declared.comparing.Test.{Test}
use Rattle.mix_tree.specs.declared.var.Key.{Key}
use Rattle.mix_tree.specs.declared.var.Key.TheVariants.{Node as node_key, LabelOf as label_key}
use Rattle.plan_core.specs.declared.plan.Piece.{Piece}
use Rattle.plan_core.specs.declared.plan.Piece.TheVariants.{Var as var_piece, LabelOf as label_piece, Text as text_piece}
use Rattle.plan_core.specs.ByNumber.{by_number}
use Rattle.plan_core.specs.Fronts.{covers}
use Rattle.plan_core.specs.Plans.{Operator}
use Rattle.plan_core.specs.Shapes.{a_list_of, an_element_of, Stage, filters, extends, first_by_keys, one_group, in_order, Shape, one_source, visits_below, pairs_up, passes_on, no_events, shape_of, shape_at}
use Rattle.plan_core.specs.TolledRows.{TolledRow, KeyValue, key_value, key_values, same_values}
use Rattle.plan_core.specs.Valid.{Kind, a_node, an_element, a_list, Kinds, kinds}

-- the keys that a stage holds, from those that its input holds: first bindings hold the keys by which they were taken, one group of all holds none
abbrev pub stage_held : Stage → List Key → List Key
stage_held (filters test) keys = keys
stage_held (extends out made) keys = keys
stage_held (first_by_keys own group) keys = own
stage_held (one_group piece out) keys = []
stage_held (in_order v desc) keys = keys

-- the keys that a shape holds, from those that its inputs hold: a source and a visit hold the node of the variable that they bind
abbrev pub shape_held : Shape → (ℕ → List Key) → List Key
shape_held (one_source s out) of = node_key out ∷ []
shape_held (visits_below input start path out) of = of input ++ node_key out ∷ []
shape_held (pairs_up left right tests) of = of left ++ of right
shape_held (passes_on input stage) of = stage_held stage (of input)
shape_held (no_events input made) of = []

-- the keys that operator n holds: the nodes of its variables, or their labels alone where first bindings were taken by these
unfoldable pub held : List Operator → ℕ → List Key
held ops n = by_number (λ op of. shape_held (shape_of op) of) [] ops n

-- what keys compare of nodes
abbrev pub node_values : Documents → List Key → (ℕ → Node) → List KeyValue
node_values docs keys nodes = map (key_value docs nodes) keys

-- the nodes of variables are evidence of this binding of operator n: they agree with it by the keys that the operator holds
abbrev pub AreOf : Documents → List Operator → ℕ → (ℕ → Node) → TolledRow → Type 0
AreOf docs ops n nodes row = same_values (node_values docs (held ops n) nodes) (key_values docs (held ops n) row) ≡ true

-- the key by which a comparison's right side is told: the node of its variable where nodes are compared, else its label; none for a text
abbrev pub operand_uses : Bool → Operand → List Key
operand_uses of_nodes (var_operand v) = cond of_nodes (node_key v) (label_key v) ∷ []
operand_uses of_nodes (text_operand label) = []

-- the keys by which a comparison is told: the nodes of its variables where nodes are compared, else their labels
abbrev pub test_uses : Test → List Key
test_uses t = cond (compares_nodes t.op) (node_key t.left) (label_key t.left) ∷ operand_uses (compares_nodes t.op) t.right

-- the key by which is told what a variable of a kind shows: its node where it is one, since its subtree is shown; none where it was made
abbrev pub kind_uses : ℕ → Option Kind → List Key
kind_uses v None = []
kind_uses v (Some a_node) = node_key v ∷ []
kind_uses v (Some an_element) = []
kind_uses v (Some a_list) = []

-- the key by which a piece is told: a node where its subtree is shown, a label where that alone is
abbrev pub piece_uses : Kinds → Piece → List Key
piece_uses kinds (var_piece v) = kind_uses v (kinds v)
piece_uses kinds (label_piece v) = label_key v ∷ []
piece_uses kinds (text_piece label) = []

-- the keys by which is told what a stage makes of a binding: those of its comparison, its pieces, its own keys, or its order
abbrev pub stage_uses : Kinds → Stage → List Key
stage_uses kinds (filters test) = test_uses test
stage_uses kinds (extends out (a_list_of pieces)) = flat_map (piece_uses kinds) pieces
stage_uses kinds (extends out (an_element_of label list)) = []
stage_uses kinds (first_by_keys own None) = own
stage_uses kinds (first_by_keys own (Some group)) = own ++ piece_uses kinds group.0
stage_uses kinds (one_group piece out) = piece_uses kinds piece
stage_uses kinds (in_order v desc) = label_key v ∷ []

-- a shape uses of its inputs what they hold alone: the keys by which it is told are covered by those that its inputs hold
abbrev pub ShapeUses : (ℕ → Kinds) → (ℕ → List Key) → Shape → Type 0
ShapeUses kinds of (one_source s out) = Unit {0}
ShapeUses kinds of (visits_below input start path out) = covers (of input) (node_key start ∷ []) ≡ true
ShapeUses kinds of (pairs_up left right tests) = AllByRecursion (λ t. covers (of left ++ of right) (test_uses t) ≡ true) tests
ShapeUses kinds of (passes_on input stage) = covers (of input) (stage_uses (kinds input) stage) ≡ true
ShapeUses kinds of (no_events input made) = Unit {0}

-- each operator uses what its inputs hold alone: a variable that a project or a groupBy holds by its label is used above it for its label alone
abbrev pub UsesHeld : List Operator → Type 0
UsesHeld ops = (n : ℕ) → n < length ops → ShapeUses (kinds ops) (held ops) (shape_at ops n)
