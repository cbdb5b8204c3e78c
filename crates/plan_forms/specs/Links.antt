-- By which variables the bindings of a join's right side are looked up.
use Rattle.std.specs.Prelude.{ℕ, cond, is_some, Option, None, Some, List, [], ◌∷◌}
use Rattle.mix_tree.specs.declared.comparing.Operand.{Operand}
use Rattle.mix_tree.specs.declared.comparing.Operand.TheVariants.{Var as var_operand, Text as text_operand}
use Rattle.mix_tree.specs.declared.comparing.Test.{Test}
use Rattle.mix_tree.specs.declared.comparing.TestOp.{TestOp}
use Rattle.mix_tree.specs.declared.comparing.TestOp.TheVariants.{Eq, Same}
use Rattle.plan_core.specs.Plans.{Operator}
use Rattle.plan_core.specs.Shapes.{Shape, pairs_up, shape_of, shape_at}
use Rattle.plan_core.specs.Valid.{Kinds, kinds}
use Rattle.plan_forms.specs.declared.link.Link.{Link}
use Rattle.plan_forms.specs.declared.link.LinkKind.{LinkKind}
use Rattle.plan_forms.specs.declared.link.Side.{Side}
use Rattle.plan_forms.specs.declared.link.Side.TheVariants.{Left as on_left, Right as on_right}
use Rattle.plan_forms.specs.declared.link.LinkKind.TheVariants.{Label as by_label, Node as by_node}

-- by what the two sides of a comparison are looked up by each other: of equal labels by the label, of nodes by the node; of others by nothing
abbrev pub link_kind : TestOp → Option LinkKind
link_kind Eq = Some by_label
link_kind Same = Some by_node
link_kind op = None

-- the link of two variables: the one that the left side binds, and then the other; none where it binds both, or neither
abbrev pub on_sides : Kinds → LinkKind → ℕ → ℕ → Option Link
on_sides left by v u =
    cond (is_some (left v)) (cond (is_some (left u)) None (Some (record { left = v; right = u; by = by }))) (cond (is_some (left u)) (Some (record { left = u; right = v; by = by })) None)

-- the link of a variable and the other operand of its comparison; a text has none
abbrev pub operand_link : Kinds → LinkKind → ℕ → Operand → Option Link
operand_link left by v (var_operand u) = on_sides left by v u
operand_link left by v (text_operand label) = None

-- the link of a variable and the other operand of its comparison, where the comparison lets them be looked up by something
abbrev pub kind_link : Kinds → Option LinkKind → ℕ → Operand → Option Link
kind_link left None v o = None
kind_link left (Some by) v o = operand_link left by v o

-- the link of a comparison of a join: of equal labels or of nodes, where the left side binds one of its variables alone
abbrev pub test_link : Kinds → Test → Option Link
test_link left t = kind_link left (link_kind t.op) t.left t.right

-- a list of links with one more before it, where there is one
abbrev pub with_link : Option Link → List Link → List Link
with_link None links = links
with_link (Some link) links = link ∷ links

-- the links of a join's comparisons, in their order
abbrev pub all_links : Kinds → List Test → List Link
all_links left [] = []
all_links left (t ∷ tests) = with_link (test_link left t) (all_links left tests)

-- the links by which an operator of this shape looks members up; only a shape that pairs two sides has some
abbrev pub shape_links : List Operator → Shape → List Link
shape_links ops (pairs_up l r tests) = all_links (kinds ops l) tests
shape_links ops f = []

-- the links by which this operator of a plan looks members up
abbrev pub op_links : List Operator → Operator → List Link
op_links ops op = shape_links ops (shape_of op)

-- the links by which operator n of a plan looks members up
abbrev pub links_at : List Operator → ℕ → List Link
links_at ops n = shape_links ops (shape_at ops n)

-- the variable of a link on a side of its join
abbrev pub side_var : Side → Link → ℕ
side_var on_left link = link.left
side_var on_right link = link.right

-- a link where it is by labels
abbrev pub if_label : LinkKind → Link → Option Link
if_label by_label link = Some link
if_label by_node link = None

-- the only one of these links, where it is by labels
abbrev pub only_label : List Link → Option Link
only_label [] = None
only_label (link ∷ []) = if_label link.by link
only_label (link ∷ other ∷ links) = None
