-- Comparisons of labels, and comparisons of nodes.
use Rattle.std.proofs.Common.{◌≡◌, ◌||◌, ℕ, Bool, true, false, List, refl, ◌∙◌, ap}
use Rattle.std.proofs.Math.Bool.{or-false}
use Rattle.mix_tree.specs.Nodes.{Documents, Node, same_node, label_at}
use Rattle.mix_tree.specs.LabelOrder.{compares}
use Rattle.mix_tree.specs.Comparisons.{operand_label, compares_nodes, is_same, passes}
use Rattle.mix_tree.specs.declared.comparing.Operand.{Operand}
use Rattle.mix_tree.specs.declared.comparing.Operand.TheVariants.{Var as var_operand}
use Rattle.mix_tree.specs.declared.comparing.Test.{Test}
use Rattle.mix_tree.specs.declared.comparing.TestOp.{TestOp}
use Rattle.mix_tree.specs.declared.comparing.TestOp.TheVariants.{Eq, Ne, Lt, Le, Gt, Ge, Same}

-- a comparison of labels asks for no node
no_node : (op : TestOp) (a : Bool) (n : Node) (right : Operand) (nodes : ℕ → Node) → compares_nodes op ≡ false → a || is_same op n right nodes ≡ a
no_node Eq a n right nodes e = or-false a
no_node Ne a n right nodes e = or-false a
no_node Lt a n right nodes e = or-false a
no_node Le a n right nodes e = or-false a
no_node Gt a n right nodes e = or-false a
no_node Ge a n right nodes e = or-false a
no_node Same a n right nodes e = cc

-- a comparison of nodes asks for no label
no_label : (op : TestOp) (a b : List ℕ) (n : Node) (v : ℕ) (nodes : ℕ → Node) → compares_nodes op ≡ true → compares op a b || is_same op n (var_operand v) nodes ≡ same_node n (nodes v)
no_label Eq a b n v nodes e = cc
no_label Ne a b n v nodes e = cc
no_label Lt a b n v nodes e = cc
no_label Le a b n v nodes e = cc
no_label Gt a b n v nodes e = cc
no_label Ge a b n v nodes e = cc
no_label Same a b n v nodes e = refl

-- a comparison of labels holds where it holds of the labels
pub passes_labels : (docs : Documents) (t : Test) (nodes : ℕ → Node) → compares_nodes t.op ≡ false → passes docs t nodes ≡ compares t.op (label_at docs (nodes t.left)) (operand_label docs t.right nodes)
passes_labels docs t nodes e = no_node t.op (compares t.op (label_at docs (nodes t.left)) (operand_label docs t.right nodes)) (nodes t.left) t.right nodes e

-- a comparison of nodes holds where two variables have the same node
pub passes_nodes : (docs : Documents) (t : Test) (nodes : ℕ → Node) (v : ℕ) → compares_nodes t.op ≡ true → t.right ≡ var_operand v → passes docs t nodes ≡ same_node (nodes t.left) (nodes v)
passes_nodes docs t nodes v e r =
    ap (λ (o : Operand). compares t.op (label_at docs (nodes t.left)) (operand_label docs o nodes) || is_same t.op (nodes t.left) o nodes) r
    ∙ no_label t.op (label_at docs (nodes t.left)) (label_at docs (nodes v)) (nodes t.left) v nodes e

-- what isn't a comparison of nodes is one of labels
pub of_labels : (op : TestOp) → (op ≡ Same → ⊥) → compares_nodes op ≡ false
of_labels Eq h = refl
of_labels Ne h = refl
of_labels Lt h = refl
of_labels Le h = refl
of_labels Gt h = refl
of_labels Ge h = refl
of_labels Same h = absurd (h refl)
