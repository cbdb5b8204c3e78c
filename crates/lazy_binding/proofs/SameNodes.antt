-- Comparisons of nodes, by their spots.
use Rattle.std.proofs.Common.{◌≡◌, ℕ, Bool, true, List, Some, ◌∙◌, sym, ap}
use Rattle.std.specs.Prelude.{◌==◌, ◌&&◌}
use Rattle.std.proofs.lemmas.Bool.{eq-eqb, ne_eqb}
use Rattle.mix_tree.specs.Nodes.{Node, same_node}
use Rattle.mix_tree.specs.Comparisons.{compares_nodes, passes}
use Rattle.mix_tree.specs.declared.comparing.Operand.{Operand}
use Rattle.mix_tree.specs.declared.comparing.Operand.TheVariants.{Var as var_operand, Text as text_operand}
use Rattle.mix_tree.specs.declared.comparing.Test.{Test}
use Rattle.mix_tree.specs.declared.comparing.TestOp.{TestOp}
use Rattle.mix_tree.proofs.Compared.{passes_nodes}
use Rattle.tree_buffer.specs.declared.spot.Spot.{Spot}
use Rattle.tree_buffer.specs.Law.{SpotsAreOne}
use Rattle.plan_core.specs.Plans.{Operator}
use Rattle.plan_core.specs.TolledRows.{row_node}
use Rattle.plan_core.specs.Valid.{Kinds, a_node, IsOperand}
use Rattle.lazy_binding.specs.declared.position.Position.{Position}
use Rattle.lazy_binding.specs.declared.key.KeyPart.TheVariants.{Node as node_part}
use Rattle.lazy_binding.specs.World.{World, docs_of, spot_node}
use Rattle.lazy_binding.specs.Cursors.{binding}
use Rattle.lazy_binding.specs.Reading.{Found}
use Rattle.lazy_binding.proofs.SameKeys.{same_part-is}

-- nodes are compared with a variable that holds a node
pub node_right : (k : Kinds) (op : TestOp) (right : Operand) (v : ℕ) → IsOperand k op right → right ≡ var_operand v → k v ≡ Some a_node
node_right k op (var_operand u) v h e = (let f : u ≡ v = cc in ap k (sym f) ∙ h)
node_right k op (text_operand label) v h e = cc

-- a comparison of nodes has no text as an operand
pub no_text : (k : Kinds) (op : TestOp) (right : Operand) (label : List ℕ) → IsOperand k op right → compares_nodes op ≡ true → right ≡ text_operand label → ⊥
no_text k op (var_operand u) label h n e = cc
no_text k op (text_operand l) label h n e = cc

module _ (ops : List Operator) (n : ℕ) (c : Position) (t : Test) (nodes : compares_nodes t.op ≡ true) (v : ℕ) (is : t.right ≡ var_operand v) (w : World) (s r : ℕ) (x y : Spot)
    (f : Found w ops n c t.left s x) (g : Found w ops n c v r y) (ones : SpotsAreOne) where
  -- a comparison of nodes holds where both are one spot of one source
  same_spots : (s == r) && (x.number == y.number) ≡ passes (docs_of w) t (row_node (binding w ops n c))
  same_spots =
      same_part-is ones w (node_part s x) (node_part r y) f.known g.known
      ∙ ap (λ (m : Node). same_node m (spot_node w r y)) (sym f.node)
      ∙ ap (same_node (row_node (binding w ops n c) t.left)) (sym g.node)
      ∙ sym (passes_nodes (docs_of w) t (row_node (binding w ops n c)) v nodes is)

  -- a comparison of two nodes of one source holds exactly where both are one spot
  pub in_one_source : s ≡ r → (x.number == y.number) ≡ passes (docs_of w) t (row_node (binding w ops n c))
  in_one_source e = sym (ap (λ (z : Bool). z && (x.number == y.number)) (eq-eqb s r e)) ∙ same_spots

  -- a comparison of two nodes of different sources does not hold
  pub in_two_sources : (s ≡ r → ⊥) → (s == r) ≡ passes (docs_of w) t (row_node (binding w ops n c))
  in_two_sources e = ne_eqb s r e ∙ sym (ap (λ (z : Bool). z && (x.number == y.number)) (ne_eqb s r e)) ∙ same_spots
