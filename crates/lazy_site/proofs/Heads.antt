-- The trees of pieces that are no lists.
use Rattle.std.proofs.Common.{◌≡◌, ◌<◌, ℕ, ◌∙◌, sym, ap, subst, arith}
use Rattle.std.specs.Prelude.{Result, Ok, Err, IfOk}
use Rattle.mix_tree.specs.Nodes.{Node, label_at}
use Rattle.tree_buffer.specs.declared.spot.Spot.{Spot}
use Rattle.plan_core.specs.declared.plan.Piece.{Piece}
use Rattle.plan_core.specs.declared.plan.Piece.TheVariants.{Var as var_piece, LabelOf as label_piece}
use Rattle.plan_core.specs.Tolled.{Tolled, ends, item}
use Rattle.plan_core.specs.TolledRows.{TolledValue, source_node, value_trees, piece_items}
use Rattle.lazy_plan.specs.Bench.{BenchState, ops_of, documents, binding_at}
use Rattle.lazy_binding.specs.declared.position.Position.{Position}
use Rattle.plan_forms.specs.Forms.{input_at, piece_at}
use Rattle.lazy_site.specs.Origins.{IsOriginOf, IsTreeOf, IsTreeOfPiece, IsHeadOf}
use Rattle.lazy_site.specs.declared.sites.Head.{Head}
use Rattle.lazy_site.specs.declared.sites.Head.TheVariants.{Whole, Built, Leaf, Text}
use Rattle.lazy_site.specs.declared.sites.Origin.TheVariants.{Node as node_origin, Element as element_origin}

-- what follows from a property of an answer holds of an answer that has the property
pub if_ok : {T E : Type 0} (r : Result T E) (P Q : T → Type 0) → ((x : T) → P x → Q x) → IfOk r P → IfOk r Q
if_ok (Ok x) P Q f h = f x h
if_ok (Err e) P Q f h = tt

module _ (st : BenchState) (op index input : ℕ) (c : Position) (p : Piece) (v : ℕ) (e : p ≡ piece_at (ops_of st) op index) (i : input ≡ input_at (ops_of st) op) where
  -- the trees of a piece over a cursor of the input are those of the piece over the binding there
  items_are : (q : Piece) → p ≡ q → (rest : Tolled) → piece_items (documents st) (piece_at (ops_of st) op index) (binding_at st (input_at (ops_of st) op) c) rest ≡ piece_items (documents st) q (binding_at st input c) rest
  items_are q z rest =
      ap (λ (k : ℕ). piece_items (documents st) (piece_at (ops_of st) op index) (binding_at st k c) rest) (sym i)
      ∙ ap (λ (k : Piece). piece_items (documents st) k (binding_at st input c) rest) (sym e ∙ z)

  -- what is the tree of a piece is that of the operator's piece
  of_piece : (q : Piece) → p ≡ q → (h : Head) → IsTreeOfPiece st input c q h → IsTreeOfPiece st (input_at (ops_of st) op) c (piece_at (ops_of st) op index) h
  of_piece q z h t = subst (λ (k : ℕ). IsTreeOfPiece st k c (piece_at (ops_of st) op index) h) i (subst (λ (k : Piece). IsTreeOfPiece st input c k h) (sym z ∙ e) t)

  -- a leaf with the label of a node
  pub leaf_head : (s : ℕ) (x : Spot) → p ≡ label_piece v → IsOriginOf st input c v (node_origin s x) → IsHeadOf st op index c (Leaf s x)
  leaf_head s x z o = record {
    head = o.origin;
    rank = omega arith;
    of_piece = of_piece (label_piece v) z (Leaf s x) o;
    trees = λ rest. items_are (label_piece v) z rest ∙ ap (λ (n : Node). item 0 (label_at (documents st) n) (ends 0) rest) (ap source_node o.value);
  }

  -- a node with all below it is the head of its piece
  node_head : (s : ℕ) (x : Spot) → p ≡ var_piece v → IsOriginOf st input c v (node_origin s x) → IsHeadOf st op index c (Whole s x)
  node_head s x z o = record {
    head = o.origin;
    rank = omega arith;
    of_piece = of_piece (var_piece v) z (Whole s x) o;
    trees = λ rest. items_are (var_piece v) z rest ∙ ap (λ (t : TolledValue). value_trees (documents st) t rest) o.value;
  }

  -- an element that an operator makes
  element_head : (maker : ℕ) (at : Position) → p ≡ var_piece v → IsOriginOf st input c v (element_origin maker at) → input < op → IsHeadOf st op index c (Built maker at)
  element_head maker at z o l = record {
    head = o.origin;
    rank = (let r = o.rank in omega (arith, r, l));
    of_piece = of_piece (var_piece v) z (Built maker at) o;
    trees = λ rest. items_are (var_piece v) z rest ∙ ap (λ (t : TolledValue). value_trees (documents st) t rest) o.value;
  }

  -- where a variable's value is the tree of a node alone, that node is the head of the variable's piece
  pub tree_head : (x : Head) → p ≡ var_piece v → IsTreeOf st input c v x → input < op → IsHeadOf st op index c x
  tree_head (Whole s x) z o l = node_head s x z o
  tree_head (Built maker at) z o l = element_head maker at z o l
  tree_head (Leaf s x) z o l = absurd o
  tree_head (Text maker i) z o l = absurd o
