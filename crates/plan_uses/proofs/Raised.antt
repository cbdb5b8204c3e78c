-- A tree of which all variables are renamed uses what is held where the tree does.
use Rattle.std.proofs.Common.{◌≡◌, ℕ, ◌+◌, Bool, true, false, cond, List, [], ◌∷◌, ◌++◌, map, refl, ◌∙◌, sym, ap, Option, Some, None}
use Rattle.std.specs.List.{flat_map, AllByRecursion}
use Rattle.mix_tree.specs.Comparisons.{compares_nodes}
use Rattle.mix_tree.specs.declared.comparing.Operand.{Operand}
use Rattle.mix_tree.specs.declared.comparing.Operand.TheVariants.{Var as var_operand, Text as text_operand}
use Rattle.mix_tree.specs.declared.comparing.Test.{Test}
use Rattle.mix_tree.specs.declared.var.Key.{Key}
use Rattle.mix_tree.specs.declared.var.Key.TheVariants.{Node as node_key, LabelOf as label_key}
use Rattle.xmas_rule.proofs.Members.{map-append}
use Rattle.plan_core.specs.declared.plan.Piece.{Piece}
use Rattle.plan_core.specs.declared.plan.Piece.TheVariants.{Var as var_piece, LabelOf as label_piece, Text as text_piece}
use Rattle.plan_core.specs.Fronts.{covers}
use Rattle.plan_core.specs.Shapes.{stage_of}
use Rattle.plan_core.specs.Unary.{Unary, select, order_by, project, group_by, concatenate, create_element}
use Rattle.plan_core.specs.Valid.{Kind, a_node, an_element, a_list, Kinds}
use Rattle.plan_evidence.specs.Held.{stage_held, operand_uses, test_uses, kind_uses, piece_uses, stage_uses}
use Rattle.plan_make.specs.Raised.{raised_key, raised_operand, raised_test, raised_piece, raised_unary, raised}
use Rattle.plan_make.specs.Trees.{Tree, begin, descend, both, above}
use Rattle.plan_make.proofs.RaisedParts.{IsRaised, raised_kinds}
use Rattle.plan_make.proofs.TreeParts.{tree_kinds}
use Rattle.plan_uses.proofs.Keys.{covers-raised}
use Rattle.plan_uses.proofs.Trees.{tree_held, TreeUses}

-- an operator with one input over renamed variables holds what it held, renamed
unary_held : (r : ℕ) (op : Unary) (keys : List Key) → stage_held (stage_of (raised_unary r op)) (map (raised_key r) keys) ≡ map (raised_key r) (stage_held (stage_of op) keys)
unary_held r (select t) keys = refl
unary_held r (order_by v desc) keys = refl
unary_held r (project own) keys = refl
unary_held r (group_by [] piece out) keys = refl
unary_held r (group_by (k ∷ own) piece out) keys = refl
unary_held r (concatenate pieces out) keys = refl
unary_held r (create_element label list out) keys = refl

-- a renamed tree holds what the tree holds, renamed
pub raised-held : (r : ℕ) (t : Tree) → tree_held (raised r t) ≡ map (raised_key r) (tree_held t)
unfolding tree_held
raised-held r (begin s out) = refl
raised-held r (descend t start path out) = ap (λ (z : List Key). z ++ node_key (r + out) ∷ []) (raised-held r t) ∙ sym (map-append (raised_key r) (tree_held t) (node_key out ∷ []))
raised-held r (both l m tests) =
    ap (λ (z : List Key). z ++ tree_held (raised r m)) (raised-held r l) ∙ ap (λ (z : List Key). map (raised_key r) (tree_held l) ++ z) (raised-held r m)
    ∙ sym (map-append (raised_key r) (tree_held l) (tree_held m))
raised-held r (above t op) = ap (stage_held (stage_of (raised_unary r op))) (raised-held r t) ∙ unary_held r op (tree_held t)

-- USED KEYS

-- the key of a renamed variable, of its node or of its label, is that of the variable, renamed
either_key : (r : ℕ) (b : Bool) (v : ℕ) → cond b (node_key (r + v)) (label_key (r + v)) ≡ raised_key r (cond b (node_key v) (label_key v))
either_key r true v = refl
either_key r false v = refl

-- the key by which a renamed right side is told is the one of the right side, renamed
operand_raised : (r : ℕ) (b : Bool) (o : Operand) → operand_uses b (raised_operand r o) ≡ map (raised_key r) (operand_uses b o)
operand_raised r b (var_operand v) = ap (λ (k : Key). k ∷ []) (either_key r b v)
operand_raised r b (text_operand label) = refl

-- the keys by which a renamed comparison is told are those of the comparison, renamed
test_raised : (r : ℕ) (t : Test) → test_uses (raised_test r t) ≡ map (raised_key r) (test_uses t)
test_raised r t =
    ap (λ (k : Key). k ∷ operand_uses (compares_nodes t.op) (raised_operand r t.right)) (either_key r (compares_nodes t.op) t.left)
    ∙ ap (λ (ks : List Key). raised_key r (cond (compares_nodes t.op) (node_key t.left) (label_key t.left)) ∷ ks) (operand_raised r (compares_nodes t.op) t.right)

-- the key by which a renamed variable of a kind is told is that of the variable, renamed
kind_raised : (r v : ℕ) (k : Option Kind) → kind_uses (r + v) k ≡ map (raised_key r) (kind_uses v k)
kind_raised r v None = refl
kind_raised r v (Some a_node) = refl
kind_raised r v (Some an_element) = refl
kind_raised r v (Some a_list) = refl

module _ (r : ℕ) (low high : Kinds) (h : IsRaised r low high) where
  -- the key by which a renamed piece is told is that of the piece, renamed
  piece_raised : (p : Piece) → piece_uses high (raised_piece r p) ≡ map (raised_key r) (piece_uses low p)
  piece_raised (var_piece v) = ap (kind_uses (r + v)) (h.same v) ∙ kind_raised r v (low v)
  piece_raised (label_piece v) = refl
  piece_raised (text_piece label) = refl

  -- the keys by which renamed pieces are told are those of the pieces, renamed
  pieces_raised : (ps : List Piece) → flat_map (piece_uses high) (map (raised_piece r) ps) ≡ map (raised_key r) (flat_map (piece_uses low) ps)
  pieces_raised [] = refl
  pieces_raised (p ∷ ps) =
      ap (λ (z : List Key). z ++ flat_map (piece_uses high) (map (raised_piece r) ps)) (piece_raised p)
      ∙ ap (λ (z : List Key). map (raised_key r) (piece_uses low p) ++ z) (pieces_raised ps)
      ∙ sym (map-append (raised_key r) (piece_uses low p) (flat_map (piece_uses low) ps))

  -- the keys that a renamed operator uses are those of the operator, renamed
  unary_raised : (op : Unary) → stage_uses high (stage_of (raised_unary r op)) ≡ map (raised_key r) (stage_uses low (stage_of op))
  unary_raised (select t) = test_raised r t
  unary_raised (order_by v desc) = refl
  unary_raised (project keys) = refl
  unary_raised (group_by [] piece out) = piece_raised piece
  unary_raised (group_by (k ∷ keys) piece out) =
      ap (λ (z : List Key). map (raised_key r) (k ∷ keys) ++ z) (piece_raised piece) ∙ sym (map-append (raised_key r) (k ∷ keys) (piece_uses low piece))
  unary_raised (concatenate pieces out) = pieces_raised pieces
  unary_raised (create_element label list out) = refl

-- renamed keys cover other renamed keys where the keys covered the others
as_raised : (r : ℕ) (a b keys others : List Key) → a ≡ map (raised_key r) keys → b ≡ map (raised_key r) others → covers keys others ≡ true → covers a b ≡ true
as_raised r a b keys others e d h = ap (λ (z : List Key). covers z b) e ∙ ap (covers (map (raised_key r) keys)) d ∙ covers-raised r keys others ∙ h

-- comparisons of renamed variables use what is held where the comparisons did
tests_raised : (r : ℕ) (a keys : List Key) (ts : List Test) → a ≡ map (raised_key r) keys → AllByRecursion (λ t. covers keys (test_uses t) ≡ true) ts
    → AllByRecursion (λ t. covers a (test_uses t) ≡ true) (map (raised_test r) ts)
tests_raised r a keys [] e h = tt
tests_raised r a keys (t ∷ ts) e h = (as_raised r a (test_uses (raised_test r t)) keys (test_uses t) e (test_raised r t) h.0, tests_raised r a keys ts e h.1)

-- a renamed tree uses what is held where the tree does
pub raised_uses : (r : ℕ) (t : Tree) → TreeUses t → TreeUses (raised r t)
unfolding TreeUses tree_held
raised_uses r (begin s out) h = tt
raised_uses r (descend t start path out) h = (
  raised_uses r t h.0,
  as_raised r (tree_held (raised r t)) (node_key (r + start) ∷ []) (tree_held t) (node_key start ∷ []) (raised-held r t) refl h.1,
)
raised_uses r (both l m tests) h =
    (raised_uses r l h.0, raised_uses r m h.1, tests_raised r (tree_held (raised r l) ++ tree_held (raised r m)) (tree_held l ++ tree_held m) tests (raised-held r (both l m tests)) h.2)
raised_uses r (above t op) h = (
  raised_uses r t h.0,
  as_raised r (tree_held (raised r t)) (stage_uses (tree_kinds (raised r t)) (stage_of (raised_unary r op))) (tree_held t) (stage_uses (tree_kinds t) (stage_of op)) (raised-held r t)
      (unary_raised r (tree_kinds t) (tree_kinds (raised r t)) (raised_kinds r t) op) h.1,
)
