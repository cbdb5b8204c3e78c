-- The canonical text of an operator by its parts.
use Rattle.std.proofs.Common.{◌≡◌, ◌∙◌, ℕ, true, false, List, [], ◌∷◌, ◌++◌, refl, sym, ap, append_assoc, codes}
use Rattle.std.specs.List.{flat_map}
use Rattle.std.specs.Fmt.{decimal}
use Rattle.mix_base.proofs.Lists.{append_nil}
use Rattle.mix_tree.specs.declared.comparing.Operand.{Operand}
use Rattle.mix_tree.specs.declared.comparing.Operand.TheVariants.{Var as var_operand, Text as text_operand}
use Rattle.mix_tree.specs.declared.comparing.Test.{Test}
use Rattle.mix_tree.specs.Signs.{op_sign}
use Rattle.plan_core.specs.declared.plan.Piece.{Piece}
use Rattle.plan_core.specs.declared.plan.Piece.TheVariants.{Var as var_piece, LabelOf as label_piece, Text as text_piece}
use Rattle.plan_core.specs.PlanText.{var_text, keys_text, operand_text, test_text, tests_text, piece_text, pieces_text, out_text, unary_text}
use Rattle.plan_core.specs.Unary.{Unary, select, order_by, project, group_by, concatenate, create_element}
use Rattle.plan_core.specs.Plans.{source, get_descendants, join, over, tuple_destroy}
use Rattle.plan_read.specs.Grammar.{Part, keyword, operand_part, test_parts, tests_parts, piece_parts, out_parts, unary_parts, part_text, parts_text, WrittenByParts}

-- the text of two lists of parts is that of the first, and then that of the second
text-append : (names sources : List (List ℕ)) (ps qs : List Part) → parts_text names sources (ps ++ qs) ≡ parts_text names sources ps ++ parts_text names sources qs
text-append names sources [] qs = refl
text-append names sources (p ∷ ps) qs = ap (λ r. 32 ∷ part_text names sources p ++ r) (text-append names sources ps qs) ∙ sym (append_assoc (32 ∷ part_text names sources p) (parts_text names sources ps) (parts_text names sources qs))

-- the canonical text of the right side of a comparison is the word of its part
operand_written : (names sources : List (List ℕ)) (o : Operand) → operand_text names o ≡ part_text names sources (operand_part o)
operand_written names sources (var_operand v) = refl
operand_written names sources (text_operand label) = refl

-- the canonical text of a comparison, after a blank, is that of its parts
test_written : (names sources : List (List ℕ)) (t : Test) → 32 ∷ test_text names t ≡ parts_text names sources (test_parts t)
test_written names sources t =
    ap (λ x. 32 ∷ x) (append_assoc (var_text names t.left) (32 ∷ op_sign t.op) (32 ∷ operand_text names t.right))
    ∙ ap (λ x. (32 ∷ var_text names t.left) ++ ((32 ∷ op_sign t.op) ++ 32 ∷ x)) (operand_written names sources t.right ∙ sym (append_nil (part_text names sources (operand_part t.right))))

-- the text of comparisons, each after AND, is that of their parts
more_written : (names sources : List (List ℕ)) (tests : List Test) → flat_map (λ t. codes " AND " ++ test_text names t) tests ≡ parts_text names sources (flat_map (λ t. keyword (codes "AND") ∷ test_parts t) tests)
more_written names sources [] = refl
more_written names sources (t ∷ tests) =
    ap (λ x. (codes " AND" ++ x) ++ flat_map (λ t. codes " AND " ++ test_text names t) tests) (test_written names sources t)
    ∙ ap (λ x. (codes " AND" ++ parts_text names sources (test_parts t)) ++ x) (more_written names sources tests)
    ∙ sym (text-append names sources (keyword (codes "AND") ∷ test_parts t) (flat_map (λ t. keyword (codes "AND") ∷ test_parts t) tests))

-- the text of comparisons is that of their parts
tests_written : (names sources : List (List ℕ)) (tests : List Test) → tests_text names tests ≡ parts_text names sources (tests_parts tests)
tests_written names sources [] = refl
tests_written names sources (t ∷ tests) =
    ap (λ x. x ++ flat_map (λ t. codes " AND " ++ test_text names t) tests) (test_written names sources t)
    ∙ ap (λ x. parts_text names sources (test_parts t) ++ x) (more_written names sources tests)
    ∙ sym (text-append names sources (test_parts t) (flat_map (λ t. keyword (codes "AND") ∷ test_parts t) tests))

-- the canonical text of a piece, after a blank, is that of its parts
piece_written : (names sources : List (List ℕ)) (p : Piece) → 32 ∷ piece_text names p ≡ parts_text names sources (piece_parts p)
piece_written names sources (var_piece v) = sym (append_nil (32 ∷ var_text names v))
piece_written names sources (label_piece v) = sym (ap (λ x. codes " label " ++ x) (append_nil (var_text names v)))
piece_written names sources (text_piece label) = sym (append_nil _)

-- the text of pieces is that of their parts
pieces_written : (names sources : List (List ℕ)) (pieces : List Piece) → pieces_text names pieces ≡ parts_text names sources (flat_map piece_parts pieces)
pieces_written names sources [] = refl
pieces_written names sources (p ∷ ps) =
    ap (λ x. x ++ pieces_text names ps) (piece_written names sources p) ∙ ap (λ x. parts_text names sources (piece_parts p) ++ x) (pieces_written names sources ps)
    ∙ sym (text-append names sources (piece_parts p) (flat_map piece_parts ps))

-- the canonical text of a bound variable is that of its parts
out_written : (names sources : List (List ℕ)) (v : ℕ) → out_text names v ≡ parts_text names sources (out_parts v)
out_written names sources v = sym (ap (λ x. codes " -> " ++ x) (append_nil (var_text names v)))

-- a prefix, the text of parts and of a bound variable are the prefix and the text of both together
gathered : (names sources : List (List ℕ)) (prefix : List ℕ) (ps : List Part) (x : List ℕ) (out : ℕ) → x ≡ parts_text names sources ps → (prefix ++ x) ++ out_text names out ≡ prefix ++ parts_text names sources (ps ++ out_parts out)
gathered names sources prefix ps x out e =
    append_assoc prefix x (out_text names out) ∙ ap (λ y. prefix ++ (y ++ out_text names out)) e
    ∙ ap (λ y. prefix ++ (parts_text names sources ps ++ y)) (out_written names sources out) ∙ ap (λ y. prefix ++ y) (sym (text-append names sources ps (out_parts out)))

-- the canonical text of an operator with one input is that of its parts
unary_written : (names sources : List (List ℕ)) (i : ℕ) (op : Unary) → unary_text names i op ≡ parts_text names sources (unary_parts i op)
unary_written names sources i (select test) = ap (λ x. codes " select " ++ decimal i ++ x) (test_written names sources test) ∙ simp append_assoc
unary_written names sources i (order_by v true) = simp (append_assoc, append_nil)
unary_written names sources i (order_by v false) = simp (append_assoc, append_nil)
unary_written names sources i (project ks) = simp (append_assoc, append_nil)
unary_written names sources i (group_by ks piece out) =
    gathered names sources (codes " groupBy " ++ decimal i ++ 32 ∷ keys_text names ks) (piece_parts piece) (32 ∷ piece_text names piece) out (piece_written names sources piece) ∙ simp append_assoc
unary_written names sources i (concatenate pieces out) =
    gathered names sources (codes " concatenate " ++ decimal i) (flat_map piece_parts pieces) (pieces_text names pieces) out (pieces_written names sources pieces) ∙ simp append_assoc
unary_written names sources i (create_element label list out) = simp (append_assoc, append_nil)

-- the text of each operator is that of its parts
pub written_by_parts : WrittenByParts
written_by_parts names sources (source s out) = simp (append_assoc, append_nil)
written_by_parts names sources (get_descendants i start p out) = simp (append_assoc, append_nil)
written_by_parts names sources (join left right tests) = ap (λ x. (codes " join " ++ decimal left ++ 32 ∷ decimal right) ++ x) (tests_written names sources tests) ∙ simp append_assoc
written_by_parts names sources (over i op) = unary_written names sources i op
written_by_parts names sources (tuple_destroy i element) = simp (append_assoc, append_nil)
