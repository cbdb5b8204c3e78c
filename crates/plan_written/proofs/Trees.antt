-- The paths, names and labels of the operators of a tree, and what keeps them.
use Rattle.std.proofs.Common.{ℕ, suc, ◌+◌, Bool, true, false, cond, List, [], ◌∷◌, ◌++◌, map, codes}
use Rattle.std.specs.List.{AllByRecursion, flat_map}
use Rattle.std.specs.Str.{IsUtf8}
use Rattle.mix_base.proofs.Firsts.{each_snoc}
use Rattle.mix_tree.specs.Names.{IsName}
use Rattle.mix_tree.specs.declared.comparing.Operand.{Operand}
use Rattle.mix_tree.specs.declared.comparing.Operand.TheVariants.{Var as var_operand, Text as text_operand}
use Rattle.mix_tree.specs.declared.comparing.Test.{Test}
use Rattle.path_expr.specs.Canonical.{canon}
use Rattle.path_expr.specs.Form.{Form}
use Rattle.path_expr.specs.Results.{SpellsWithin}
use Rattle.xmas_rule.proofs.Members.{each_append}
use Rattle.plan_core.specs.declared.plan.Piece.{Piece}
use Rattle.plan_core.specs.declared.plan.Piece.TheVariants.{Var as var_piece, LabelOf as label_piece, Text as text_piece}
use Rattle.plan_core.specs.Unary.{Unary, select, order_by, project, group_by, concatenate, create_element}
use Rattle.plan_core.specs.Plans.{Operator, get_descendants, join, over, tuple_destroy}
use Rattle.plan_make.specs.Raised.{raised_operand, raised_test, raised_piece, raised_unary, raised}
use Rattle.plan_make.specs.Trees.{Tree, begin, descend, both, above, stacked, under, numbered}
use Rattle.plan_make.proofs.TreeParts.{tree_kinds, ended}
use Rattle.plan_rewrite.specs.Rewritten.{binds_test, pushed, put_over, rewritten}
use Rattle.plan_read.specs.Writable.{IsWritten}
use Rattle.plan_read.specs.Grammar.{keyword, operand_part, test_parts, tests_parts, piece_parts, out_parts, unary_parts, op_parts}

-- the canonical text of a path spells it, with at most 100 parentheses open at once and at most 120 label positions
abbrev pub IsWrittenPath : Form → Type 0
IsWrittenPath p = IsUtf8 (canon p) × SpellsWithin (canon p) p

-- each path, name and label of an operator is written
abbrev pub HasWrittenParts : Operator → Type 0
HasWrittenParts op = AllByRecursion IsWritten (op_parts op)

-- what is compared with is a variable, or a label in UTF-8
abbrev pub IsWrittenOperand : Operand → Type 0
IsWrittenOperand (var_operand v) = Unit {0}
IsWrittenOperand (text_operand label) = IsUtf8 label

-- a comparison with a variable, or with a label in UTF-8
abbrev pub IsWrittenTest : Test → Type 0
IsWrittenTest t = IsWrittenOperand t.right

-- a piece of a variable, or of a label in UTF-8
abbrev pub IsWrittenPiece : Piece → Type 0
IsWrittenPiece (var_piece v) = Unit {0}
IsWrittenPiece (label_piece v) = Unit {0}
IsWrittenPiece (text_piece label) = IsUtf8 label

-- an operator with one input, of which the name and the labels are written
abbrev pub IsWrittenUnary : Unary → Type 0
IsWrittenUnary (select test) = IsWrittenTest test
IsWrittenUnary (order_by v desc) = Unit {0}
IsWrittenUnary (project keys) = Unit {0}
IsWrittenUnary (group_by keys piece out) = IsWrittenPiece piece
IsWrittenUnary (concatenate pieces out) = AllByRecursion IsWrittenPiece pieces
IsWrittenUnary (create_element label list out) = IsName label

-- a tree of operators, of which the paths, names and labels are written
unfoldable pub IsWrittenTree : Tree → Type 0
IsWrittenTree (begin s out) = Unit {0}
IsWrittenTree (descend t start path out) = IsWrittenTree t × IsWrittenPath path
IsWrittenTree (both l r tests) = IsWrittenTree l × IsWrittenTree r × AllByRecursion IsWrittenTest tests
IsWrittenTree (above t op) = IsWrittenTree t × IsWrittenUnary op

-- OPERATORS

-- what is compared with is a written part where it is written
operand_written : (o : Operand) → IsWrittenOperand o → IsWritten (operand_part o)
operand_written (var_operand v) h = tt
operand_written (text_operand label) h = h

-- the parts of a written comparison are written
test_written : (t : Test) → IsWrittenTest t → AllByRecursion IsWritten (test_parts t)
test_written t h = (tt, (tt, (operand_written t.right h, tt)))

-- the parts of written comparisons that each stand after AND are written
more_written : (ts : List Test) → AllByRecursion IsWrittenTest ts → AllByRecursion IsWritten (flat_map (λ t. keyword (codes "AND") ∷ test_parts t) ts)
more_written [] h = tt
more_written (t ∷ ts) h = (tt, each_append IsWritten (test_parts t) (flat_map (λ t. keyword (codes "AND") ∷ test_parts t) ts) (test_written t h.0) (more_written ts h.1))

-- the parts of the written comparisons of a join are written
tests_written : (ts : List Test) → AllByRecursion IsWrittenTest ts → AllByRecursion IsWritten (tests_parts ts)
tests_written [] h = tt
tests_written (t ∷ ts) h = each_append IsWritten (test_parts t) (flat_map (λ t. keyword (codes "AND") ∷ test_parts t) ts) (test_written t h.0) (more_written ts h.1)

-- the parts of a written piece are written
piece_written : (p : Piece) → IsWrittenPiece p → AllByRecursion IsWritten (piece_parts p)
piece_written (var_piece v) h = (tt, tt)
piece_written (label_piece v) h = (tt, (tt, tt))
piece_written (text_piece label) h = (h, tt)

-- the parts of written pieces are written
pieces_written : (ps : List Piece) → AllByRecursion IsWrittenPiece ps → AllByRecursion IsWritten (flat_map piece_parts ps)
pieces_written [] h = tt
pieces_written (p ∷ ps) h = each_append IsWritten (piece_parts p) (flat_map piece_parts ps) (piece_written p h.0) (pieces_written ps h.1)

-- the parts of a written operator with one input are written
unary_written : (i : ℕ) (op : Unary) → IsWrittenUnary op → AllByRecursion IsWritten (unary_parts i op)
unary_written i (select test) h = (tt, (tt, test_written test h))
unary_written i (order_by v desc) h = (tt, (tt, (tt, (tt, tt))))
unary_written i (project keys) h = (tt, (tt, (tt, tt)))
unary_written i (group_by keys piece out) h = (tt, (tt, (tt, each_append IsWritten (piece_parts piece) (out_parts out) (piece_written piece h) (tt, (tt, tt)))))
unary_written i (concatenate pieces out) h = (tt, (tt, each_append IsWritten (flat_map piece_parts pieces) (out_parts out) (pieces_written pieces h) (tt, (tt, tt))))
unary_written i (create_element label list out) h = (tt, (tt, (h, (tt, (tt, (tt, tt))))))

-- the parts of the operators of a written tree are written
pub numbered_written : (t : Tree) (i : ℕ) → IsWrittenTree t → AllByRecursion HasWrittenParts (numbered i t)
unfolding IsWrittenTree
numbered_written (begin s out) i h = ((tt, (tt, (tt, (tt, tt)))), tt)
numbered_written (descend t start path out) i h =
    each_append HasWrittenParts (numbered i t) (get_descendants (i + under t) start path out ∷ []) (numbered_written t i h.0) ((tt, (tt, (tt, (h.1, (tt, (tt, tt)))))), tt)
numbered_written (both l r tests) i h =
    let m : ℕ = i + suc (under l) in
    let j : List Operator = join (i + under l) (m + under r) tests ∷ [] in
    each_append HasWrittenParts (numbered i l) (numbered m r ++ j) (numbered_written l i h.0)
    (each_append HasWrittenParts (numbered m r) j (numbered_written r m h.1) ((tt, (tt, (tt, tests_written tests h.2))), tt))
numbered_written (above t op) i h =
    each_append HasWrittenParts (numbered i t) (over (i + under t) op ∷ []) (numbered_written t i h.0) (unary_written (i + under t) op h.1, tt)

-- the parts of the operators of a written tree, and of a tupleDestroy over them, are written
pub ended_written : (t : Tree) (v : ℕ) → IsWrittenTree t → AllByRecursion HasWrittenParts (ended t v)
ended_written t v h = each_append HasWrittenParts (numbered 0 t) (tuple_destroy (under t) v ∷ []) (numbered_written t 0 h) ((tt, (tt, (tt, tt))), tt)

-- TREES

-- written operators over a written tree make a written tree
pub stacked_written : (ops : List Unary) (t : Tree) → IsWrittenTree t → AllByRecursion IsWrittenUnary ops → IsWrittenTree (stacked t ops)
unfolding IsWrittenTree
stacked_written [] t h k = h
stacked_written (op ∷ ops) t h k = stacked_written ops (above t op) (h, k.0) k.1

-- what is compared with stays written under other variables
operand_raised : (r : ℕ) (o : Operand) → IsWrittenOperand o → IsWrittenOperand (raised_operand r o)
operand_raised r (var_operand v) h = tt
operand_raised r (text_operand label) h = h

-- comparisons stay written under other variables
tests_raised : (r : ℕ) (ts : List Test) → AllByRecursion IsWrittenTest ts → AllByRecursion IsWrittenTest (map (raised_test r) ts)
tests_raised r [] h = tt
tests_raised r (t ∷ ts) h = (operand_raised r t.right h.0, tests_raised r ts h.1)

-- a piece stays written under other variables
piece_raised : (r : ℕ) (p : Piece) → IsWrittenPiece p → IsWrittenPiece (raised_piece r p)
piece_raised r (var_piece v) h = tt
piece_raised r (label_piece v) h = tt
piece_raised r (text_piece label) h = h

-- pieces stay written under other variables
pieces_raised : (r : ℕ) (ps : List Piece) → AllByRecursion IsWrittenPiece ps → AllByRecursion IsWrittenPiece (map (raised_piece r) ps)
pieces_raised r [] h = tt
pieces_raised r (p ∷ ps) h = (piece_raised r p h.0, pieces_raised r ps h.1)

-- an operator with one input stays written under other variables
unary_raised : (r : ℕ) (op : Unary) → IsWrittenUnary op → IsWrittenUnary (raised_unary r op)
unary_raised r (select test) h = operand_raised r test.right h
unary_raised r (order_by v desc) h = tt
unary_raised r (project keys) h = tt
unary_raised r (group_by keys piece out) h = piece_raised r piece h
unary_raised r (concatenate pieces out) h = pieces_raised r pieces h
unary_raised r (create_element label list out) h = h

-- a tree stays written under other variables
pub raised_written : (r : ℕ) (t : Tree) → IsWrittenTree t → IsWrittenTree (raised r t)
unfolding IsWrittenTree
raised_written r (begin s out) h = tt
raised_written r (descend t start path out) h = (raised_written r t h.0, h.1)
raised_written r (both l m tests) h = (raised_written r l h.0, raised_written r m h.1, tests_raised r tests h.2)
raised_written r (above t op) h = (raised_written r t h.0, unary_raised r op h.1)

-- where both of two trees are written, so is the one that a test chooses
either_written : (b : Bool) (t u : Tree) → IsWrittenTree t → IsWrittenTree u → IsWrittenTree (cond b t u)
either_written true t u h k = h
either_written false t u h k = k

-- a written selection pushed into a written tree leaves it written
pushed_written : (test : Test) (t : Tree) → IsWrittenTest test → IsWrittenTree t → IsWrittenTree (pushed test t)
unfolding IsWrittenTree
pushed_written test (begin s out) w h = (h, w)
pushed_written test (descend t start path out) w h = (h, w)
pushed_written test (both l r tests) w h =
    either_written (binds_test (tree_kinds l) test) (both (pushed test l) r tests) (cond (binds_test (tree_kinds r) test) (both l (pushed test r) tests) (both l r (tests ++ test ∷ [])))
    (pushed_written test l w h.0, h.1, h.2)
    (either_written (binds_test (tree_kinds r) test) (both l (pushed test r) tests) (both l r (tests ++ test ∷ []))
    (h.0, pushed_written test r w h.1, h.2)
    (h.0, h.1, each_snoc IsWrittenTest tests test h.2 w))
pushed_written test (above t op) w h = (h, w)

-- a written operator put over a written tree, or pushed into it where it is a selection, makes a written tree
over_written : (op : Unary) (t : Tree) → IsWrittenUnary op → IsWrittenTree t → IsWrittenTree (put_over op t)
unfolding IsWrittenTree
over_written (select test) t w h = pushed_written test t w h
over_written (order_by v desc) t w h = (h, w)
over_written (project keys) t w h = (h, w)
over_written (group_by keys piece out) t w h = (h, w)
over_written (concatenate pieces out) t w h = (h, w)
over_written (create_element label list out) t w h = (h, w)

-- rewriting leaves a tree written
pub rewritten_written : (t : Tree) → IsWrittenTree t → IsWrittenTree (rewritten t)
unfolding IsWrittenTree
rewritten_written (begin s out) h = tt
rewritten_written (descend t start path out) h = (rewritten_written t h.0, h.1)
rewritten_written (both l r tests) h = (rewritten_written l h.0, rewritten_written r h.1, h.2)
rewritten_written (above t op) h = over_written op (rewritten t) h.1 (rewritten_written t h.0)
