-- The parts of an operator's line are such as words spell, where the operator has small inputs, known sources and parts that are written.
use Rattle.std.proofs.Common.{◌<◌, ◌^◌, ◌++◌, ℕ, Bool, true, false, IsTrue, List, [], ◌∷◌, refl, length, nat_lt, codes}
use Rattle.std.specs.List.{AllByRecursion, flat_map, list_all}
use Rattle.mix_tree.specs.Signs.{op_sign}
use Rattle.mix_tree.specs.declared.comparing.Operand.{Operand}
use Rattle.mix_tree.specs.declared.comparing.Operand.TheVariants.{Var as var_operand, Text as text_operand}
use Rattle.mix_tree.specs.declared.comparing.Test.{Test}
use Rattle.mix_tree.specs.declared.comparing.TestOp.{TestOp}
use Rattle.mix_tree.specs.declared.comparing.TestOp.TheVariants.{Eq, Ne, Lt, Le, Gt, Ge, Same}
use Rattle.mix_catalog.specs.Sources.{AreNumbered}
use Rattle.mix_catalog.specs.declared.source.SourceSpec.{SourceSpec}
use Rattle.plan_core.specs.PlanText.{direction_text}
use Rattle.plan_core.specs.declared.plan.Piece.{Piece}
use Rattle.plan_core.specs.declared.plan.Piece.TheVariants.{Var as var_piece, LabelOf as label_piece, Text as text_piece}
use Rattle.plan_core.specs.Unary.{Unary, select, order_by, project, group_by, concatenate, create_element}
use Rattle.plan_core.specs.Plans.{Operator, source, get_descendants, join, over, tuple_destroy}
use Rattle.plan_core.specs.Valid.{inputs_of, HasSource}
use Rattle.plan_read.specs.Grammar.{Part, keyword, operand_part, test_parts, tests_parts, piece_parts, out_parts, unary_parts, op_parts}
use Rattle.plan_read.specs.Writable.{part_vars, IsWritten, AreNames}
use Rattle.plan_read.proofs.Passes.{IsWhole}
use Rattle.plan_read.proofs.PlainWords.{is_other, ascii_utf8}
use Rattle.plan_read.proofs.PartWords.{IsKnown, IsGood}

-- what holds of all of two lists holds of all of both together
pub each_join : {X : Type 0} (P : X → Type 0) (xs ys : List X) → AllByRecursion P xs → AllByRecursion P ys → AllByRecursion P (xs ++ ys)
each_join P [] ys h k = k
each_join P (x ∷ xs) ys h k = (h.0, each_join P xs ys h.1 k)

-- what holds of all of two lists together holds of all of the first
pub each_first : {X : Type 0} (P : X → Type 0) (xs ys : List X) → AllByRecursion P (xs ++ ys) → AllByRecursion P xs
each_first P [] ys h = tt
each_first P (x ∷ xs) ys h = (h.0, each_first P xs ys h.1)

-- what holds of all of two lists together holds of all of the second
pub each_second : {X : Type 0} (P : X → Type 0) (xs ys : List X) → AllByRecursion P (xs ++ ys) → AllByRecursion P ys
each_second P [] ys h = h
each_second P (x ∷ xs) ys h = each_second P xs ys h.1

module _ (sources : List SourceSpec) (catalog : AreNumbered sources) (names : List (List ℕ)) (are : AreNames names) where
  -- parts are known
  abbrev AreKnown : List Part → Type 0
  AreKnown ps = AllByRecursion (IsKnown sources catalog names are) ps

  -- a fixed word that stays whole, is ASCII and begins like neither a variable nor keys is known
  fixed : (w : List ℕ) → IsWhole w → IsTrue (is_other w) → IsTrue (list_all (λ b. nat_lt b 128) w) → IsKnown sources catalog names are (keyword w)
  fixed w h k u = (record { whole = h; other = k }, ascii_utf8 w u)

  -- the sign of a comparison is a word as lines have it
  sign_known : (op : TestOp) → IsKnown sources catalog names are (keyword (op_sign op))
  sign_known Eq = fixed (op_sign Eq) refl refl refl
  sign_known Ne = fixed (op_sign Ne) refl refl refl
  sign_known Lt = fixed (op_sign Lt) refl refl refl
  sign_known Le = fixed (op_sign Le) refl refl refl
  sign_known Gt = fixed (op_sign Gt) refl refl refl
  sign_known Ge = fixed (op_sign Ge) refl refl refl
  sign_known Same = fixed (op_sign Same) refl refl refl

  -- the direction of an order is a word as lines have it
  direction_known : (desc : Bool) → IsKnown sources catalog names are (keyword (direction_text desc))
  direction_known true = fixed (codes "desc") refl refl refl
  direction_known false = fixed (codes "asc") refl refl refl

  -- the right side of a comparison is known
  operand_known : (o : Operand) → IsKnown sources catalog names are (operand_part o)
  operand_known (var_operand v) = tt
  operand_known (text_operand label) = tt

  -- the parts of a comparison are known
  test_known : (t : Test) → AreKnown (test_parts t)
  test_known t = (tt, (sign_known t.op, (operand_known t.right, tt)))

  -- the parts of comparisons, each after AND, are known
  more_known : (tests : List Test) → AreKnown (flat_map (λ t. keyword (codes "AND") ∷ test_parts t) tests)
  more_known [] = tt
  more_known (t ∷ tests) =
      each_join (IsKnown sources catalog names are) (keyword (codes "AND") ∷ test_parts t) (flat_map (λ t. keyword (codes "AND") ∷ test_parts t) tests)
      (fixed (codes "AND") refl refl refl, test_known t) (more_known tests)

  -- the parts of comparisons are known
  tests_known : (tests : List Test) → AreKnown (tests_parts tests)
  tests_known [] = tt
  tests_known (t ∷ tests) =
      each_join (IsKnown sources catalog names are) (test_parts t) (flat_map (λ t. keyword (codes "AND") ∷ test_parts t) tests) (test_known t) (more_known tests)

  -- the parts of a piece are known
  piece_known : (p : Piece) → AreKnown (piece_parts p)
  piece_known (var_piece v) = (tt, tt)
  piece_known (label_piece v) = (fixed (codes "label") refl refl refl, (tt, tt))
  piece_known (text_piece label) = (tt, tt)

  -- the parts of pieces are known
  pieces_known : (ps : List Piece) → AreKnown (flat_map piece_parts ps)
  pieces_known [] = tt
  pieces_known (p ∷ ps) = each_join (IsKnown sources catalog names are) (piece_parts p) (flat_map piece_parts ps) (piece_known p) (pieces_known ps)

  -- the parts of what is bound are known
  out_known : (v : ℕ) → AreKnown (out_parts v)
  out_known v = (fixed (codes "->") refl refl refl, (tt, tt))

  -- the parts of an operator with one small input are known
  unary_known : (i : ℕ) (op : Unary) → i < 4294967295 → AreKnown (unary_parts i op)
  unary_known i (select test) h = (fixed (codes "select") refl refl refl, (h, test_known test))
  unary_known i (order_by v desc) h = (fixed (codes "orderBy") refl refl refl, (h, (tt, (direction_known desc, tt))))
  unary_known i (project ks) h = (fixed (codes "project") refl refl refl, (h, (tt, tt)))
  unary_known i (group_by ks piece out) h =
      (fixed (codes "groupBy") refl refl refl, (h, (tt, each_join (IsKnown sources catalog names are) (piece_parts piece) (out_parts out) (piece_known piece) (out_known out))))
  unary_known i (concatenate pieces out) h =
      (fixed (codes "concatenate") refl refl refl, (h, each_join (IsKnown sources catalog names are) (flat_map piece_parts pieces) (out_parts out) (pieces_known pieces) (out_known out)))
  unary_known i (create_element label list out) h = (fixed (codes "createElement") refl refl refl, (h, (tt, (tt, out_known out))))

  -- the parts of an operator with small inputs and a known source are known
  pub op_known : (op : Operator) → AllByRecursion (λ i. i < 4294967295) (inputs_of op) → HasSource (length sources) op → AreKnown (op_parts op)
  op_known (source s out) h k = (fixed (codes "source") refl refl refl, (k, out_known out))
  op_known (get_descendants i start p out) h k = (fixed (codes "getDescendants") refl refl refl, (h.0, (tt, (tt, out_known out))))
  op_known (join left right tests) h k = (fixed (codes "join") refl refl refl, (h.0, (h.1.0, tests_known tests)))
  op_known (over i op) h k = unary_known i op h.0
  op_known (tuple_destroy i element) h k = (fixed (codes "tupleDestroy") refl refl refl, (h.0, (tt, tt)))

  -- parts that are known and written, and whose variables have 32 bits, are such as words spell
  pub all_good : (ps : List Part) → AreKnown ps → AllByRecursion IsWritten ps → AllByRecursion (λ v. v < 2 ^ 32) (flat_map part_vars ps)
      → AllByRecursion (IsGood sources catalog names are) ps
  all_good [] h k v = tt
  all_good (p ∷ ps) h k v = (
    record { known = h.0; written = k.0; vars = each_first (λ v. v < 2 ^ 32) (part_vars p) (flat_map part_vars ps) v },
    all_good ps h.1 k.1 (each_second (λ v. v < 2 ^ 32) (part_vars p) (flat_map part_vars ps) v),
  )
