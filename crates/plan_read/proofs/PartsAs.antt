-- The parts of an operator whose variables have other numbers are its parts by these numbers.
use Rattle.std.proofs.Common.{◌≡◌, ◌∙◌, ◌++◌, ℕ, List, [], ◌∷◌, refl, sym, ap, map, codes}
use Rattle.std.specs.List.{AllByRecursion, flat_map}
use Rattle.std.proofs.lemmas.List.{map-append}
use Rattle.mix_tree.specs.Keys.{key_var}
use Rattle.mix_tree.specs.Signs.{op_sign}
use Rattle.mix_tree.specs.declared.var.Key.{Key}
use Rattle.mix_tree.specs.declared.var.Key.TheVariants.{Node as node_key, LabelOf as label_key}
use Rattle.mix_tree.specs.declared.comparing.Operand.{Operand}
use Rattle.mix_tree.specs.declared.comparing.Operand.TheVariants.{Var as var_operand, Text as text_operand}
use Rattle.mix_tree.specs.declared.comparing.Test.{Test}
use Rattle.plan_core.specs.declared.plan.Piece.{Piece}
use Rattle.plan_core.specs.declared.plan.Piece.TheVariants.{Var as var_piece, LabelOf as label_piece, Text as text_piece}
use Rattle.plan_core.specs.PlanText.{var_text, key_text, keys_between}
use Rattle.plan_core.specs.Unary.{Unary, select, order_by, project, group_by, concatenate, create_element}
use Rattle.plan_core.specs.Plans.{Operator, source, get_descendants, join, over, tuple_destroy}
use Rattle.plan_read.specs.Grammar.{Part, keyword, number, variable, of_source, of_element, path, text, keys, operand_part, test_parts, tests_parts, piece_parts, out_parts, unary_parts, op_parts, part_text, parts_text}
use Rattle.plan_read.specs.Writable.{part_vars, op_vars, vars_of, IsWritten, key_as, operand_as, test_as, piece_as, unary_as, operator_as}

-- a part of other numbers
abbrev pub part_as : (ℕ → ℕ) → Part → Part
part_as f (keyword w) = keyword w
part_as f (number n) = number n
part_as f (variable v) = variable (f v)
part_as f (of_source s) = of_source s
part_as f (of_element name) = of_element name
part_as f (path p) = path p
part_as f (text label) = text label
part_as f (keys ks) = keys (map (key_as f) ks)

module _ (f : ℕ → ℕ) where
  -- the part of an operand of other numbers is its part by those numbers
  operand_parts_as : (o : Operand) → operand_part (operand_as f o) ≡ part_as f (operand_part o)
  operand_parts_as (var_operand v) = refl
  operand_parts_as (text_operand label) = refl

  -- the parts of a comparison of other numbers are its parts by those numbers
  test_parts_as : (t : Test) → test_parts (test_as f t) ≡ map (part_as f) (test_parts t)
  test_parts_as t = ap (λ o. variable (f t.left) ∷ keyword (op_sign t.op) ∷ o ∷ []) (operand_parts_as t.right)

  -- the parts of comparisons of other numbers, each after AND, are theirs by those numbers
  more_parts_as : (tests : List Test)
      → flat_map (λ t. keyword (codes "AND") ∷ test_parts t) (map (test_as f) tests) ≡ map (part_as f) (flat_map (λ t. keyword (codes "AND") ∷ test_parts t) tests)
  more_parts_as [] = refl
  more_parts_as (t ∷ tests) =
      ap (λ ps. (keyword (codes "AND") ∷ ps) ++ flat_map (λ t. keyword (codes "AND") ∷ test_parts t) (map (test_as f) tests)) (test_parts_as t)
      ∙ ap (λ ps. (keyword (codes "AND") ∷ map (part_as f) (test_parts t)) ++ ps) (more_parts_as tests)
      ∙ sym (map-append (part_as f) (keyword (codes "AND") ∷ test_parts t) (flat_map (λ t. keyword (codes "AND") ∷ test_parts t) tests))

  -- the parts of comparisons of other numbers are theirs by those numbers
  tests_parts_as : (tests : List Test) → tests_parts (map (test_as f) tests) ≡ map (part_as f) (tests_parts tests)
  tests_parts_as [] = refl
  tests_parts_as (t ∷ tests) =
      ap (λ ps. ps ++ flat_map (λ t. keyword (codes "AND") ∷ test_parts t) (map (test_as f) tests)) (test_parts_as t)
      ∙ ap (λ ps. map (part_as f) (test_parts t) ++ ps) (more_parts_as tests)
      ∙ sym (map-append (part_as f) (test_parts t) (flat_map (λ t. keyword (codes "AND") ∷ test_parts t) tests))

  -- the parts of a piece of other numbers are its parts by those numbers
  piece_parts_as : (p : Piece) → piece_parts (piece_as f p) ≡ map (part_as f) (piece_parts p)
  piece_parts_as (var_piece v) = refl
  piece_parts_as (label_piece v) = refl
  piece_parts_as (text_piece label) = refl

  -- the parts of pieces of other numbers are theirs by those numbers
  pieces_parts_as : (ps : List Piece) → flat_map piece_parts (map (piece_as f) ps) ≡ map (part_as f) (flat_map piece_parts ps)
  pieces_parts_as [] = refl
  pieces_parts_as (p ∷ ps) =
      ap (λ qs. qs ++ flat_map piece_parts (map (piece_as f) ps)) (piece_parts_as p) ∙ ap (λ qs. map (part_as f) (piece_parts p) ++ qs) (pieces_parts_as ps)
      ∙ sym (map-append (part_as f) (piece_parts p) (flat_map piece_parts ps))

  -- the parts of an operator with one input, of other numbers, are its parts by those numbers
  unary_parts_as : (i : ℕ) (op : Unary) → unary_parts i (unary_as f op) ≡ map (part_as f) (unary_parts i op)
  unary_parts_as i (select test) = ap (λ ps. keyword (codes "select") ∷ number i ∷ ps) (test_parts_as test)
  unary_parts_as i (order_by v desc) = refl
  unary_parts_as i (project ks) = refl
  unary_parts_as i (group_by ks piece out) =
      ap (λ ps. keyword (codes "groupBy") ∷ number i ∷ keys (map (key_as f) ks) ∷ ps)
      (ap (λ ps. ps ++ out_parts (f out)) (piece_parts_as piece) ∙ sym (map-append (part_as f) (piece_parts piece) (out_parts out)))
  unary_parts_as i (concatenate pieces out) =
      ap (λ ps. keyword (codes "concatenate") ∷ number i ∷ ps)
      (ap (λ ps. ps ++ out_parts (f out)) (pieces_parts_as pieces) ∙ sym (map-append (part_as f) (flat_map piece_parts pieces) (out_parts out)))
  unary_parts_as i (create_element label list out) = refl

  -- the parts of an operator of other numbers are its parts by those numbers
  pub op_parts_as : (op : Operator) → op_parts (operator_as f op) ≡ map (part_as f) (op_parts op)
  op_parts_as (source s out) = refl
  op_parts_as (get_descendants i start p out) = refl
  op_parts_as (join left right tests) = ap (λ ps. keyword (codes "join") ∷ number left ∷ number right ∷ ps) (tests_parts_as tests)
  op_parts_as (over i op) = unary_parts_as i op
  op_parts_as (tuple_destroy i element) = refl

  -- the variables of keys have their numbers
  key_vars_as : (ks : List Key) → map key_var (map (key_as f) ks) ≡ map f (map key_var ks)
  key_vars_as [] = refl
  key_vars_as (node_key v ∷ ks) = ap (λ vs. f v ∷ vs) (key_vars_as ks)
  key_vars_as (label_key v ∷ ks) = ap (λ vs. f v ∷ vs) (key_vars_as ks)

  -- the variables of a part have their numbers
  part_vars_as : (p : Part) → part_vars (part_as f p) ≡ map f (part_vars p)
  part_vars_as (keyword w) = refl
  part_vars_as (number n) = refl
  part_vars_as (variable v) = refl
  part_vars_as (of_source s) = refl
  part_vars_as (of_element name) = refl
  part_vars_as (path p) = refl
  part_vars_as (text label) = refl
  part_vars_as (keys ks) = key_vars_as ks

  -- the variables of parts have their numbers
  parts_vars_as : (ps : List Part) → flat_map part_vars (map (part_as f) ps) ≡ map f (flat_map part_vars ps)
  parts_vars_as [] = refl
  parts_vars_as (p ∷ ps) =
      ap (λ vs. vs ++ flat_map part_vars (map (part_as f) ps)) (part_vars_as p) ∙ ap (λ vs. map f (part_vars p) ++ vs) (parts_vars_as ps)
      ∙ sym (map-append f (part_vars p) (flat_map part_vars ps))

  -- the variables of operators of other numbers are theirs by those numbers
  pub vars_as : (ops : List Operator) → vars_of (map (operator_as f) ops) ≡ map f (vars_of ops)
  vars_as [] = refl
  vars_as (op ∷ ops) =
      ap (λ vs. vs ++ vars_of (map (operator_as f) ops)) (ap (flat_map part_vars) (op_parts_as op) ∙ parts_vars_as (op_parts op)) ∙ ap (λ vs. map f (op_vars op) ++ vs) (vars_as ops)
      ∙ sym (map-append f (op_vars op) (vars_of ops))

  -- a part that is written is so by other numbers
  written_as : (p : Part) → IsWritten p → IsWritten (part_as f p)
  written_as (keyword w) h = h
  written_as (number n) h = h
  written_as (variable v) h = h
  written_as (of_source s) h = h
  written_as (of_element name) h = h
  written_as (path p) h = h
  written_as (text label) h = h
  written_as (keys ks) h = h

  -- parts that are written are so by other numbers
  pub parts_written_as : (ps : List Part) → AllByRecursion IsWritten ps → AllByRecursion IsWritten (map (part_as f) ps)
  parts_written_as [] h = tt
  parts_written_as (p ∷ ps) h = (written_as p h.0, parts_written_as ps h.1)

  module _ (names others sources : List (List ℕ)) (same : (v : ℕ) → var_text others (f v) ≡ var_text names v) where
    -- a key is written as it was, where variables are
    key_text_as : (k : Key) → key_text others (key_as f k) ≡ key_text names k
    key_text_as (node_key v) = same v
    key_text_as (label_key v) = ap (λ x. codes "label " ++ x) (same v)

    -- keys, each after a comma, are written as they were
    more_text_as : (ks : List Key) → flat_map (λ k. 44 ∷ key_text others k) (map (key_as f) ks) ≡ flat_map (λ k. 44 ∷ key_text names k) ks
    more_text_as [] = refl
    more_text_as (k ∷ ks) =
        ap (λ x. (44 ∷ x) ++ flat_map (λ k. 44 ∷ key_text others k) (map (key_as f) ks)) (key_text_as k) ∙ ap (λ x. (44 ∷ key_text names k) ++ x) (more_text_as ks)

    -- keys with commas between them are written as they were
    keys_text_as : (ks : List Key) → keys_between others (map (key_as f) ks) ≡ keys_between names ks
    keys_text_as [] = refl
    keys_text_as (k ∷ ks) = ap (λ x. x ++ flat_map (λ k. 44 ∷ key_text others k) (map (key_as f) ks)) (key_text_as k) ∙ ap (λ x. key_text names k ++ x) (more_text_as ks)

    -- a part is written as it was, where variables are
    part_text_as : (p : Part) → part_text others sources (part_as f p) ≡ part_text names sources p
    part_text_as (keyword w) = refl
    part_text_as (number n) = refl
    part_text_as (variable v) = same v
    part_text_as (of_source s) = refl
    part_text_as (of_element name) = refl
    part_text_as (path p) = refl
    part_text_as (text label) = refl
    part_text_as (keys ks) = ap (λ x. 123 ∷ x ++ 125 ∷ []) (keys_text_as ks)

    -- the text of parts by other numbers is what it was, where variables are written as they were
    pub parts_text_as : (ps : List Part) → parts_text others sources (map (part_as f) ps) ≡ parts_text names sources ps
    parts_text_as [] = refl
    parts_text_as (p ∷ ps) =
        ap (λ x. (32 ∷ x) ++ parts_text others sources (map (part_as f) ps)) (part_text_as p) ∙ ap (λ x. (32 ∷ part_text names sources p) ++ x) (parts_text_as ps)
