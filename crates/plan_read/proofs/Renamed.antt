-- Operators whose variables have other numbers, no two the same: what they bind and need is the same by these numbers.
use Rattle.std.proofs.Common.{◌≡◌, ◌<◌, ◌≤◌, ◌∙◌, ◌==◌, ◌&&◌, ◌||◌, ℕ, zero, suc, Bool, true, false, cond, List, [], ◌∷◌, Option, Some, None, refl, sym, ap, subst, arith, length, map}
use mathlib.Core.Path.{fun_ext}
use Rattle.std.specs.List.{list_all}
use Rattle.std.proofs.lemmas.Bool.{ne_eqb, eq-eqb, eqb-false}
use Rattle.std.proofs.lemmas.Bool.Decides.{nat_tests}
use Rattle.mix_tree.specs.Keys.{key_var, has_var}
use Rattle.mix_tree.specs.declared.var.Key.{Key}
use Rattle.mix_tree.specs.declared.var.Key.TheVariants.{Node as node_key, LabelOf as label_key}
use Rattle.mix_tree.specs.declared.comparing.Operand.{Operand}
use Rattle.mix_tree.specs.declared.comparing.Operand.TheVariants.{Var as var_operand, Text as text_operand}
use Rattle.mix_tree.specs.declared.comparing.Test.{Test}
use Rattle.mix_tree.specs.declared.comparing.TestOp.{TestOp}
use Rattle.plan_core.specs.ByNumber.{op_at, below_op}
use Rattle.plan_core.specs.declared.plan.Piece.{Piece}
use Rattle.plan_core.specs.declared.plan.Piece.TheVariants.{Var as var_piece, LabelOf as label_piece, Text as text_piece}
use Rattle.plan_core.specs.Unary.{Unary, select, order_by, project, group_by, concatenate, create_element}
use Rattle.plan_core.specs.Plans.{Operator, source, get_descendants, join, over, tuple_destroy}
use Rattle.plan_core.specs.Shapes.{shape_of, stage_of}
use Rattle.plan_core.specs.Valid.{Kind, a_node, a_list, an_element, Kinds, no_kinds, with_kind, kept, either_kind, unary_kinds, op_kinds, kinds, inputs_of, outs_of, is_single, is_single_at}
use Rattle.plan_read.specs.Checks.{IsShort}
use Rattle.plan_read.specs.Scopes.{is_a_node, is_a_kind, is_no_list, is_a_list, is_a_made, keys_fit, operand_fits, test_fits, piece_fits, single_fits, stage_fits, shape_fits}
use Rattle.plan_read.specs.Writable.{key_as, operand_as, test_as, piece_as, unary_as, operator_as}

module _ (f : ℕ → ℕ) (apart : (v w : ℕ) → f v ≡ f w → v ≡ w) where
  -- two variables are the same where their numbers are
  pub same_var : (v w : ℕ) → (f v == f w) ≡ (v == w)
  same_var v w = by_case (v == w) refl
    where
      by_case : (b : Bool) → (v == w) ≡ b → (f v == f w) ≡ b
      by_case true e = eq-eqb (f v) (f w) (ap f (is v w e))
        where
          is : (a b : ℕ) → (a == b) ≡ true → a ≡ b
          is a b e = grind (arith, nat_tests, e)
      by_case false e = ne_eqb (f v) (f w) (λ h. eqb-false v w e (apart v w h))

  -- the kinds of variables are those of their numbers
  abbrev pub AreKinds : Kinds → Kinds → Type 0
  AreKinds ks js = (v : ℕ) → js (f v) ≡ ks v

  -- with one variable more bound, kinds of variables are those of their numbers
  with_kind_as : (out : ℕ) (k : Kind) (ks js : Kinds) → AreKinds ks js → AreKinds (with_kind out k ks) (with_kind (f out) k js)
  with_kind_as out k ks js h v = ap (λ b. cond b (Some k) (js (f v))) (same_var out v) ∙ ap (λ (o : Option Kind). cond (out == v) (Some k) o) (h v)

  -- where nothing is bound, kinds of variables are those of their numbers
  none_as : AreKinds no_kinds no_kinds
  none_as v = refl

  -- the variable of a key has its number
  key_var_as : (k : Key) → key_var (key_as f k) ≡ f (key_var k)
  key_var_as (node_key v) = refl
  key_var_as (label_key v) = refl

  -- a variable is that of a key where its number is
  has_var_as : (keys : List Key) (v : ℕ) → has_var (map (key_as f) keys) (f v) ≡ has_var keys v
  has_var_as [] v = refl
  has_var_as (k ∷ keys) v =
      ap (λ b. b || has_var (map (key_as f) keys) (f v)) (ap (λ w. w == f v) (key_var_as k) ∙ same_var (key_var k) v)
      ∙ ap (λ b. (key_var k == v) || b) (has_var_as keys v)

  -- the kinds of the keys' variables alone are those of their numbers
  kept_as : (keys : List Key) (ks js : Kinds) → AreKinds ks js → AreKinds (kept keys ks) (kept (map (key_as f) keys) js)
  kept_as keys ks js h v = ap (λ b. cond b (js (f v)) None) (has_var_as keys v) ∙ ap (λ (o : Option Kind). cond (has_var keys v) o None) (h v)

  -- the kinds that an operator with one input binds are those of the variables' numbers
  unary_kinds_as : (op : Unary) (ks js : Kinds) → AreKinds ks js → AreKinds (unary_kinds op ks) (unary_kinds (unary_as f op) js)
  unary_kinds_as (select test) ks js h = h
  unary_kinds_as (order_by v desc) ks js h = h
  unary_kinds_as (project keys) ks js h = kept_as keys ks js h
  unary_kinds_as (group_by [] piece out) ks js h = with_kind_as out a_list no_kinds no_kinds none_as
  unary_kinds_as (group_by (k ∷ keys) piece out) ks js h =
      with_kind_as out a_list (kept (k ∷ keys) ks) (kept (map (key_as f) (k ∷ keys)) js) (kept_as (k ∷ keys) ks js h)
  unary_kinds_as (concatenate pieces out) ks js h = with_kind_as out a_list ks js h
  unary_kinds_as (create_element label list out) ks js h = with_kind_as out an_element ks js h

  -- the kinds that an operator binds are those of the variables' numbers
  op_kinds_as : (op : Operator) (of by : ℕ → Kinds) → ((i : ℕ) → AreKinds (of i) (by i)) → AreKinds (op_kinds op of) (op_kinds (operator_as f op) by)
  op_kinds_as (source s out) of by h = with_kind_as out a_node no_kinds no_kinds none_as
  op_kinds_as (get_descendants i start path out) of by h = with_kind_as out a_node (of i) (by i) (h i)
  op_kinds_as (join left right tests) of by h = λ v. ap (λ (o : Option Kind). either_kind o (by right (f v))) (h left v) ∙ ap (λ (o : Option Kind). either_kind (of left v) o) (h right v)
  op_kinds_as (over i op) of by h = unary_kinds_as op (of i) (by i) (h i)
  op_kinds_as (tuple_destroy i element) of by h = none_as

  -- a test of all members of a list holds of all that are made of them
  all_as : {X : Type 0} (p q : X → Bool) (g : X → X) → ((x : X) → q (g x) ≡ p x) → (xs : List X) → list_all q (map g xs) ≡ list_all p xs
  all_as p q g h [] = refl
  all_as p q g h (x ∷ xs) = ap (λ b. b && list_all q (map g xs)) (h x) ∙ ap (λ b. p x && b) (all_as p q g h xs)

  module _ (ks js : Kinds) (h : AreKinds ks js) where
    -- a key is of a source node by its number too
    key_fits_as : (k : Key) → is_a_node (js (key_var (key_as f k))) ≡ is_a_node (ks (key_var k))
    key_fits_as (node_key v) = ap is_a_node (h v)
    key_fits_as (label_key v) = ap is_a_node (h v)

    -- keys are of source nodes by their numbers too
    keys_fit_as : (keys : List Key) → keys_fit js (map (key_as f) keys) ≡ keys_fit ks keys
    keys_fit_as keys = all_as (λ k. is_a_node (ks (key_var k))) (λ k. is_a_node (js (key_var k))) (key_as f) key_fits_as keys

    -- an operand can be compared by its number too
    operand_fits_as : (op : TestOp) (o : Operand) → operand_fits js op (operand_as f o) ≡ operand_fits ks op o
    operand_fits_as op (var_operand v) = ap is_a_node (h v)
    operand_fits_as op (text_operand label) = refl

    -- a comparison is of a source node by its numbers too
    test_fits_as : (t : Test) → test_fits js (test_as f t) ≡ test_fits ks t
    test_fits_as t = ap (λ b. b && is_a_node (js (f t.left))) (operand_fits_as t.op t.right) ∙ ap (λ (o : Option Kind). operand_fits ks t.op t.right && is_a_node o) (h t.left)

    -- comparisons are of source nodes by their numbers too
    tests_fit_as : (tests : List Test) → list_all (test_fits js) (map (test_as f) tests) ≡ list_all (test_fits ks) tests
    tests_fit_as tests = all_as (test_fits ks) (test_fits js) (test_as f) test_fits_as tests

    -- a piece is of a bound variable by its number too
    piece_fits_as : (p : Piece) → piece_fits js (piece_as f p) ≡ piece_fits ks p
    piece_fits_as (var_piece v) = ap is_a_kind (h v)
    piece_fits_as (label_piece v) = ap is_a_node (h v)
    piece_fits_as (text_piece label) = refl

    -- pieces are of bound variables by their numbers too
    pieces_fit_as : (ps : List Piece) → list_all (piece_fits js) (map (piece_as f) ps) ≡ list_all (piece_fits ks) ps
    pieces_fit_as ps = all_as (piece_fits ks) (piece_fits js) (piece_as f) piece_fits_as ps

    -- a piece is of a variable that is no list by its number too
    single_fits_as : (p : Piece) → single_fits js (piece_as f p) ≡ single_fits ks p
    single_fits_as (var_piece v) = ap is_no_list (h v)
    single_fits_as (label_piece v) = ap is_a_node (h v)
    single_fits_as (text_piece label) = refl

    -- an operator with one input uses what is bound by its numbers too
    unary_fits_as : (op : Unary) → stage_fits js (stage_of (unary_as f op)) ≡ stage_fits ks (stage_of op)
    unary_fits_as (select test) = test_fits_as test
    unary_fits_as (order_by v desc) = ap is_a_node (h v)
    unary_fits_as (project keys) = keys_fit_as keys
    unary_fits_as (group_by [] piece out) = single_fits_as piece
    unary_fits_as (group_by (k ∷ keys) piece out) =
        ap (λ b. b && single_fits js (piece_as f piece)) (keys_fit_as (k ∷ keys)) ∙ ap (λ b. keys_fit ks (k ∷ keys) && b) (single_fits_as piece)
    unary_fits_as (concatenate pieces out) = pieces_fit_as pieces
    unary_fits_as (create_element label list out) = ap is_a_list (h list)

    -- the tests of an operator hold where they do by the other numbers
    pub shape_fits_as : (op : Operator) → shape_fits (shape_of (operator_as f op)) js ≡ shape_fits (shape_of op) ks
    shape_fits_as (source s out) = refl
    shape_fits_as (get_descendants i start path out) = ap is_a_node (h start)
    shape_fits_as (join left right tests) = tests_fit_as tests
    shape_fits_as (over i op) = unary_fits_as op
    shape_fits_as (tuple_destroy i element) = ap is_a_made (h element)

  -- an operator has the same inputs by other numbers
  pub inputs_as : (op : Operator) → inputs_of (operator_as f op) ≡ inputs_of op
  inputs_as (source s out) = refl
  inputs_as (get_descendants i start path out) = refl
  inputs_as (join left right tests) = refl
  inputs_as (over i op) = refl
  inputs_as (tuple_destroy i element) = refl

  -- an operator binds its variables by their numbers
  pub outs_as : (op : Operator) → outs_of (operator_as f op) ≡ map f (outs_of op)
  outs_as (source s out) = refl
  outs_as (get_descendants i start path out) = refl
  outs_as (join left right tests) = refl
  outs_as (over i (select test)) = refl
  outs_as (over i (order_by v desc)) = refl
  outs_as (over i (project keys)) = refl
  outs_as (over i (group_by [] piece out)) = refl
  outs_as (over i (group_by (k ∷ keys) piece out)) = refl
  outs_as (over i (concatenate pieces out)) = refl
  outs_as (over i (create_element label list out)) = refl
  outs_as (tuple_destroy i element) = refl

  -- an operator's path is as short by other numbers
  pub short_as : (op : Operator) → IsShort (shape_of op) → IsShort (shape_of (operator_as f op))
  short_as (source s out) h = h
  short_as (get_descendants i start path out) h = h
  short_as (join left right tests) h = h
  short_as (over i op) h = h
  short_as (tuple_destroy i element) h = h

  -- an operator is as single by other numbers
  single_as : (op : Operator) (of : ℕ → Bool) → is_single (operator_as f op) of ≡ is_single op of
  single_as (source s out) of = refl
  single_as (get_descendants i start path out) of = refl
  single_as (join left right []) of = refl
  single_as (join left right (t ∷ tests)) of = refl
  single_as (over i (select test)) of = refl
  single_as (over i (order_by v desc)) of = refl
  single_as (over i (project keys)) of = refl
  single_as (over i (group_by [] piece out)) of = refl
  single_as (over i (group_by (k ∷ keys) piece out)) of = refl
  single_as (over i (concatenate pieces out)) of = refl
  single_as (over i (create_element label list out)) of = refl
  single_as (tuple_destroy i element) of = refl

  -- the operator of a number, by other numbers of variables, is that operator by other numbers
  at_as : (ops : List Operator) (n : ℕ) → n < length ops → op_at (map (operator_as f) ops) n ≡ operator_as f (op_at ops n)
  at_as [] n h = absurd (omega arith)
  at_as (op ∷ ops) zero h = refl
  at_as (op ∷ ops) (suc n) h = at_as ops n (omega arith)

  -- the operator of a number is as single by other numbers, also past the end
  single_at_as : (ops : List Operator) (n : ℕ) (of : ℕ → Bool) → is_single (op_at (map (operator_as f) ops) n) of ≡ is_single (op_at ops n) of
  single_at_as [] n of = refl
  single_at_as (op ∷ ops) zero of = single_as op of
  single_at_as (op ∷ ops) (suc n) of = single_at_as ops n of

  -- the operators below a number that are single are so by other numbers
  singles_as : (ops : List Operator) (n j : ℕ) → below_op is_single false (map (operator_as f) ops) n j ≡ below_op is_single false ops n j
  unfolding below_op
  singles_as ops zero j = refl
  singles_as ops (suc n) j =
      ap (λ b. cond (j == n) b (below_op is_single false (map (operator_as f) ops) n j)) (here n (λ i. singles_as ops n i))
      ∙ ap (λ b. cond (j == n) (is_single (op_at ops n) (below_op is_single false ops n)) b) (singles_as ops n j)
    where
      here : (n : ℕ) → ((i : ℕ) → below_op is_single false (map (operator_as f) ops) n i ≡ below_op is_single false ops n i)
          → is_single (op_at (map (operator_as f) ops) n) (below_op is_single false (map (operator_as f) ops) n) ≡ is_single (op_at ops n) (below_op is_single false ops n)
      here n more = single_at_as ops n (below_op is_single false (map (operator_as f) ops) n) ∙ ap (λ (of : ℕ → Bool). is_single (op_at ops n) of) (fun_ext more)

  -- the kinds of the operators below a number are those of the variables' numbers
  kinds_below_as : (ops : List Operator) (n : ℕ) → n ≤ length ops → (j : ℕ) → AreKinds (below_op op_kinds no_kinds ops n j) (below_op op_kinds no_kinds (map (operator_as f) ops) n j)
  unfolding below_op
  kinds_below_as ops zero h j = none_as
  kinds_below_as ops (suc n) h j = by_case (j == n) (λ i. kinds_below_as ops n (omega (arith, h)) i)
    where
      by_case : (b : Bool) → ((i : ℕ) → AreKinds (below_op op_kinds no_kinds ops n i) (below_op op_kinds no_kinds (map (operator_as f) ops) n i))
          → AreKinds (cond b (op_kinds (op_at ops n) (below_op op_kinds no_kinds ops n)) (below_op op_kinds no_kinds ops n j))
          (cond b (op_kinds (op_at (map (operator_as f) ops) n) (below_op op_kinds no_kinds (map (operator_as f) ops) n)) (below_op op_kinds no_kinds (map (operator_as f) ops) n j))
      by_case true more =
          subst (λ (o : Operator). AreKinds (op_kinds (op_at ops n) (below_op op_kinds no_kinds ops n)) (op_kinds o (below_op op_kinds no_kinds (map (operator_as f) ops) n))) (sym (at_as ops n (omega (arith, h))))
          (op_kinds_as (op_at ops n) (below_op op_kinds no_kinds ops n) (below_op op_kinds no_kinds (map (operator_as f) ops) n) more)
      by_case false more = more j

  -- the kinds of an operator's variables are those of their numbers
  pub kinds_as : (ops : List Operator) (n : ℕ) → n < length ops → AreKinds (kinds ops n) (kinds (map (operator_as f) ops) n)
  unfolding kinds
  kinds_as ops n h =
      subst (λ (o : Operator). AreKinds (kinds ops n) (op_kinds o (below_op op_kinds no_kinds (map (operator_as f) ops) n))) (sym (at_as ops n h))
      (op_kinds_as (op_at ops n) (below_op op_kinds no_kinds ops n) (below_op op_kinds no_kinds (map (operator_as f) ops) n) (λ i. kinds_below_as ops n (omega (arith, h)) i))

  -- the operators that are single are so by other numbers
  pub singles_same : (ops : List Operator) (n : ℕ) → is_single_at (map (operator_as f) ops) n ≡ is_single_at ops n
  unfolding is_single_at
  singles_same ops n =
      single_at_as ops n (below_op is_single false (map (operator_as f) ops) n) ∙ ap (λ (of : ℕ → Bool). is_single (op_at ops n) of) (fun_ext (λ j. singles_as ops n j))
