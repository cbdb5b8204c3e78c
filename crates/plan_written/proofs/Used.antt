-- In a valid plan each variable of an operator is bound anew by an operator, and each that is bound anew stands in an operator.
use Rattle.std.proofs.Common.{◌≡◌, ◌⊎◌, ◌<◌, ◌≤◌, ◌+◌, ℕ, zero, suc, true, false, cond, ◌||◌, List, [], ◌∷◌, map, length, refl, ◌∙◌, sym, ap, arith, inl, inr, None, Some, codes}
use Rattle.std.specs.Prelude.{◌==◌}
use Rattle.std.specs.List.{AllByRecursion, flat_map}
use Rattle.std.proofs.lemmas.Bool.{eq-eqb, eqb-true}
use Rattle.mix_base.specs.Ascents.{Among}
use Rattle.mix_base.proofs.Ascents.{each_among, among_left, among_right, among_cases}
use Rattle.mix_tree.specs.Keys.{key_var, has_var}
use Rattle.mix_tree.specs.declared.var.Key.{Key}
use Rattle.mix_tree.specs.declared.comparing.Operand.{Operand}
use Rattle.mix_tree.specs.declared.comparing.Operand.TheVariants.{Var as var_operand, Text as text_operand}
use Rattle.mix_tree.specs.declared.comparing.Test.{Test}
use Rattle.mix_tree.specs.declared.comparing.TestOp.{TestOp}
use Rattle.xmas_rule.proofs.Members.{among_flat_map, each_append}
use Rattle.plan_core.specs.declared.plan.Piece.{Piece}
use Rattle.plan_core.specs.declared.plan.Piece.TheVariants.{Var as var_piece, LabelOf as label_piece, Text as text_piece}
use Rattle.plan_core.specs.ByNumber.{op_at}
use Rattle.plan_core.specs.Plans.{Operator, source, get_descendants, join, over, tuple_destroy, PlanValue}
use Rattle.plan_core.specs.Shapes.{Stage, filters, extends, first_by_keys, one_group, in_order, Shape, one_source, visits_below, pairs_up, passes_on, no_events, shape_of}
use Rattle.plan_core.specs.Typed.{IsTyped}
use Rattle.plan_core.specs.Unary.{Unary, select, order_by, project, group_by, concatenate, create_element}
use Rattle.plan_core.specs.Valid.{Kind, a_node, an_element, a_list, Kinds, no_kinds, with_kind, made_kind, kept, either_kind, stage_kinds, shape_kinds, op_kinds, kinds, IsPiece, IsSinglePiece, IsOperand, IsTest, IsUnaryFit, IsFit, shape_inputs, inputs_of, HaveSmallerInputs, stage_outs, shape_outs, outs_of, IsValid}
use Rattle.plan_core.proofs.Fresh.{kept_bound}
use Rattle.plan_core.proofs.Numbers.{kinds-of}
use Rattle.plan_core.proofs.Typed.{valid_is_typed}
use Rattle.plan_read.specs.Writable.{part_vars, op_vars, vars_of}
use Rattle.plan_read.specs.Grammar.{Part, keyword, variable, operand_part, test_parts, tests_parts, piece_parts, out_parts, unary_parts, op_parts}

-- WHERE VARIABLES ARE BOUND

-- a variable that is bound with one more is that one, or was bound
one_more : (out v : ℕ) (k j : Kind) (ks : Kinds) → with_kind out k ks v ≡ Some j → Among v (out ∷ []) ⊎ (ks v ≡ Some j)
one_more out v k j ks e =
    (elim (out == v) as (λ w. (out == v) ≡ w → cond w (Some k) (ks v) ≡ Some j → Among v (out ∷ []) ⊎ (ks v ≡ Some j)) [
      | true ↦ λ t g. inl (inl (sym (eqb-true out v t)))
      | false ↦ λ t g. inr g
    ]) refl e

-- what is bound after a stage is bound by it, or was
after_stage : (stage : Stage) (ks : Kinds) (v : ℕ) (j : Kind) → stage_kinds stage ks v ≡ Some j → Among v (stage_outs stage) ⊎ ((k : Kind) × (ks v ≡ Some k))
after_stage (filters test) ks v j e = inr (j, e)
after_stage (extends out made) ks v j e = elim (one_more out v (made_kind made) j ks e) [ inl a ↦ inl a | inr h ↦ inr (j, h) ]
after_stage (first_by_keys keys None) ks v j e = inr (j, kept_bound keys ks v j e)
after_stage (first_by_keys keys (Some group)) ks v j e =
    elim (one_more group.1 v a_list j (kept keys ks) e) [ inl a ↦ inl a | inr h ↦ inr (j, kept_bound keys ks v j h) ]
after_stage (one_group piece out) ks v j e = elim (one_more out v a_list j no_kinds e) [ inl a ↦ inl a | inr h ↦ cc ]
after_stage (in_order u desc) ks v j e = inr (j, e)

-- an input of a shape binds the variable
abbrev IsBoundBelow : Shape → (ℕ → Kinds) → ℕ → Type 0
IsBoundBelow f of v = (i : ℕ) × Among i (shape_inputs f) × ((k : Kind) × (of i v ≡ Some k))

-- what is bound after an operator is bound anew by it, or by an input
after_shape : (f : Shape) (of : ℕ → Kinds) (v : ℕ) (j : Kind) → shape_kinds f of v ≡ Some j → Among v (shape_outs f) ⊎ IsBoundBelow f of v
after_shape (one_source s out) of v j e = elim (one_more out v a_node j no_kinds e) [ inl a ↦ inl a | inr h ↦ cc ]
after_shape (visits_below input start path out) of v j e = elim (one_more out v a_node j (of input) e) [ inl a ↦ inl a | inr h ↦ inr (input, inl refl, (j, h)) ]
after_shape (pairs_up left right tests) of v j e =
    (elim (of left v) as (λ w. of left v ≡ w → either_kind w (of right v) ≡ Some j → Among v [] ⊎ IsBoundBelow (pairs_up left right tests) of v) [
      | None ↦ λ t g. inr (right, inr (inl refl), (j, g))
      | Some k ↦ λ t g. inr (left, inl refl, (k, t))
    ]) refl e
after_shape (passes_on input stage) of v j e = elim (after_stage stage (of input) v j e) [ inl a ↦ inl a | inr h ↦ inr (input, inl refl, h) ]
after_shape (no_events input made) of v j e = cc

-- what the operator of a number binds anew is among what all bind anew
among_outs : (ops : List Operator) (n v : ℕ) → n < length ops → Among v (outs_of (op_at ops n)) → Among v (flat_map outs_of ops)
among_outs [] n v b a = absurd (omega (arith, b))
among_outs (op ∷ ops) zero v b a = among_left (outs_of op) (flat_map outs_of ops) v a
among_outs (op ∷ ops) (suc n) v b a = (let c : n < length ops = omega (arith, b) in among_right (outs_of op) (flat_map outs_of ops) v (among_outs ops n v c a))

-- a variable that an operator binds is bound anew by it or by one below it
pub bound_anew : (ops : List Operator) → IsTyped ops → (k n v : ℕ) (j : Kind) → n < k → n < length ops → kinds ops n v ≡ Some j → Among v (flat_map outs_of ops)
bound_anew ops t zero n v j h b e = absurd (omega (arith, h))
bound_anew ops t (suc k) n v j h b e =
    let op : Operator = op_at ops n in
    let is : kinds ops n ≡ op_kinds op (kinds ops) = kinds-of ops n op refl (t.inputs n b) in
    elim (after_shape (shape_of op) (kinds ops) v j (sym (ap (λ (f : Kinds). f v) is) ∙ e)) [
      | inl a ↦ among_outs ops n v b a
      | inr i ↦
          (let s : i.0 < n = each_among (λ i. i < n) (inputs_of op) (t.inputs n b) i.0 i.1 in
          let c : i.0 < k = omega (arith, s, h) in
          let d : i.0 < length ops = omega (arith, s, b) in bound_anew ops t k i.0 v i.2.0 c d i.2.1)
    ]

-- VARIABLES OF PARTS

-- V holds of each variable of a part
abbrev HoldsOfVars : (ℕ → Type 0) → Part → Type 0
HoldsOfVars V p = AllByRecursion V (part_vars p)

-- V holds of each variable that is bound
abbrev HoldsOfBound : (ℕ → Type 0) → Kinds → Type 0
HoldsOfBound V ks = (v : ℕ) (k : Kind) → ks v ≡ Some k → V v

-- the variable on the right side of a comparison that fits is bound
operand_vars : (V : ℕ → Type 0) (ks : Kinds) (op : TestOp) (o : Operand) → HoldsOfBound V ks → IsOperand ks op o → HoldsOfVars V (operand_part o)
operand_vars V ks op (var_operand v) b h = (b v a_node h, tt)
operand_vars V ks op (text_operand label) b h = tt

-- the variables of a comparison that fits are bound
test_vars : (V : ℕ → Type 0) (ks : Kinds) (t : Test) → HoldsOfBound V ks → IsTest ks t → AllByRecursion (HoldsOfVars V) (test_parts t)
test_vars V ks t b h = ((b t.left a_node h.0, tt), (tt, (operand_vars V ks t.op t.right b h.1, tt)))

-- the variables of fitting comparisons that each stand after AND are bound
more_vars : (V : ℕ → Type 0) (ks : Kinds) (ts : List Test) → HoldsOfBound V ks → AllByRecursion (IsTest ks) ts → AllByRecursion (HoldsOfVars V) (flat_map (λ t. keyword (codes "AND") ∷ test_parts t) ts)
more_vars V ks [] b h = tt
more_vars V ks (t ∷ ts) b h =
    (tt, each_append (HoldsOfVars V) (test_parts t) (flat_map (λ t. keyword (codes "AND") ∷ test_parts t) ts) (test_vars V ks t b h.0) (more_vars V ks ts b h.1))

-- the variables of the fitting comparisons of a join are bound
tests_vars : (V : ℕ → Type 0) (ks : Kinds) (ts : List Test) → HoldsOfBound V ks → AllByRecursion (IsTest ks) ts → AllByRecursion (HoldsOfVars V) (tests_parts ts)
tests_vars V ks [] b h = tt
tests_vars V ks (t ∷ ts) b h = each_append (HoldsOfVars V) (test_parts t) (flat_map (λ t. keyword (codes "AND") ∷ test_parts t) ts) (test_vars V ks t b h.0) (more_vars V ks ts b h.1)

-- a variable of keys is one of them with a key more
later_key : (k : Key) (ks : List Key) (v : ℕ) → has_var ks v ≡ true → has_var (k ∷ ks) v ≡ true
later_key k ks v h = elim (key_var k == v) as (λ w. (w || has_var ks v) ≡ true) [ true ↦ refl | false ↦ h ]

-- what holds of each variable of keys holds of the variable of each key
keys_vars : (V : ℕ → Type 0) (ks : List Key) → ((v : ℕ) → has_var ks v ≡ true → V v) → AllByRecursion V (map key_var ks)
keys_vars V [] h = tt
keys_vars V (k ∷ ks) h = (h (key_var k) (rw (eq-eqb (key_var k) (key_var k) refl) refl), keys_vars V ks (λ v e. h v (later_key k ks v e)))

-- the variable of a piece that fits is bound
piece_vars : (V : ℕ → Type 0) (ks : Kinds) (p : Piece) → HoldsOfBound V ks → IsPiece ks p → AllByRecursion (HoldsOfVars V) (piece_parts p)
piece_vars V ks (var_piece v) b h = ((b v h.0 h.1, tt), tt)
piece_vars V ks (label_piece v) b h = (tt, ((b v a_node h, tt), tt))
piece_vars V ks (text_piece label) b h = (tt, tt)

-- the variable of a fitting piece that is no list is bound
single_vars : (V : ℕ → Type 0) (ks : Kinds) (p : Piece) → HoldsOfBound V ks → IsSinglePiece ks p → AllByRecursion (HoldsOfVars V) (piece_parts p)
single_vars V ks (var_piece v) b h = ((b v h.0 h.1, tt), tt)
single_vars V ks (label_piece v) b h = (tt, ((b v a_node h, tt), tt))
single_vars V ks (text_piece label) b h = (tt, tt)

-- the variables of pieces that fit are bound
pieces_vars : (V : ℕ → Type 0) (ks : Kinds) (ps : List Piece) → HoldsOfBound V ks → AllByRecursion (IsPiece ks) ps → AllByRecursion (HoldsOfVars V) (flat_map piece_parts ps)
pieces_vars V ks [] b h = tt
pieces_vars V ks (p ∷ ps) b h = each_append (HoldsOfVars V) (piece_parts p) (flat_map piece_parts ps) (piece_vars V ks p b h.0) (pieces_vars V ks ps b h.1)

-- the variables of an operator with one input that fits are bound by its input or by itself
unary_vars : (V : ℕ → Type 0) (ks : Kinds) (i : ℕ) (op : Unary) → HoldsOfBound V ks → ((v : ℕ) → Among v (outs_of (over i op)) → V v) → IsUnaryFit ks op → AllByRecursion (HoldsOfVars V) (unary_parts i op)
unary_vars V ks i (select test) b o h = (tt, (tt, test_vars V ks test b h))
unary_vars V ks i (order_by v desc) b o h = (tt, (tt, ((b v a_node h, tt), (tt, tt))))
unary_vars V ks i (project keys) b o h = (tt, (tt, (keys_vars V keys (λ v e. b v a_node (h v e)), tt)))
unary_vars V ks i (group_by [] piece out) b o h =
    (tt, (tt, (tt, each_append (HoldsOfVars V) (piece_parts piece) (out_parts out) (single_vars V ks piece b h) (tt, ((o out (inl refl), tt), tt)))))
unary_vars V ks i (group_by (k ∷ keys) piece out) b o h =
    let rest = each_append (HoldsOfVars V) (piece_parts piece) (out_parts out) (single_vars V ks piece b h.1) (tt, ((o out (inl refl), tt), tt)) in (tt, (tt, (keys_vars V (k ∷ keys) (λ v e. b v a_node (h.0 v e)), rest)))
unary_vars V ks i (concatenate pieces out) b o h =
    (tt, (tt, each_append (HoldsOfVars V) (flat_map piece_parts pieces) (out_parts out) (pieces_vars V ks pieces b h) (tt, ((o out (inl refl), tt), tt))))
unary_vars V ks i (create_element label list out) b o h = (tt, (tt, (tt, ((b list a_list h, tt), (tt, ((o out (inl refl), tt), tt))))))

-- what holds of each variable of both sides of a join holds of each that the join binds
either_bound : (V : ℕ → Type 0) (f g : Kinds) → HoldsOfBound V f → HoldsOfBound V g → HoldsOfBound V (λ v. either_kind (f v) (g v))
either_bound V f g a b v k e =
    (elim (f v) as (λ w. f v ≡ w → either_kind w (g v) ≡ Some k → V v) [ None ↦ λ t h. b v k h | Some j ↦ λ t h. a v j t ]) refl e

-- the variables of an operator that fits are bound by its inputs or by itself
fit_vars : (V : ℕ → Type 0) (of : ℕ → Kinds) (op : Operator) → ((i : ℕ) → Among i (inputs_of op) → HoldsOfBound V (of i)) → ((v : ℕ) → Among v (outs_of op) → V v) → IsFit op of
    → AllByRecursion (HoldsOfVars V) (op_parts op)
fit_vars V of (source s out) b o h = (tt, (tt, (tt, ((o out (inl refl), tt), tt))))
fit_vars V of (get_descendants i start p out) b o h = (tt, (tt, ((b i (inl refl) start a_node h.0, tt), (tt, (tt, ((o out (inl refl), tt), tt))))))
fit_vars V of (join left right tests) b o h =
    (tt, (tt, (tt, tests_vars V (λ v. either_kind (of left v) (of right v)) tests (either_bound V (of left) (of right) (b left (inl refl)) (b right (inr (inl refl)))) h)))
fit_vars V of (over i op) b o h = unary_vars V (of i) i op (b i (inl refl)) o h
fit_vars V of (tuple_destroy i element) b o h = (tt, (tt, ((b i (inl refl) element an_element h, tt), tt)))

-- what holds of each number of each list holds of the numbers of all lists
each_flat : {X : Type 0} (V : ℕ → Type 0) (f : X → List ℕ) (xs : List X) → AllByRecursion (λ x. AllByRecursion V (f x)) xs → AllByRecursion V (flat_map f xs)
each_flat V f [] h = tt
each_flat V f (x ∷ xs) h = each_append V (f x) (flat_map f xs) h.0 (each_flat V f xs h.1)

-- VALID PLANS

-- the variables of the operators from number n on are bound anew by operators of the plan
vars_from : (p : PlanValue) → IsTyped p.ops → (n : ℕ) (ops : List Operator) → n + length ops ≤ length p.ops → HaveSmallerInputs n ops → AllByRecursion (λ op. IsFit op (kinds p.ops)) ops
    → ((v : ℕ) → Among v (flat_map outs_of ops) → Among v (flat_map outs_of p.ops)) → AllByRecursion (λ v. Among v (flat_map outs_of p.ops)) (vars_of ops)
vars_from p t n [] l s f k = tt
vars_from p t n (op ∷ ops) l s f k =
    let V : ℕ → Type 0 = λ v. Among v (flat_map outs_of p.ops) in
    let below : (i : ℕ) → Among i (inputs_of op) → HoldsOfBound V (kinds p.ops i) = λ i a v j e.
    (let x : i < n = each_among (λ i. i < n) (inputs_of op) s.0 i a in bound_anew p.ops t (suc i) i v j (omega arith) (omega (arith, x, l)) e) in
    let here = fit_vars V (kinds p.ops) op below (λ v a. k v (among_left (outs_of op) (flat_map outs_of ops) v a)) f.0 in
    each_append V (op_vars op) (vars_of ops) (each_flat V part_vars (op_parts op) here)
    (vars_from p t (suc n) ops (omega (arith, l)) s.1 f.1 (λ v a. k v (among_right (outs_of op) (flat_map outs_of ops) v a)))

-- each variable of a valid plan is bound anew by one of its operators
pub valid_vars : (p : PlanValue) → IsValid p → AllByRecursion (λ v. Among v (flat_map outs_of p.ops)) (vars_of p.ops)
valid_vars p h = vars_from p (valid_is_typed p h) 0 p.ops (omega arith) h.smaller h.fit (λ v a. a)

-- VARIABLES THAT ARE BOUND ANEW

-- the one variable that is bound after an arrow is one of the parts there
after_arrow : (v out : ℕ) → Among v (out ∷ []) → Among (variable v) (out_parts out)
after_arrow v out (inl e) = inr (inl (ap variable e))
after_arrow v out (inr a) = absurd a

-- a variable that an operator with one input binds anew is one of its parts
unary_named : (i : ℕ) (op : Unary) (v : ℕ) → Among v (outs_of (over i op)) → Among (variable v) (unary_parts i op)
unary_named i (select test) v a = absurd a
unary_named i (order_by u desc) v a = absurd a
unary_named i (project ks) v a = absurd a
unary_named i (group_by [] piece out) v a = inr (inr (inr (among_right (piece_parts piece) (out_parts out) (variable v) (after_arrow v out a))))
unary_named i (group_by (k ∷ ks) piece out) v a = inr (inr (inr (among_right (piece_parts piece) (out_parts out) (variable v) (after_arrow v out a))))
unary_named i (concatenate pieces out) v a = inr (inr (among_right (flat_map piece_parts pieces) (out_parts out) (variable v) (after_arrow v out a)))
unary_named i (create_element label list out) v a = inr (inr (inr (inr (after_arrow v out a))))

-- a variable that an operator binds anew is one of its parts
op_named : (op : Operator) (v : ℕ) → Among v (outs_of op) → Among (variable v) (op_parts op)
op_named (source s out) v a = inr (inr (after_arrow v out a))
op_named (get_descendants i start p out) v a = inr (inr (inr (inr (after_arrow v out a))))
op_named (join left right tests) v a = absurd a
op_named (over i op) v a = unary_named i op v a
op_named (tuple_destroy i element) v a = absurd a

-- a variable that operators bind anew is one of their variables
pub outs_named : (ops : List Operator) (v : ℕ) → Among v (flat_map outs_of ops) → Among v (vars_of ops)
outs_named [] v a = a
outs_named (op ∷ ops) v a = elim (among_cases (outs_of op) (flat_map outs_of ops) v a) [
  | inl b ↦ among_left (op_vars op) (vars_of ops) v (among_flat_map part_vars (variable v) v (op_parts op) (op_named op v b) (inl refl))
  | inr b ↦ among_right (op_vars op) (vars_of ops) v (outs_named ops v b)
]
