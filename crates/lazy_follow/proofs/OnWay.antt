-- Which operators are on the way of evidence, and the variables that they bind, one operator after another.
use Rattle.std.proofs.Common.{◌≡◌, ℕ, zero, suc, ◌<◌, ◌≤◌, ◌+◌, true, false, cond, List, [], ◌∷◌, ◌++◌, refl, sym, ap, ◌∙◌, arith, length, drop, map}
use Rattle.std.specs.Prelude.{Bool, ◌||◌, ◌==◌, slice_index_or}
use Rattle.std.proofs.lemmas.Bool.{eqb-true}
use Rattle.std.proofs.lemmas.Bool.Decides.{nat_tests}
use Rattle.mix_base.specs.Ascents.{Among}
use Rattle.mix_base.proofs.Ascents.{each_among}
use Rattle.mix_tree.specs.declared.var.Key.{Key}
use Rattle.plan_core.specs.declared.plan.Op.{Op}
use Rattle.plan_core.specs.declared.plan.Piece.{Piece}
use Rattle.plan_core.specs.PlanMade.{op_of}
use Rattle.plan_core.specs.Plans.{Operator, over}
use Rattle.plan_core.specs.Unary.{group_by}
use Rattle.plan_core.specs.Shapes.{shape_of, shape_at}
use Rattle.plan_core.specs.Typed.{IsTyped}
use Rattle.plan_core.specs.Valid.{shape_inputs}
use Rattle.plan_evidence.specs.Evidence.{shape_way, visit_vars, vars_from, is_under, is_below, is_on_way}
use Rattle.plan_evidence.proofs.Ways.{below_of, way_inputs}

-- a test or none
or_none : (b : Bool) → (b || false) ≡ b
or_none true = refl
or_none false = refl

module _ (ops : List Operator) (typed : IsTyped ops) (n : ℕ) (within : n < length ops) where
  -- an input on the way has a smaller number
  pub on_smaller : (i : ℕ) → Among i (shape_way (shape_at ops n)) → i < n
  on_smaller i a = each_among (λ j. j < n) (shape_inputs (shape_at ops n)) (typed.inputs n within) i (way_inputs (shape_at ops n) i a)

  -- what is on the way is the operator itself
  pub on_itself : (i : ℕ) → n ≡ i → true ≡ is_on_way ops n i
  on_itself i e = (let t : (n == i) ≡ true = grind (arith, nat_tests, e) in sym (ap (λ (b : Bool). b || is_below ops n i) t))

  module _ (i : ℕ) (other : n ≡ i → ⊥) where
    -- the operator itself is another one
    differs : (n == i) ≡ false
    differs = off (n == i) refl
      where
        off : (t : Bool) → (n == i) ≡ t → t ≡ false
        off true e = absurd (other (eqb-true n i e))
        off false e = refl

    -- what is on the way of another operator is under its inputs
    on_under : (inputs : List ℕ) → shape_way (shape_at ops n) ≡ inputs → is_on_way ops n i ≡ is_under inputs (is_below ops) i
    on_under inputs e = ap (λ (b : Bool). b || is_below ops n i) differs ∙ below_of ops n i (typed.inputs n within) ∙ ap (λ (l : List ℕ). is_under l (is_below ops) i) e

    -- nothing else is on the way without inputs
    pub on_none : shape_way (shape_at ops n) ≡ [] → false ≡ is_on_way ops n i
    on_none e = sym (on_under [] e)

    -- what is on the way of an only input
    pub on_one : (j : ℕ) → shape_way (shape_at ops n) ≡ j ∷ [] → (b : Bool) → b ≡ is_on_way ops j i → b ≡ is_on_way ops n i
    on_one j e b h = h ∙ sym (or_none (is_on_way ops j i)) ∙ sym (on_under (j ∷ []) e)

    -- what is on the way of the first of two inputs
    pub on_first : (j k : ℕ) → shape_way (shape_at ops n) ≡ j ∷ k ∷ [] → is_on_way ops j i ≡ true → true ≡ is_on_way ops n i
    on_first j k e h = sym (on_under (j ∷ k ∷ []) e ∙ ap (λ (b : Bool). b || (is_on_way ops k i || false)) h)

    -- what isn't on the way of the first of two inputs is on that of the second, or on neither
    pub on_second : (j k : ℕ) → shape_way (shape_at ops n) ≡ j ∷ k ∷ [] → is_on_way ops j i ≡ false → (b : Bool) → b ≡ is_on_way ops k i → b ≡ is_on_way ops n i
    on_second j k e h b g = g ∙ sym (on_under (j ∷ k ∷ []) e ∙ ap (λ (b : Bool). b || (is_on_way ops k i || false)) h ∙ or_none (is_on_way ops k i))

-- the operators from an index on
drop_op : (ops : List Op) (i : ℕ) (x : Op) → i < length ops → x ≡ slice_index_or ops i x → drop i (map op_of ops) ≡ op_of x ∷ drop (suc i) (map op_of ops)
drop_op [] i x h e = absurd (omega (arith, h))
drop_op (o ∷ ops) zero x h e = ap (λ (y : Op). op_of y ∷ map op_of ops) (sym e)
drop_op (o ∷ ops) (suc i) x h e = drop_op ops i x (omega (arith, h)) e

module _ (ops : List Op) (n i : ℕ) (within : i < length ops) (x : Op) (e : x ≡ slice_index_or ops i x) (t : Bool) (on : t ≡ is_on_way (map op_of ops) n i) where
  -- the variables from an operator on are its own and those from the next one on
  pub vars_on : (now : List ℕ) → cond t (visit_vars (shape_of (op_of x))) [] ≡ now
      → vars_from (is_on_way (map op_of ops) n) i (drop i (map op_of ops)) ≡ now ++ vars_from (is_on_way (map op_of ops) n) (i + 1) (drop (i + 1) (map op_of ops))
  vars_on now h =
      let z : i + 1 ≡ suc i = omega arith in
      let later : ℕ → List ℕ = λ (k : ℕ). vars_from (is_on_way (map op_of ops) n) k (drop k (map op_of ops)) in
      ap (vars_from (is_on_way (map op_of ops) n) i) (drop_op ops i x within e)
      ∙ ap (λ (b : Bool). cond b (visit_vars (shape_of (op_of x))) [] ++ later (suc i)) (sym on)
      ∙ ap (λ (l : List ℕ). l ++ later (suc i)) h
      ∙ ap (λ (k : ℕ). now ++ later k) (sym z)

-- past the last operator there are no variables
pub vars_end : (on : ℕ → Bool) (ops : List Operator) (i : ℕ) → length ops ≤ i → vars_from on i (drop i ops) ≡ []
vars_end on ops i h = ap (vars_from on i) (gone ops i h)
  where
    gone : (ops : List Operator) (i : ℕ) → length ops ≤ i → drop i ops ≡ []
    gone [] zero h = refl
    gone [] (suc i) h = refl
    gone (o ∷ ops) zero h = absurd (omega (arith, h))
    gone (o ∷ ops) (suc i) h = gone ops i (omega (arith, h))

-- the way of a groupBy without keys ends at it
pub group_alone : (input : ℕ) (keys : List Key) (piece : Piece) (out : ℕ) → (length keys == 0) ≡ true → shape_way (shape_of (over input (group_by keys piece out))) ≡ []
group_alone input [] piece out e = refl
group_alone input (k ∷ keys) piece out e = absurd (grind (arith, nat_tests, e))

-- the way of a groupBy by keys goes through its input
pub group_through : (input : ℕ) (keys : List Key) (piece : Piece) (out : ℕ) → (length keys == 0) ≡ false → shape_way (shape_of (over input (group_by keys piece out))) ≡ input ∷ []
group_through input [] piece out e = absurd (grind (arith, nat_tests, e))
group_through input (k ∷ keys) piece out e = refl
