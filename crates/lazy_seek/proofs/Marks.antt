-- Marks of the operators on the way.
use Rattle.std.proofs.Common.{◌≡◌, ℕ, zero, suc, ◌<◌, ◌+◌, true, false, cond, List, [], ◌∷◌, ◌++◌, refl, sym, ap, subst, ◌∙◌, arith, length, length-append, map}
use Rattle.std.specs.Prelude.{Bool, ◌||◌, ◌==◌, slice_index_or, slice_set}
use Rattle.std.proofs.lemmas.List.{get_or-set_same, get_or-set_other}
use Rattle.std.proofs.lemmas.Bool.{eqb-true}
use Rattle.std.proofs.lemmas.Bool.Decides.{nat_tests}
use Rattle.mix_base.specs.Ascents.{Among}
use Rattle.plan_core.specs.declared.plan.Op.{Op}
use Rattle.plan_core.specs.ByNumber.{op_at}
use Rattle.plan_core.specs.PlanMade.{op_of}
use Rattle.plan_core.specs.Plans.{Operator}
use Rattle.plan_core.specs.Shapes.{shape_of, shape_at}
use Rattle.plan_core.specs.Typed.{IsTyped}
use Rattle.plan_core.specs.Valid.{shape_inputs}
use Rattle.mix_base.proofs.Ascents.{each_among}
use Rattle.plan_evidence.specs.Evidence.{shape_way, visit_vars, is_under, is_below, is_on_way}
use Rattle.plan_evidence.proofs.Ways.{below_of, way_inputs}
use Rattle.lazy_seek.specs.Given.{vars_below}
use Rattle.lazy_seek.proofs.Drafts.{vars_step}

-- a test or none
or_none : (b : Bool) → b ≡ (b || false)
or_none true = refl
or_none false = refl

-- tests in a row
or_assoc : (a b c : Bool) → ((a || b) || c) ≡ (a || (b || c))
or_assoc true b c = refl
or_assoc false b c = refl

-- a test that holds, after any
or_true : (b : Bool) → true ≡ (b || true)
or_true true = refl
or_true false = refl

-- one mark more
marked_one : (way : List Bool) (n i : ℕ) → n < length way → slice_index_or (slice_set way n true) i false ≡ (slice_index_or way i false || (n == i))
marked_one way n i h = one (n == i) refl
  where
    one : (t : Bool) → (n == i) ≡ t → slice_index_or (slice_set way n true) i false ≡ (slice_index_or way i false || t)
    one true e =
        subst (λ (m : ℕ). slice_index_or (slice_set way n true) m false ≡ (slice_index_or way m false || true)) (eqb-true n i e)
        (get_or-set_same way n true false h ∙ or_true (slice_index_or way n false))
    one false e = get_or-set_other way n i true false (λ (z : i ≡ n). (let g : (n == i) ≡ true = grind (arith, nat_tests, z) in let x : true ≡ false = sym g ∙ e in cc)) ∙ or_none (slice_index_or way i false)

-- the operator that is read at an index
pub op_read : (ops : List Op) (n : ℕ) (x : Op) → n < length ops → x ≡ slice_index_or ops n x → op_of x ≡ op_at (map op_of ops) n
op_read [] n x h e = absurd (omega (arith, h))
op_read (o ∷ ops) zero x h e = ap op_of e
op_read (o ∷ ops) (suc n) x h e = op_read ops n x (omega (arith, h)) e

-- no variables are those before any operator
pub vars_zero : (ops : List Operator) (n : ℕ) → vars_below ops n 0 ≡ []
unfolding vars_below
vars_zero ops n = refl

-- visits are counted on by one operator
pub counted_more : (ops : List Op) (n i count more : ℕ) (t : Bool) (x : Op) → i < length ops → x ≡ slice_index_or ops i x → t ≡ is_on_way (map op_of ops) n i → count ≡ length (vars_below (map op_of ops) n i)
    → more ≡ length (cond t (visit_vars (shape_of (op_of x))) []) → count + more ≡ length (vars_below (map op_of ops) n (i + 1))
counted_more ops n i count more t x h e o b m =
    let now : List ℕ = cond (is_on_way (map op_of ops) n i) (visit_vars (shape_at (map op_of ops) i)) [] in
    let one : more ≡ length now =
    m ∙ ap (λ (y : Operator). length (cond t (visit_vars (shape_of y)) [])) (op_read ops i x h e) ∙ ap (λ (y : Bool). length (cond y (visit_vars (shape_at (map op_of ops) i)) [])) o in
    let next : length (vars_below (map op_of ops) n (i + 1)) ≡ length (vars_below (map op_of ops) n i ++ now) =
    (let z : i + 1 ≡ suc i = omega arith in ap (λ (k : ℕ). length (vars_below (map op_of ops) n k)) z ∙ ap length (vars_step (map op_of ops) n i)) in
    omega (arith, one, next, length-append (vars_below (map op_of ops) n i) now, b)

module _ (ops : List Operator) (typed : IsTyped ops) (n : ℕ) (within : n < length ops) where
  -- an input on the way has a smaller number
  pub way_smaller : (i : ℕ) → Among i (shape_way (shape_at ops n)) → i < n
  way_smaller i a = each_among (λ j. j < n) (shape_inputs (shape_at ops n)) (typed.inputs n within) i (way_inputs (shape_at ops n) i a)

  -- what is on the way is the operator itself, or under its inputs on the way
  on_of : (inputs : List ℕ) (i : ℕ) → shape_way (shape_at ops n) ≡ inputs → is_on_way ops n i ≡ ((n == i) || is_under inputs (is_below ops) i)
  on_of inputs i e = ap (λ (b : Bool). (n == i) || b) (below_of ops n i (typed.inputs n within) ∙ ap (λ (l : List ℕ). is_under l (is_below ops) i) e)

  module _ (way : List Bool) (room : n < length way) (i : ℕ) where
    -- the mark of an operator without inputs on the way
    pub marks_none : shape_way (shape_at ops n) ≡ [] → slice_index_or (slice_set way n true) i false ≡ (slice_index_or way i false || is_on_way ops n i)
    marks_none e = marked_one way n i room ∙ ap (λ (b : Bool). slice_index_or way i false || b) (or_none (n == i) ∙ sym (on_of [] i e))

    -- the marks of an operator with one input on the way
    pub marks_input : (j : ℕ) → shape_way (shape_at ops n) ≡ j ∷ [] → (b : Bool) → b ≡ (slice_index_or (slice_set way n true) i false || is_on_way ops j i)
        → b ≡ (slice_index_or way i false || is_on_way ops n i)
    marks_input j e b h =
        h ∙ ap (λ (x : Bool). x || is_on_way ops j i) (marked_one way n i room) ∙ or_assoc (slice_index_or way i false) (n == i) (is_on_way ops j i)
        ∙ ap (λ (x : Bool). slice_index_or way i false || x) (ap (λ (x : Bool). (n == i) || x) (or_none (is_on_way ops j i)) ∙ sym (on_of (j ∷ []) i e))

    -- the marks of an operator with two inputs on the way
    pub marks_sides : (j k : ℕ) → shape_way (shape_at ops n) ≡ j ∷ k ∷ [] → (a b : Bool) → a ≡ (slice_index_or (slice_set way n true) i false || is_on_way ops j i) → b ≡ (a || is_on_way ops k i)
        → b ≡ (slice_index_or way i false || is_on_way ops n i)
    marks_sides j k e a b g h =
        h ∙ ap (λ (x : Bool). x || is_on_way ops k i) (g ∙ ap (λ (x : Bool). x || is_on_way ops j i) (marked_one way n i room) ∙ or_assoc (slice_index_or way i false) (n == i) (is_on_way ops j i))
        ∙ or_assoc (slice_index_or way i false) ((n == i) || is_on_way ops j i) (is_on_way ops k i)
        ∙ ap (λ (x : Bool). slice_index_or way i false || x)
        (or_assoc (n == i) (is_on_way ops j i) (is_on_way ops k i)
        ∙ ap (λ (x : Bool). (n == i) || (is_on_way ops j i || x)) (or_none (is_on_way ops k i)) ∙ sym (on_of (j ∷ k ∷ []) i e))
