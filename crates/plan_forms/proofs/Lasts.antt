-- The last operator of a valid plan.
use Rattle.std.proofs.Common.{◌≡◌, ◌<◌, ◌-◌, ℕ, suc, Bool, true, List, [], ◌∷◌, Option, Some, None, length, get_or, refl, ◌∙◌, sym, ap, subst, arith}
use Rattle.std.specs.List.{last_or, AllByRecursion}
use Rattle.plan_core.specs.Plans.{Operator, source, get_descendants, join, over, tuple_destroy, PlanValue}
use Rattle.plan_core.specs.ByNumber.{op_at}
use Rattle.plan_core.specs.Typed.{IsTyped}
use Rattle.plan_core.specs.Valid.{kinds, an_element, IsFit, EndsSingle, is_single_at, IsValid, inputs_of}
use Rattle.plan_forms.specs.Forms.{input_of, shown_by, IsLast}

-- a list of operators ends with a tupleDestroy over an operator with a single binding
pub record Ends (of : ℕ → Bool) (ops : List Operator) (d : Option Operator) : Type 0 where
  pub input : ℕ
  pub element : ℕ
  pub number : ℕ
  pub count : length ops ≡ suc number
  pub is : op_at ops number ≡ tuple_destroy input element
  pub last : last_or d ops ≡ Some (tuple_destroy input element)
  pub alone : of input ≡ true

-- a list that ends with a tupleDestroy does so with one operator more before it
before : (of : ℕ → Bool) (o : Operator) (ops : List Operator) (d : Option Operator) → Ends of ops (Some o) → Ends of (o ∷ ops) d
before of o ops d e = record { input = e.input; element = e.element; number = suc e.number; count = ap suc e.count; is = e.is; last = e.last; alone = e.alone }

-- the operators of a valid plan end with a tupleDestroy over an operator with a single binding
ends_are : (of : ℕ → Bool) (ops : List Operator) (d : Option Operator) → EndsSingle of ops → Ends of ops d
ends_are of [] d h = absurd h
ends_are of (tuple_destroy i v ∷ []) d h = record { input = i; element = v; number = 0; count = refl; is = refl; last = refl; alone = h }
ends_are of (tuple_destroy i v ∷ o ∷ ops) d h = absurd h
ends_are of (source s out ∷ ops) d h = before of (source s out) ops d (ends_are of ops (Some (source s out)) h)
ends_are of (get_descendants i start path out ∷ ops) d h = before of (get_descendants i start path out) ops d (ends_are of ops (Some (get_descendants i start path out)) h)
ends_are of (join l r tests ∷ ops) d h = before of (join l r tests) ops d (ends_are of ops (Some (join l r tests)) h)
ends_are of (over i u ∷ ops) d h = before of (over i u) ops d (ends_are of ops (Some (over i u)) h)

module _ (p : PlanValue) (valid : IsValid p) where
  -- the operators of a valid plan end with a tupleDestroy
  pub valid_ends : Ends (is_single_at p.ops) p.ops None
  valid_ends = ends_are (is_single_at p.ops) p.ops None valid.ends

  -- a valid plan has an operator
  pub valid_some : 0 < length p.ops
  valid_some = let e = valid_ends.count in omega (arith, e)

  -- the last operator of a valid plan is a tupleDestroy
  pub last_at : op_at p.ops (length p.ops - 1) ≡ tuple_destroy valid_ends.input valid_ends.element
  last_at = let e = valid_ends.count in let z : length p.ops - 1 ≡ valid_ends.number = omega (arith, e) in ap (op_at p.ops) z ∙ valid_ends.is

  -- what is read off the last operator of a valid plan makes the plan's document
  pub last_is : IsTyped p.ops → IsLast p.ops valid_ends.input valid_ends.element
  last_is typed =
      let e = valid_ends.count in
      let h : valid_ends.number < length p.ops = omega (arith, e) in
      let b = subst (λ (o : Operator). AllByRecursion (λ i. i < valid_ends.number) (inputs_of o)) valid_ends.is (typed.inputs valid_ends.number h) in
      let f = typed.fit valid_ends.number h in
      record {
        within = (let z = b.0 in omega (arith, z, h));
        kind = fit f valid_ends.is;
        single = valid_ends.alone;
        last = valid_ends.last;
      }
    where
      fit : IsFit (op_at p.ops valid_ends.number) (kinds p.ops) → op_at p.ops valid_ends.number ≡ tuple_destroy valid_ends.input valid_ends.element → kinds p.ops valid_ends.input valid_ends.element ≡ Some an_element
      fit f e = subst (λ (o : Operator). IsFit o (kinds p.ops)) e f

-- the input and the variable that are read off a tupleDestroy are its own
pub last_shown : (ops : List Operator) (o : Operator) (i v j w : ℕ) (shown : List ℕ) → o ≡ tuple_destroy i v → j ≡ input_of o → shown ≡ shown_by o → w ≡ get_or shown 0 w → IsLast ops i v → IsLast ops j w
last_shown ops o i v j w shown e f g h k =
    let x : i ≡ j = sym (f ∙ ap input_of e) in
    let z : shown ≡ v ∷ [] = g ∙ ap shown_by e in
    let y : v ≡ w = sym (h ∙ ap (λ (xs : List ℕ). get_or xs 0 w) z) in
    subst (λ (n : ℕ). IsLast ops n w) x (subst (IsLast ops i) y k)
