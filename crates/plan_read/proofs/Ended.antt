-- How operators end, and which of them have a single binding.
use Rattle.std.proofs.Common.{◌≡◌, inl, inr, ◌<◌, ◌≤◌, ◌+◌, ◌∙◌, ◌==◌, ◌&&◌, ◌++◌, ℕ, zero, suc, Bool, true, false, List, [], ◌∷◌, refl, sym, ap, arith, length, drop, get_or, slice_index_or}
use Rattle.std.specs.List.{AllByRecursion}
use Rattle.std.proofs.lemmas.Bool.{eq-eqb, ne_eqb, cases_eq, cases_lt}
use Rattle.std.proofs.lemmas.List.{drop_more, get_or_append_left, get_or_push}
use Rattle.mix_base.proofs.Firsts.{each_weaker}
use Rattle.plan_core.specs.ByNumber.{op_at}
use Rattle.mix_tree.specs.declared.var.Var.{Var}
use Rattle.plan_core.specs.declared.plan.Op.{Op}
use Rattle.plan_core.specs.declared.plan.Op.TheVariants as op
use Rattle.plan_core.specs.PlanMade.{op_of}
use Rattle.plan_core.specs.Plans.{Operator, source, get_descendants, join, over, tuple_destroy}
use Rattle.plan_core.specs.Valid.{inputs_of, EndsSingle, is_single, is_single_at}
use Rattle.plan_core.proofs.Numbers.{by_number-of}
use Rattle.plan_core.proofs.Inputs.{is_single-reads}
use Rattle.plan_read.specs.Ops.{is_destroy, are_none, ends_by}

-- operators that are tested to end in the only tupleDestroy, over what is single, do so
pub ends_sound : (single : ℕ → Bool) (ops : List Operator) → ends_by single ops ≡ true → EndsSingle single ops
ends_sound single [] h = false_true h
  where
    false_true : ◌≡◌ {A = Bool} false true → ⊥
    false_true h = cc
ends_sound single (source s out ∷ ops) h = ends_sound single ops h
ends_sound single (get_descendants input start path out ∷ ops) h = ends_sound single ops h
ends_sound single (join left right tests ∷ ops) h = ends_sound single ops h
ends_sound single (over input op ∷ ops) h = ends_sound single ops h
ends_sound single (tuple_destroy input element ∷ []) h = h
ends_sound single (tuple_destroy input element ∷ op ∷ ops) h = false_true h
  where
    false_true : ◌≡◌ {A = Bool} false true → ⊥
    false_true h = cc

-- operators that end in the only tupleDestroy, over what is single, are tested to do so
pub ends_test : (single : ℕ → Bool) (ops : List Operator) → EndsSingle single ops → ends_by single ops ≡ true
ends_test single [] h = absurd h
ends_test single (source s out ∷ ops) h = ends_test single ops h
ends_test single (get_descendants input start path out ∷ ops) h = ends_test single ops h
ends_test single (join left right tests ∷ ops) h = ends_test single ops h
ends_test single (over input op ∷ ops) h = ends_test single ops h
ends_test single (tuple_destroy input element ∷ []) h = h
ends_test single (tuple_destroy input element ∷ op ∷ ops) h = absurd h

-- an operator that is no tupleDestroy doesn't change how the operators after it end
ends_other : (single : ℕ → Bool) (op : Operator) (ops : List Operator) → is_destroy op ≡ false → ends_by single (op ∷ ops) ≡ ends_by single ops
ends_other single (source s out) ops h = refl
ends_other single (get_descendants input start path out) ops h = refl
ends_other single (join left right tests) ops h = refl
ends_other single (over input op) ops h = refl
ends_other single (tuple_destroy input element) ops h = absurd (true_false h)
  where
    true_false : ◌≡◌ {A = Bool} true false → ⊥
    true_false h = cc

-- how operators end is told after an operator that is no tupleDestroy as it was before
pub ends_further : (single : ℕ → Bool) (ops : List Operator) (k : ℕ) (op : Operator) → k < length ops → get_or ops k op ≡ op → is_destroy op ≡ false → ends_by single (drop (k + 1) ops) ≡ ends_by single (drop k ops)
ends_further single ops k op h e d =
    sym (ends_other single op (drop (k + 1) ops) d) ∙ sym (ap (ends_by single) (drop_more ops k op h ∙ ap (λ o. o ∷ drop (k + 1) ops) e))

-- the test whether two numbers are the same is that of the next ones
next_same : (a b : ℕ) → (a == b) ≡ (suc a == suc b)
next_same a b = elim (cases_eq a b) [
  | inl e ↦ eq-eqb a b e ∙ sym (eq-eqb (suc a) (suc b) (ap suc e))
  | inr n ↦ ne_eqb a b n ∙ sym (ne_eqb (suc a) (suc b) (λ e. n (omega (arith, e))))
]

-- no operators are left exactly after all of them
none_left : (ops : List Operator) (n : ℕ) → n ≤ length ops → are_none (drop n ops) ≡ (n == length ops)
none_left [] zero h = refl
none_left [] (suc n) h = absurd (omega arith)
none_left (op ∷ ops) zero h = sym (ne_eqb 0 (length (op ∷ ops)) (λ e. omega (arith, e)))
none_left (op ∷ ops) (suc n) h = none_left ops n (omega arith) ∙ next_same n (length ops)

-- from a tupleDestroy on, operators end well where it is the last and the property holds of its input
pub ends_here : (single : ℕ → Bool) (ops : List Operator) (k input element : ℕ) → k < length ops → get_or ops k (tuple_destroy input element) ≡ tuple_destroy input element
    → ends_by single (drop k ops) ≡ ((k + 1 == length ops) && single input)
ends_here single ops k input element h e =
    ap (ends_by single) (drop_more ops k (tuple_destroy input element) h ∙ ap (λ o. o ∷ drop (k + 1) ops) e)
    ∙ ap (λ b. b && single input) (none_left ops (k + 1) (omega arith))

-- no operators don't end in a tupleDestroy
pub ends_nowhere : (single : ℕ → Bool) (ops : List Operator) (k : ℕ) → length ops ≤ k → ends_by single (drop k ops) ≡ false
ends_nowhere single [] zero h = refl
ends_nowhere single [] (suc k) h = refl
ends_nowhere single (op ∷ ops) zero h = absurd (omega arith)
ends_nowhere single (op ∷ ops) (suc k) h = ends_nowhere single ops k (omega arith)

-- an operator that is tested to be a tupleDestroy is one
pub destroys : (op : Operator) → is_destroy op ≡ true → (input : ℕ) × (element : ℕ) × (op ≡ tuple_destroy input element)
destroys (source s out) h = absurd (false_true h)
  where
    false_true : ◌≡◌ {A = Bool} false true → ⊥
    false_true h = cc
destroys (get_descendants input start path out) h = absurd (false_true h)
  where
    false_true : ◌≡◌ {A = Bool} false true → ⊥
    false_true h = cc
destroys (join left right tests) h = absurd (false_true h)
  where
    false_true : ◌≡◌ {A = Bool} false true → ⊥
    false_true h = cc
destroys (over input op) h = absurd (false_true h)
  where
    false_true : ◌≡◌ {A = Bool} false true → ⊥
    false_true h = cc
destroys (tuple_destroy input element) h = (input, element, refl)

-- an operator has a single binding exactly where it says so of its inputs
single_of : (ops : List Operator) (n : ℕ) (op : Operator) → op_at ops n ≡ op → AllByRecursion (λ i. i < n) (inputs_of op) → is_single_at ops n ≡ is_single op (is_single_at ops)
unfolding is_single_at
single_of ops n op e h = by_number-of is_single false ops n op is_single-reads e h

-- an operator has a single binding exactly where it says so by a list of whether those before it have one
pub single_known : (ops : List Operator) (n : ℕ) (op : Operator) (known : List Bool) → op_at ops n ≡ op → AllByRecursion (λ i. i < n) (inputs_of op)
    → ((i : ℕ) → i < n → slice_index_or known i false ≡ is_single_at ops i) → is_single op (λ i. slice_index_or known i false) ≡ is_single_at ops n
single_known ops n op known e small each =
    is_single-reads op (λ i. slice_index_or known i false) (is_single_at ops)
    (each_weaker (λ i. i < n) (λ i. slice_index_or known i false ≡ is_single_at ops i) (λ i l. each i l) (inputs_of op) small)
    ∙ sym (single_of ops n op e small)

-- a list of whether operators have a single binding, with the next one's answer after it
pub known_more : (known : List Bool) (single : ℕ → Bool) (n : ℕ) (b : Bool) → length known ≡ n → ((i : ℕ) → i < n → slice_index_or known i false ≡ single i) → b ≡ single n
    → (i : ℕ) → i < n + 1 → slice_index_or (known ++ b ∷ []) i false ≡ single i
known_more known single n b l each here i h = elim (cases_lt i n) [
  | inl less ↦ get_or_append_left known (b ∷ []) false i (omega (arith, l, less)) ∙ each i less
  | inr more ↦
      (let same : n ≡ i = omega (arith, h, more) in
      get_or_push known b false i (l ∙ same) ∙ here ∙ ap single same)
]

-- from a tupleDestroy that is the last on, operators end well where the property holds of its input
pub ends_then : (single : ℕ → Bool) (ops : List Operator) (k input element : ℕ) → k < length ops → get_or ops k (tuple_destroy input element) ≡ tuple_destroy input element
    → k + 1 ≡ length ops → ends_by single (drop k ops) ≡ single input
ends_then single ops k input element h e l = ends_here single ops k input element h e ∙ ap (λ b. b && single input) (eq-eqb (k + 1) (length ops) l)

-- from a tupleDestroy that isn't the last on, operators don't end well
pub ends_else : (single : ℕ → Bool) (ops : List Operator) (k input element : ℕ) → k < length ops → get_or ops k (tuple_destroy input element) ≡ tuple_destroy input element
    → (k + 1 ≡ length ops → ⊥) → ends_by single (drop k ops) ≡ false
ends_else single ops k input element h e l = ends_here single ops k input element h e ∙ ap (λ b. b && single input) (ne_eqb (k + 1) (length ops) l)

-- a test and the true one hold together exactly where the test does
pub and_true : (b : Bool) → b ≡ (b && true)
and_true true = refl
and_true false = refl

-- an operator of the code that is no tupleDestroy fails the test of one
pub not_destroy : (o : Op) → ((input : ℕ) (element : Var) → o ≡ op.TupleDestroy input element → ⊥) → is_destroy (op_of o) ≡ false
not_destroy (op.Source s out) f = refl
not_destroy (op.GetDescendants input start path out) f = refl
not_destroy (op.Select input test) f = refl
not_destroy (op.Join left right tests) f = refl
not_destroy (op.Project input keys) f = refl
not_destroy (op.GroupBy input keys piece out) f = refl
not_destroy (op.OrderBy input var desc) f = refl
not_destroy (op.Concatenate input pieces out) f = refl
not_destroy (op.CreateElement input label list out) f = refl
not_destroy (op.TupleDestroy input element) f = absurd (f input element refl)
