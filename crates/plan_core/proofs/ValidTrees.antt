-- The operators of a valid plan are a tree.
use Rattle.std.proofs.Common.{◌≡◌, ◌<◌, ◌≤◌, ◌+◌, inl, inr, ℕ, suc, cond, List, [], ◌∷◌, refl, ap, ◌∙◌, arith, length}
use Rattle.std.specs.Prelude.{Bool}
use Rattle.std.specs.List.{AllByRecursion, flat_map}
use Rattle.std.proofs.lemmas.Bool.{ne_eqb, cases_lt}
use Rattle.plan_core.specs.Plans.{Operator, PlanValue}
use Rattle.plan_core.specs.Trees.{IsTree, times}
use Rattle.plan_core.specs.Typed.{IsTyped}
use Rattle.plan_core.specs.Valid.{inputs_of, uses_of, HaveSmallerInputs, IsValid}
use Rattle.plan_core.proofs.Chained.{count-append, count-one}

-- a number stands in no list of smaller ones
times_smaller : (n i : ℕ) (is : List ℕ) → AllByRecursion (λ m. m < n) is → n ≤ i → times is i ≡ 0
times_smaller n i [] h b = refl
times_smaller n i (m ∷ is) h b =
    let less : m < n = h.0 in
    let one : times (m ∷ []) i ≡ 0 = count-one i m ∙ ap (λ (x : Bool). cond x 1 0) (ne_eqb m i (λ e. (omega (arith, e, less, b)))) in
    let rest = times_smaller n i is h.1 b in
    let both = count-append i (m ∷ []) is in
    omega (arith, one, rest, both)

-- operators with smaller inputs, the first of number n, use neither the last of them nor any number past it
last_unused : (ops : List Operator) (n i : ℕ) → HaveSmallerInputs n ops → n + length ops ≤ suc i → uses_of ops i ≡ 0
last_unused [] n i h b = refl
last_unused (op ∷ ops) n i h b =
    let own = times_smaller n i (inputs_of op) h.0 (omega (arith, b)) in
    let rest = last_unused ops (suc n) i h.1 (omega (arith, b)) in
    let both = count-append i (inputs_of op) (flat_map inputs_of ops) in
    omega (arith, own, rest, both)

-- the operators of a valid plan are a tree
pub valid_tree : (p : PlanValue) → IsValid p → IsTyped p.ops → IsTree p.ops
valid_tree p valid typed = record {
  before = typed.inputs;
  once = λ i.
      elim (cases_lt (suc i) (length p.ops)) as (λ z. uses_of p.ops i ≤ 1) [
        | inl b ↦ (let e = valid.used_once i b in omega (arith, e))
        | inr b ↦ (let e = last_unused p.ops 0 i valid.smaller (omega (arith, b)) in omega (arith, e))
      ];
}
