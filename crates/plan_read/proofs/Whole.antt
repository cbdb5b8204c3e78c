-- Operators are whole where their plan is valid.
use Rattle.std.proofs.Common.{◌≡◌, ◌<◌, ◌≤◌, ◌+◌, ◌∙◌, ◌==◌, ℕ, suc, Bool, true, false, List, [], ◌∷◌, refl, sym, ap, subst, arith, length, take, nat_lt}
use Rattle.std.specs.List.{AllByRecursion, flat_map, count_by}
use Rattle.std.proofs.lemmas.Bool.Decides.{nat_tests}
use Rattle.plan_core.proofs.Chained.{count-append}
use Rattle.mix_catalog.specs.declared.source.SourceSpec.{SourceSpec}
use Rattle.plan_core.specs.Plans.{Operator, source, get_descendants, join, over, tuple_destroy, PlanValue}
use Rattle.plan_core.specs.Valid.{kinds, IsFit, HaveSmallerInputs, inputs_of, outs_of, AreDistinct, HasSource, uses_of, EndsSingle, is_single_at, IsValid}
use Rattle.plan_read.specs.Reading.{Numbered}
use Rattle.plan_read.specs.Lines.{Line}
use Rattle.plan_read.specs.Checks.{ops_of, ArePlain, AreWhole, WholeIsValid}
use Rattle.plan_read.proofs.Stopping.{many_of}

-- the first operators, as many as there are, are all
all_ops : (ns : List Numbered) → take (length ns) (ops_of ns) ≡ ops_of ns
all_ops [] = refl
all_ops (n ∷ ns) = ap (λ r. n.op ∷ r) (all_ops ns)

-- a plan of operators that pass all checks is valid
pub whole_valid : (names : List (List ℕ)) (sources : List SourceSpec) (lines : List Line) (ns : List Numbered) (p : PlanValue)
    → p.ops ≡ ops_of ns → length p.sources ≡ length sources → ArePlain names sources lines ns → AreWhole ns → IsValid p
whole_valid names sources lines ns p e c plain whole =
    let smaller = subst (HaveSmallerInputs 0) (all_ops ns ∙ sym e) plain.numbered.smaller in
    let fit : AllByRecursion (λ op. IsFit op (kinds p.ops)) p.ops = subst (λ os. AllByRecursion (λ op. IsFit op (kinds os)) os) (sym e) (subst (AllByRecursion (λ op. IsFit op (kinds (ops_of ns)))) (all_ops ns) whole.sound.fit) in
    record {
      smaller = smaller;
      fit = fit;
      distinct = subst (λ os. AreDistinct (flat_map outs_of os)) (all_ops ns ∙ sym e) whole.sound.distinct;
      used_once = subst (λ os. (n : ℕ) → suc n < length os → uses_of os n ≡ 1) (sym e) (λ n h. let l = many_of ns in whole.used n (omega (arith, l, h)) h);
      ends = subst (λ os. EndsSingle (is_single_at os) os) (sym e) whole.single;
      sources = subst (λ k. AllByRecursion (HasSource k) p.ops) (sym c) (subst (AllByRecursion (HasSource (length sources))) (all_ops ns ∙ sym e) plain.known);
    }

-- operators that end in the only tupleDestroy, over what is single, end in the only tupleDestroy
ends_any : (single : ℕ → Bool) (ops : List Operator) → EndsSingle single ops → EndsSingle (λ n. true) ops
ends_any single [] h = h
ends_any single (tuple_destroy i v ∷ []) h = refl
ends_any single (tuple_destroy i v ∷ op ∷ ops) h = h
ends_any single (source s out ∷ ops) h = ends_any single ops h
ends_any single (get_descendants i start p out ∷ ops) h = ends_any single ops h
ends_any single (join l r tests ∷ ops) h = ends_any single ops h
ends_any single (over i op ∷ ops) h = ends_any single ops h

-- numbers that are smaller are not counted
none_counted : (is : List ℕ) (k n : ℕ) → k ≤ n → AllByRecursion (λ i. i < k) is → count_by (λ i. i == n) is ≡ 0
none_counted [] k n h a = refl
none_counted (i ∷ is) k n h a =
    let less : i < k = a.0 in
    let other : (i == n) ≡ false = grind (arith, nat_tests) in
    let one : count_by (λ m. m == n) (i ∷ []) ≡ 0 = rw other refl in
    let rest = none_counted is k n h a.1 in
    count-append n (i ∷ []) is ∙ omega (arith, one, rest)

-- what is past the last operator but one is no input
pub none_used : (ops : List Operator) (k n : ℕ) → k + length ops ≤ suc n → HaveSmallerInputs k ops → uses_of ops n ≡ 0
none_used [] k n h s = refl
none_used (op ∷ ops) k n h s =
    let here = none_counted (inputs_of op) k n (omega arith) s.0 in
    let rest = none_used ops (suc k) n (omega arith) s.1 in
    count-append n (inputs_of op) (flat_map inputs_of ops) ∙ omega (arith, here, rest)

-- operators of a valid plan are no input twice
used_once : (ops : List Operator) → HaveSmallerInputs 0 ops → ((n : ℕ) → suc n < length ops → uses_of ops n ≡ 1) → (n : ℕ) → uses_of ops n ≤ 1
used_once ops s u n = by_case (nat_lt (suc n) (length ops)) refl
  where
    by_case : (b : Bool) → nat_lt (suc n) (length ops) ≡ b → uses_of ops n ≤ 1
    by_case true e = let less : suc n < length ops = grind (arith, nat_tests, e) in let one = u n less in omega (arith, one)
    by_case false e = let past : 0 + length ops ≤ suc n = grind (arith, nat_tests, e) in let none = none_used ops 0 n past s in omega (arith, none)

-- the operators of a valid plan are whole
pub valid_whole : (ns : List Numbered) (p : PlanValue) → p.ops ≡ ops_of ns → IsValid p → AreWhole ns
valid_whole ns p e v = record {
  sound = record {
    fit = subst (AllByRecursion (λ op. IsFit op (kinds (ops_of ns)))) (sym (all_ops ns)) (subst (λ os. AllByRecursion (λ op. IsFit op (kinds os)) os) e v.fit);
    distinct = subst (λ os. AreDistinct (flat_map outs_of os)) (e ∙ sym (all_ops ns)) v.distinct;
    once = subst (λ os. (n : ℕ) → uses_of os n ≤ 1) (e ∙ sym (all_ops ns)) (used_once p.ops v.smaller v.used_once);
  };
  ends = ends_any (is_single_at (ops_of ns)) (ops_of ns) (subst (λ os. EndsSingle (is_single_at os) os) e v.ends);
  used = λ n below h. subst (λ os. (m : ℕ) → suc m < length os → uses_of os m ≡ 1) e v.used_once n h;
  single = subst (λ os. EndsSingle (is_single_at os) os) e v.ends;
}

-- operators that pass the checks of their lines are whole exactly where their plan is valid
pub whole_is_valid : WholeIsValid
whole_is_valid = record { sound = whole_valid; complete = valid_whole }
