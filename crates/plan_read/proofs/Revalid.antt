-- A valid plan is valid by other numbers of its variables, no two the same.
use Rattle.std.proofs.Common.{◌≡◌, ◌<◌, ◌≤◌, ◌+◌, ◌∙◌, ◌==◌, ◌||◌, ◌++◌, ℕ, suc, Bool, List, [], ◌∷◌, refl, sym, ap, subst, arith, length, map}
use Rattle.std.specs.List.{AllByRecursion, flat_map, list_any, count_by}
use Rattle.std.proofs.lemmas.List.{length-map, map-append}
use Rattle.mix_base.proofs.Firsts.{each_map, each_both, each_weaker}
use Rattle.plan_core.specs.Plans.{Operator, source, get_descendants, join, over, tuple_destroy, PlanValue}
use Rattle.plan_core.specs.Shapes.{shape_of}
use Rattle.plan_core.specs.Valid.{kinds, either_kind, IsFit, HaveSmallerInputs, inputs_of, outs_of, AreDistinct, HasSource, EndsSingle, is_single_at, IsValid}
use Rattle.plan_read.specs.Scopes.{shape_fits, kinds_below}
use Rattle.plan_read.specs.Writable.{operator_as}
use Rattle.plan_read.proofs.Decided.{fit_is_decided}
use Rattle.plan_read.proofs.Renamed.{same_var, AreKinds, shape_fits_as, inputs_as, outs_as, short_as, kinds_as, singles_same}

-- operators with smaller inputs have inputs below any number that is as large as they all
pub inside_all : (ops : List Operator) (k n : ℕ) → k + length ops ≤ n → HaveSmallerInputs k ops → AllByRecursion (λ op. AllByRecursion (λ i. i < n) (inputs_of op)) ops
inside_all [] k n h s = tt
inside_all (op ∷ ops) k n h s = (each_weaker (λ i. i < k) (λ i. i < n) (λ i l. omega (arith, h, l)) (inputs_of op) s.0, inside_all ops (suc k) n (omega (arith, h)) s.1)

module _ (f : ℕ → ℕ) (apart : (v w : ℕ) → f v ≡ f w → v ≡ w) where
  -- operators by other numbers
  abbrev anew : List Operator → List Operator
  anew ops = map (operator_as f) ops

  -- operators have smaller inputs by other numbers too
  smaller_as : (k : ℕ) (ops : List Operator) → HaveSmallerInputs k ops → HaveSmallerInputs k (anew ops)
  smaller_as k [] s = tt
  smaller_as k (op ∷ ops) s = (subst (AllByRecursion (λ i. i < k)) (sym (inputs_as f apart op)) s.0, smaller_as (suc k) ops s.1)

  -- operators have the same inputs by other numbers
  inputs_all : (ops : List Operator) → flat_map inputs_of (anew ops) ≡ flat_map inputs_of ops
  inputs_all [] = refl
  inputs_all (op ∷ ops) = ap (λ is. is ++ flat_map inputs_of (anew ops)) (inputs_as f apart op) ∙ ap (λ is. inputs_of op ++ is) (inputs_all ops)

  -- operators bind their variables by their numbers
  outs_all : (ops : List Operator) → flat_map outs_of (anew ops) ≡ map f (flat_map outs_of ops)
  outs_all [] = refl
  outs_all (op ∷ ops) =
      ap (λ vs. vs ++ flat_map outs_of (anew ops)) (outs_as f apart op) ∙ ap (λ vs. map f (outs_of op) ++ vs) (outs_all ops) ∙ sym (map-append f (outs_of op) (flat_map outs_of ops))

  -- a variable is one of these where its number is one of theirs
  any_as : (v : ℕ) (vs : List ℕ) → list_any (λ w. w == f v) (map f vs) ≡ list_any (λ w. w == v) vs
  any_as v [] = refl
  any_as v (w ∷ vs) = ap (λ b. b || list_any (λ w. w == f v) (map f vs)) (same_var f apart w v) ∙ ap (λ b. (w == v) || b) (any_as v vs)

  -- variables of which none stands twice have numbers of which none does
  distinct_as : (vs : List ℕ) → AreDistinct vs → AreDistinct (map f vs)
  distinct_as [] d = tt
  distinct_as (v ∷ vs) d = (any_as v vs ∙ d.0, distinct_as vs d.1)

  -- operators end in the only tupleDestroy, over what is single, by other numbers too
  ends_as : (s t : ℕ → Bool) → ((n : ℕ) → t n ≡ s n) → (ops : List Operator) → EndsSingle s ops → EndsSingle t (anew ops)
  ends_as s t h [] e = e
  ends_as s t h (tuple_destroy i v ∷ []) e = h i ∙ e
  ends_as s t h (tuple_destroy i v ∷ op ∷ ops) e = absurd e
  ends_as s t h (source n out ∷ ops) e = ends_as s t h ops e
  ends_as s t h (get_descendants i start p out ∷ ops) e = ends_as s t h ops e
  ends_as s t h (join l r tests ∷ ops) e = ends_as s t h ops e
  ends_as s t h (over i op ∷ ops) e = ends_as s t h ops e

  -- an operator reads the same source by other numbers
  source_as : (n : ℕ) (op : Operator) → HasSource n op → HasSource n (operator_as f op)
  source_as n (source s out) h = h
  source_as n (get_descendants i start p out) h = h
  source_as n (join l r tests) h = h
  source_as n (over i op) h = h
  source_as n (tuple_destroy i v) h = h

  -- the kinds that inputs bind together are those of the variables' numbers
  below_as : (ops : List Operator) (is : List ℕ) → AllByRecursion (λ i. i < length ops) is → AreKinds f apart (kinds_below is (kinds ops)) (kinds_below is (kinds (anew ops)))
  below_as ops [] h v = refl
  below_as ops (i ∷ []) h v = kinds_as f apart ops i h.0 v
  below_as ops (i ∷ j ∷ is) h v =
      ap (λ o. either_kind o (kinds (anew ops) j (f v))) (kinds_as f apart ops i h.0 v) ∙ ap (λ o. either_kind (kinds ops i v) o) (kinds_as f apart ops j h.1.0 v)

  -- an operator uses what is bound, of the kind that it needs, by other numbers too
  fit_as : (ops : List Operator) (op : Operator) → IsFit op (kinds ops) → AllByRecursion (λ i. i < length ops) (inputs_of op) → IsFit (operator_as f op) (kinds (anew ops))
  fit_as ops op h inside =
      let c = fit_is_decided.complete op (kinds ops) h in
      fit_is_decided.sound (operator_as f op) (kinds (anew ops)) (short_as f apart op c.0)
      (ap (λ is. shape_fits (shape_of (operator_as f op)) (kinds_below is (kinds (anew ops)))) (inputs_as f apart op)
      ∙ shape_fits_as f apart (kinds_below (inputs_of op) (kinds ops)) (kinds_below (inputs_of op) (kinds (anew ops))) (below_as ops (inputs_of op) inside) op ∙ c.1)

  -- a plan is valid by other numbers
  pub valid_as : (p : PlanValue) (names : List (List ℕ)) → IsValid p → IsValid (record { ops = map (operator_as f) p.ops; names = names; sources = p.sources })
  valid_as p names v = record {
    smaller = smaller_as 0 p.ops v.smaller;
    fit =
        each_map (λ op. IsFit op (kinds (anew p.ops))) (operator_as f) p.ops
        (each_weaker (λ op. IsFit op (kinds p.ops) × AllByRecursion (λ i. i < length p.ops) (inputs_of op)) (λ op. IsFit (operator_as f op) (kinds (anew p.ops))) (λ op h. fit_as p.ops op h.0 h.1) p.ops
        (each_both (λ op. IsFit op (kinds p.ops)) (λ op. AllByRecursion (λ i. i < length p.ops) (inputs_of op)) p.ops v.fit (inside_all p.ops 0 (length p.ops) (omega arith) v.smaller)));
    distinct = subst AreDistinct (sym (outs_all p.ops)) (distinct_as (flat_map outs_of p.ops) v.distinct);
    used_once = λ n h. ap (count_by (λ i. i == n)) (inputs_all p.ops) ∙ v.used_once n (subst (λ (m : ℕ). suc n < m) (length-map p.ops (operator_as f)) h);
    ends = ends_as (is_single_at p.ops) (is_single_at (anew p.ops)) (singles_same f apart p.ops) p.ops v.ends;
    sources = each_map (HasSource (length p.sources)) (operator_as f) p.ops (each_weaker (HasSource (length p.sources)) (λ op. HasSource (length p.sources) (operator_as f op)) (source_as (length p.sources)) p.ops v.sources);
  }
