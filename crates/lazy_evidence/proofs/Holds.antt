-- Over told sources a position whose binding is among its operator's events has right evidence, and its parts are among those of their operators.
use Rattle.std.proofs.Common.{◌≡◌, ◌<◌, ℕ, zero, suc, true, false, cond, [], ◌∷◌, inl, inr, refl, sym, ap, subst, ◌∙◌, arith, length, get_or}
use Rattle.std.specs.Prelude.{IsTrue, ◌==◌, None}
use Rattle.std.proofs.lemmas.Bool.{eqb-true}
use Rattle.std.proofs.lemmas.Bool.Decides.{nat_tests}
use Rattle.mix_base.specs.Ascents.{Among}
use Rattle.plan_core.specs.Events.{events}
use Rattle.plan_core.specs.Plans.{PlanValue}
use Rattle.plan_core.specs.Shapes.{Shape, one_source, visits_below, pairs_up, filters, extends, first_by_keys, one_group, in_order, passes_on, shape_at}
use Rattle.plan_core.specs.Typed.{IsTyped}
use Rattle.plan_core.specs.Valid.{shape_inputs, IsValid}
use Rattle.plan_core.proofs.Fresh.{inputs_differ}
use Rattle.plan_core.proofs.Typed.{valid_is_typed}
use Rattle.plan_evidence.specs.Evidence.{shape_way}
use Rattle.plan_evidence.proofs.Evidences.{evident_of}
use Rattle.lazy_binding.specs.declared.position.Position.{Position, Start, Top, Whole, Found', Pass', First', Seen', Pair', Sorted', Row_of-Position-Sorted-0-1 as Row, end_of-Position-Sorted-0-1 as no_more, more_of-Position-Sorted-0-1 as one_more}
use Rattle.lazy_binding.specs.Bench.{IsBench}
use Rattle.lazy_binding.specs.Cursors.{binding, IsIn, count, rows_in, has_row}
use Rattle.lazy_binding.specs.Reading.{nth}
use Rattle.lazy_binding.specs.Unders.{part_in}
use Rattle.lazy_binding.specs.World.{World, docs_of, is_told}
use Rattle.lazy_evidence.specs.Below.{nodes_at}
use Rattle.lazy_evidence.specs.Laws.{IsAmong, PositionsHaveEvidence, PartsAreAmong}
use Rattle.lazy_evidence.proofs.Belows.{exact_at}
use Rattle.lazy_evidence.proofs.Parts.{IsOne, IsOneOf, visit_parts, filter_parts, extended_parts, passed_parts, first_parts, sorted_parts, pair_parts}
use Rattle.lazy_evidence.proofs.Rights.{right_in}

-- the nodes at the parts of a position are right evidence of its binding
pub positions_have_evidence : PositionsHaveEvidence
positions_have_evidence p valid w bench told n h c of row a =
    let typed : IsTyped p.ops = valid_is_typed p valid in
    let right = right_in p valid typed w bench told n h (shape_at p.ops n) refl c of row a in (
      right,
      evident_of p valid typed (docs_of w) n h (binding w p.ops n c) (record { nodes = nodes_at w p.ops n c; right = right; exact = λ v k. exact_at p valid typed w n h c of row v k }),
    )

module _ (p : PlanValue) (valid : IsValid p) (typed : IsTyped p.ops) (w : World) (bench : IsBench w p.ops) (told : IsTrue (is_told w p.ops)) where
  -- the binding at an index of a sorted list is that of the position there
  row_nth : (i : ℕ) {m : _} (list : Row m) (k : ℕ) → k < count list → get_or (rows_in w p.ops i list) k [] ≡ binding w p.ops i (nth list k)
  row_nth i no_more k l = absurd (omega (arith, l))
  row_nth i (one_more q c rest) zero l = refl
  row_nth i (one_more q c rest) (suc k) l = row_nth i rest k (omega (arith, l))

  -- what is so of the part at the only input is so of that at each input
  one_part : (i j : ℕ) (c : Position) → Among j (i ∷ []) → IsOneOf p valid typed w bench told i c → IsOneOf p valid typed w bench told j c
  one_part i j c (inl e) a = subst (λ k. IsOneOf p valid typed w bench told k c) (sym e) a
  one_part i j c (inr x) a = absurd x

  -- the parts of a pair at both inputs are among their events, where they are
  side_part : (l r j : ℕ) (x y : Position) → (l ≡ r → ⊥) → Among j (l ∷ r ∷ []) → IsOneOf p valid typed w bench told l x → IsOneOf p valid typed w bench told r y
      → IsOneOf p valid typed w bench told j (cond (l == j) x y)
  side_part l r j x y differ (inl e) a b =
      let t : (l == j) ≡ true = grind (arith, nat_tests, e) in
      subst (λ k. IsOneOf p valid typed w bench told j (cond k x y)) (sym t) (subst (λ k. IsOneOf p valid typed w bench told k x) (sym e) a)
  side_part l r j x y differ (inr (inl e)) a b =
      (elim (l == j) as (λ t. (l == j) ≡ t → IsOneOf p valid typed w bench told j (cond t x y)) [
        | true ↦ λ t. absurd (differ (eqb-true l j t ∙ e))
        | false ↦ λ t. subst (λ k. IsOneOf p valid typed w bench told k y) (sym e) b
      ]) refl
  side_part l r j x y differ (inr (inr z)) a b = absurd z

  -- the binding of a position's part at each input on the way is among the input's events, where that of the position is among the operator's
  parts_in : (n : ℕ) → n < length p.ops → (f : Shape) → shape_at p.ops n ≡ f → (c : Position) → IsIn w p.ops n f c → IsTrue (has_row c) → IsOne p valid typed w bench told n f c
      → (j : ℕ) → Among j (shape_way f) → IsOneOf p valid typed w bench told j (part_in f c j)
  parts_in n h f e Start of row a j m = cc
  parts_in n h (one_source s out) e (Top t x) of row a j m = absurd m
  parts_in n h (passes_on i (one_group piece out)) e Whole of row a j m = absurd m
  parts_in n h (visits_below i start path out) e (Found' s q c d) of row a j m = one_part i j c m (visit_parts p valid typed w bench told n i start path out h e s q c d a).0
  parts_in n h (passes_on i (filters test)) e (Pass' q c) of row a j m = one_part i j c m (filter_parts p valid typed w bench told n i test h e q c a).0
  parts_in n h (passes_on i (extends out made)) e (Pass' q c) of row a j m = one_part i j c m (extended_parts p valid typed w bench told n i out made h e q c a)
  parts_in n h (passes_on i (first_by_keys keys None)) e (Pass' q c) of row a j m = one_part i j c m (passed_parts p valid typed w bench told n i keys q c of)
  parts_in n h (passes_on i (first_by_keys keys group)) e (First' q c k) of row a j m = one_part i j c m (first_parts p valid typed w bench told n i keys group q c k of)
  parts_in n h (passes_on i (first_by_keys keys group)) e (Seen' q c k) of row a j m = cc
  parts_in n h (pairs_up l r tests) e (Pair' q x q' y k) of row a j m =
      let s = pair_parts p valid typed w bench told n l r tests h e q x q' y k of row a in
      side_part l r j x y (inputs_differ p valid typed n l r h (ap shape_inputs e)) m s.0 s.1
  parts_in n h (passes_on i (in_order u desc)) e (Sorted' q z list k) of row a j m =
      one_part i j (nth list k) m (subst (IsAmong (events (docs_of w) p.ops i)) (row_nth i list k of.1) (sorted_parts p valid typed w bench told n i u desc h e (get_or (rows_in w p.ops i list) k []) a))
  parts_in n h f e c of row a j m = absurd of

-- the binding of a position's part at each input on the way is among those of the input
pub parts_are_among : PartsAreAmong
parts_are_among p valid w bench told n h c of row a i m = parts_in p valid (valid_is_typed p valid) w bench told n h (shape_at p.ops n) refl c of row a i m
