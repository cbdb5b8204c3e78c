-- The number of a bounded class is the greatest of 1 and the numbers of the lists of new elements.
use Rattle.std.proofs.Common.{◌≡◌, ◌⊎◌, ◌∙◌, ◌≤◌, ℕ, zero, suc, Bool, true, false, cond, List, [], ◌∷◌, Option, Some, None, inl, inr, refl, sym, ap, subst, arith, map, max}
use Rattle.std.specs.Prelude.{slice_get}
use Rattle.mix_base.proofs.Choices.{some_is, none_some}
use Rattle.plan_core.specs.declared.plan.Op.{Op}
use Rattle.plan_core.specs.declared.plan.Op.TheVariants.{Source, GetDescendants, Select, Join, Project, GroupBy, OrderBy, Concatenate, CreateElement, TupleDestroy}
use Rattle.plan_core.specs.declared.plan.Plan.{Plan}
use Rattle.plan_core.specs.PlanMade.{op_of, plan_value}
use Rattle.browse_profile.specs.declared.profile.Profile.{Profile}
use Rattle.browse_profile.specs.Bounds.{larger}
use Rattle.browse_profile.specs.Profiles.{greatest}
use Rattle.browse_visit.specs.declared.shape.Shape.{Shape}
use Rattle.browse_visit.specs.Shapes.{shapes_of}
use Rattle.browse_class.specs.Cheap.{AtMost, IsWithin}
use Rattle.browse_class.specs.Classes.{op_bound, all_bounds, sorts_any, class_by, class_in, constant}
use Rattle.browse_class.specs.Facts.{Facts, facts}
use Rattle.browse_class.specs.declared.class.Class.TheVariants.{Bounded, Browsable, Unbrowsable}
use Rattle.plan_class.proofs.Groups.{groups_bound_nothing}
use Rattle.list_costs.specs.Constant.{ClassIsOfLists, IsGreatestOfLists, SomeListHas}

-- each of two bounds is at most a number that the greater one is at most
both_at_most : (x y most : Option ℕ) → AtMost (larger x y) most → AtMost x most × AtMost y most
both_at_most x y None h = (tt, tt)
both_at_most None y (Some k) h = absurd h
both_at_most (Some a) None (Some k) h = absurd h
both_at_most (Some a) (Some b) (Some k) h = (omega (arith, h), omega (arith, h))

-- what is a number is at most that number
is_at_most : (x : Option ℕ) (k : ℕ) → x ≡ Some k → AtMost x (Some k)
is_at_most None k e = none_some k e
is_at_most (Some a) k e = let same : a ≡ k = some_is a k e in omega (arith, same)

-- where the greatest of four numbers is at most a bound, each is
four_within : (p : Profile) (most : Option ℕ) → AtMost (greatest p) most → IsWithin most p
four_within p most h =
    let halves = both_at_most (larger p.lead p.between) (larger p.trail p.none) most h in
    let first = both_at_most p.lead p.between most halves.0 in
    let second = both_at_most p.trail p.none most halves.1 in
    record { lead = first.0; between = first.1; trail = second.0; none = second.1 }

-- the greater of two bounds is one of them
one_of : (x y most : Option ℕ) → larger x y ≡ most → (x ≡ most) ⊎ (y ≡ most)
one_of None y most e = inl e
one_of (Some a) None most e = inr e
one_of (Some a) (Some b) most e = by_order (cases_le a b)
  where
    cases_le : (m n : ℕ) → (m ≤ n) ⊎ (n ≤ m)
    cases_le zero n = inl (omega arith)
    cases_le (suc m) zero = inr (omega arith)
    cases_le (suc m) (suc n) = more (cases_le m n)
      where
        more : (m ≤ n) ⊎ (n ≤ m) → (suc m ≤ suc n) ⊎ (suc n ≤ suc m)
        more (inl h) = inl (omega (arith, h))
        more (inr h) = inr (omega (arith, h))

    by_order : (a ≤ b) ⊎ (b ≤ a) → (Some a ≡ most) ⊎ (Some b ≡ most)
    by_order (inl h) = let m : max a b ≡ b = omega (arith, h) in inr (sym (ap Some m) ∙ e)
    by_order (inr h) = let m : max a b ≡ a = omega (arith, h) in inl (sym (ap Some m) ∙ e)

module _ (of : ℕ → Facts) where
  -- the greatest number of each list of a new element is at most that of all operators
  each_at_most : (ops : List Op) (k n input list out : ℕ) (label : List ℕ) → AtMost (all_bounds (map op_of ops) of) (Some k)
      → slice_get ops n ≡ Some (CreateElement input label list out) → AtMost (greatest ((of input).lists list)) (Some k)
  each_at_most [] k n input list out label h e = none_some (CreateElement input label list out) e
  each_at_most (op ∷ ops) k zero input list out label h e =
      let same : op ≡ CreateElement input label list out = some_is op (CreateElement input label list out) e in
      subst (λ (o : Op). AtMost (op_bound (op_of o) of) (Some k)) same (both_at_most (op_bound (op_of op) of) (all_bounds (map op_of ops) of) (Some k) h).0
  each_at_most (op ∷ ops) k (suc n) input list out label h e =
      each_at_most ops k n input list out label (both_at_most (op_bound (op_of op) of) (all_bounds (map op_of ops) of) (Some k) h).1 e

  -- some operator makes an element over a list with this greatest number
  abbrev SomeHas : List Op → Option ℕ → Type 0
  SomeHas ops most = (n input list out : ℕ) × (label : List ℕ) × (slice_get ops n ≡ Some (CreateElement input label list out)) × (greatest ((of input).lists list) ≡ most)

  -- an operator more stands before those that have one
  one_later : (op : Op) (ops : List Op) (most : Option ℕ) → SomeHas ops most → SomeHas (op ∷ ops) most
  one_later op ops most (n, input, list, out, label, e, g) = (suc n, input, list, out, label, e, g)

  -- the greatest number of an operator is 0, or that of the list over which it makes an element
  first_has : (op : Op) (ops : List Op) (most : Option ℕ) → op_bound (op_of op) of ≡ most → (most ≡ Some 0) ⊎ SomeHas (op ∷ ops) most
  first_has (Source source out) ops most e = inl (sym e)
  first_has (GetDescendants input start path out) ops most e = inl (sym e)
  first_has (Select input test) ops most e = inl (sym e)
  first_has (Join left right tests) ops most e = inl (sym e)
  first_has (Project input keys) ops most e = inl (sym e)
  first_has (GroupBy input keys piece out) ops most e = inl (sym e ∙ groups_bound_nothing input out keys.items piece of)
  first_has (OrderBy input var desc) ops most e = inl (sym e)
  first_has (Concatenate input pieces out) ops most e = inl (sym e)
  first_has (CreateElement input label list out) ops most e = inr (0, input, list, out, label, refl, e)
  first_has (TupleDestroy input element) ops most e = inl (sym e)

  -- all numbers are at least 1 together
  at_least_one : (ops : List Op) (k : ℕ) → all_bounds (map op_of ops) of ≡ Some k → 1 ≤ k
  at_least_one [] k e = let same : 1 ≡ k = some_is 1 k e in omega (arith, same)
  at_least_one (op ∷ ops) k e = by_rest (op_bound (op_of op) of) (all_bounds (map op_of ops) of) e (λ m same. at_least_one ops m same)
    where
      by_rest : (x y : Option ℕ) → larger x y ≡ Some k → ((m : ℕ) → y ≡ Some m → 1 ≤ m) → 1 ≤ k
      by_rest None y g rest = none_some k g
      by_rest (Some a) None g rest = none_some k g
      by_rest (Some a) (Some b) g rest =
          let low = rest b refl in
          let whole : max a b ≡ k = some_is (max a b) k g in
          omega (arith, low, whole)

  -- the greatest of all numbers is 1, or that of some list of a new element
  some_has : (ops : List Op) (most : Option ℕ) → all_bounds (map op_of ops) of ≡ most → (most ≡ Some 1) ⊎ SomeHas ops most
  some_has [] most e = inl (sym e)
  some_has (op ∷ ops) most e = by_side (one_of (op_bound (op_of op) of) (all_bounds (map op_of ops) of) most e) (λ there. some_has ops most there)
    where
      by_zero : (most ≡ Some 0) ⊎ SomeHas (op ∷ ops) most → (most ≡ Some 1) ⊎ SomeHas (op ∷ ops) most
      by_zero (inl none) = let low = at_least_one (op ∷ ops) 0 (e ∙ none) in absurd (omega (arith, low))
      by_zero (inr has) = inr has

      by_rest : (most ≡ Some 1) ⊎ SomeHas ops most → (most ≡ Some 1) ⊎ SomeHas (op ∷ ops) most
      by_rest (inl one) = inl one
      by_rest (inr has) = inr (one_later op ops most has)

      by_side :
          (op_bound (op_of op) of ≡ most) ⊎ (all_bounds (map op_of ops) of ≡ most) → (all_bounds (map op_of ops) of ≡ most → (most ≡ Some 1) ⊎ SomeHas ops most)
          → (most ≡ Some 1) ⊎ SomeHas (op ∷ ops) most
      by_side (inl here) rest = by_zero (first_has op ops most here)
      by_side (inr there) rest = by_rest (rest there)

-- the constant of a bounded class
bounded_by : (sorts : Bool) (most : Option ℕ) (k : ℕ) → cond sorts Unbrowsable (class_by most) ≡ Bounded k → most ≡ Some k
bounded_by true most k e = cc
bounded_by false None k e = cc
bounded_by false (Some n) k e = let same : n ≡ k = cc in ap Some same

-- a browsable class has no constant
browsable_by : (sorts : Bool) (most : Option ℕ) → cond sorts Unbrowsable (class_by most) ≡ Browsable → most ≡ None
browsable_by true most e = cc
browsable_by false None e = refl
browsable_by false (Some n) e = cc

-- the number of a bounded class is the greatest of the numbers of lists, or 1
bounded_lists : (shapes : List Shape) (plan : Plan) (k : ℕ) → class_in (shapes_of shapes) (plan_value plan).ops ≡ Bounded k → IsGreatestOfLists shapes plan k
bounded_lists shapes plan k e = record {
  each = λ n input list out label g.
      four_within ((of input).lists list) (Some k) (each_at_most of plan.ops.items k n input list out label (is_at_most (all_bounds (map op_of plan.ops.items) of) k known) g);
  one = by_one (some_has of plan.ops.items (Some k) known);
}
  where
    of : ℕ → Facts
    of = facts (shapes_of shapes) (plan_value plan).ops

    known : all_bounds (map op_of plan.ops.items) of ≡ Some k
    known = bounded_by (sorts_any (plan_value plan).ops) (constant (shapes_of shapes) (plan_value plan).ops) k e

    by_one : (Some k ≡ Some 1) ⊎ SomeHas of plan.ops.items (Some k) → (k ≡ 1) ⊎ SomeListHas shapes plan (Some k)
    by_one (inl same) = inl (some_is k 1 same)
    by_one (inr has) = inr has

-- where a class is browsable, a number of some list isn't known
browsable_lists : (shapes : List Shape) (plan : Plan) → class_in (shapes_of shapes) (plan_value plan).ops ≡ Browsable → SomeListHas shapes plan None
browsable_lists shapes plan e = unknown (some_has of plan.ops.items None none)
  where
    of : ℕ → Facts
    of = facts (shapes_of shapes) (plan_value plan).ops

    none : all_bounds (map op_of plan.ops.items) of ≡ None
    none = browsable_by (sorts_any (plan_value plan).ops) (constant (shapes_of shapes) (plan_value plan).ops) e

    unknown : (◌≡◌ {A = Option ℕ} None (Some 1)) ⊎ SomeHas of plan.ops.items None → SomeListHas shapes plan None
    unknown (inl same) = none_some 1 same
    unknown (inr has) = has

-- a class is that of the lists of new elements
pub class_of_lists : ClassIsOfLists
class_of_lists = record { bounded = bounded_lists; browsable = browsable_lists }
