-- What is said of lists by the profiles that the program has is what is said by what is known of the plan.
use Rattle.std.proofs.Common.{◌≡◌, ◌<◌, ◌++◌, ℕ, zero, suc, List, [], ◌∷◌, Option, Some, None, refl, subst, ap, arith, length, map}
use Rattle.std.specs.Prelude.{slice_get}
use Rattle.std.specs.List.{AllByRecursion, flat_map}
use Rattle.std.proofs.Math.Path.{fun_ext}
use Rattle.plan_core.specs.declared.plan.Op.{Op}
use Rattle.plan_core.specs.declared.plan.Op.TheVariants.{Source, GetDescendants, Select, Join, Project, GroupBy, OrderBy, Concatenate, CreateElement, TupleDestroy}
use Rattle.plan_core.specs.declared.plan.Plan.{Plan}
use Rattle.plan_core.specs.ByNumber.{op_at}
use Rattle.plan_core.specs.PlanMade.{op_of, plan_value}
use Rattle.plan_core.specs.Plans.{Operator}
use Rattle.plan_core.specs.Shapes.{shape_of}
use Rattle.plan_core.specs.Typed.{IsTyped}
use Rattle.plan_core.specs.Valid.{kinds, shape_inputs, IsShapeFit}
use Rattle.browse_profile.specs.declared.profile.Profile.{Profile}
use Rattle.browse_visit.specs.declared.shape.Shape.{Shape}
use Rattle.plan_class.specs.Profiles.{list_in, AreProfiles}
use Rattle.plan_class.specs.declared.profiles.Profiles.{Profiles}
use Rattle.list_costs.specs.declared.answer_list.AnswerList.{AnswerList}
use Rattle.list_costs.specs.Told.{heading, list_profile, op_said, reason_at, said_of, standing_of}
use Rattle.list_costs.specs.Words.{list_lines}

-- an operator that stands at a number in a program's plan is the plan's operator of that number
pub found_at : (ops : List Op) (n : ℕ) (op : Op) → slice_get ops n ≡ Some op → (n < length (map op_of ops)) × (op_at (map op_of ops) n ≡ op_of op)
found_at [] n op e = cc
found_at (o ∷ ops) zero op e = let same : o ≡ op = cc in (omega arith, ap op_of same)
found_at (o ∷ ops) (suc n) op e = let more = found_at ops n op e in let b = more.0 in (omega (arith, b), more.1)

module _ (shapes : List Shape) (plan : Plan) (typed : IsTyped (plan_value plan).ops) (ps : Profiles) (are : AreProfiles shapes (plan_value plan).ops ps) (reasons : List (List ℕ)) where
  -- the profile of the list over which an element is made
  kids_are : (n input list out : ℕ) (label : List ℕ) → slice_get plan.ops.items n ≡ Some (CreateElement input label list out) → list_in ps list ≡ list_profile shapes plan input list
  kids_are n input list out label e =
      let at = found_at plan.ops.items n (CreateElement input label list out) e in
      let small = subst (λ (o : Operator). AllByRecursion (λ i. i < n) (shape_inputs (shape_of o))) at.1 (typed.inputs n at.0) in
      let fit = subst (λ (o : Operator). IsShapeFit (shape_of o) (kinds (plan_value plan).ops)) at.1 (typed.fit n at.0) in
      let below = small.0 in
      let within = at.0 in
      are.lists input list (omega (arith, below, within)) fit

  -- what is said of the list of an operator
  op_alike : (l : AnswerList) (op : Option Op) → slice_get plan.ops.items l.op ≡ op
      → op_said (λ input. list_in ps) plan.ops.items reasons l op ≡ op_said (list_profile shapes plan) plan.ops.items reasons l op
  op_alike l None e = refl
  op_alike l (Some (Source source out)) e = refl
  op_alike l (Some (GetDescendants input start path out)) e = refl
  op_alike l (Some (Select input test)) e = refl
  op_alike l (Some (Join left right tests)) e = refl
  op_alike l (Some (Project input keys)) e = refl
  op_alike l (Some (GroupBy input keys piece out)) e = refl
  op_alike l (Some (OrderBy input var desc)) e = refl
  op_alike l (Some (Concatenate input pieces out)) e = refl
  op_alike l (Some (CreateElement input label list out)) e =
      ap (λ (q : Profile). list_lines (standing_of plan.ops.items l.depth out) label q (reason_at reasons l.op)) (kids_are l.op input list out label e)
  op_alike l (Some (TupleDestroy input element)) e = refl

  -- what is said of all lists
  pub all_alike : (lists : List AnswerList)
      → heading ++ flat_map (said_of (λ input. list_in ps) plan.ops.items reasons) lists ≡ heading ++ flat_map (said_of (list_profile shapes plan) plan.ops.items reasons) lists
  all_alike lists =
      ap (λ (f : AnswerList → List ℕ). heading ++ flat_map f lists) (fun_ext (λ l. op_alike l (slice_get plan.ops.items l.op) refl))
