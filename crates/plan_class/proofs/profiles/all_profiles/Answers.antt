use Rattle.std.proofs.Common.{◌≡◌, ◌+◌, ◌++◌, ◌∷◌, [], ◌∙◌, ℕ, suc, List, arith, ap, sym, subst, map}
use Rattle.std.proofs.lemmas.List.{map-append}
use Rattle.plan_core.specs.ByNumber.{op_at}
use Rattle.plan_core.specs.Fronts.{front}
use Rattle.plan_core.specs.FrontsKept.{AreKept}
use Rattle.plan_core.specs.PlanMade.{op_of, plan_value}
use Rattle.plan_core.specs.Plans.{Operator}
use Rattle.plan_core.specs.Valid.{kinds, inputs_of, AreDistinct, IsFit}
use Rattle.browse_profile.specs.declared.profile.Profile.{Profile}
use Rattle.plan_class.specs.Agree.{known_below}
use Rattle.plan_class.specs.Known.{Known, op_known}
use Rattle.plan_class.specs.Slots.{IsSoFar}
use Rattle.plan_class.proofs.ClassIs.{fit_short, op_walked}
use Rattle.plan_class.proofs.Pushed.{inputs_apart, one_is, so_far_more}
use Rattle.plan_class.proofs.profiles.all_profiles.Goals as goal

pub push_known-requires-clause-short : goal.push_known-requires-clause-short
push_known-requires-clause-short c =
    let plan = plan_value c.args.plan.now in
    let typed = c.valid_plans_are_typed.ensures plan c.requires in
    let op = op_walked c.args.plan.now.ops.items c.deref-op-items.result.now c.ops.op-index c.op-item.result c.deref-op-items.ensures.value c.ops-test.true c.op-item.is in
    fit_short (op_of c.op-item.result) (kinds plan.ops) (subst (λ (o : Operator). IsFit o (kinds plan.ops)) op.0 (typed.fit c.ops.op-index op.1))

pub push_known-requires-clause-apart : goal.push_known-requires-clause-apart
push_known-requires-clause-apart c =
    let plan = plan_value c.args.plan.now in
    let typed = c.valid_plans_are_typed.ensures plan c.requires in
    let op = op_walked c.args.plan.now.ops.items c.deref-op-items.result.now c.ops.op-index c.op-item.result c.deref-op-items.ensures.value c.ops-test.true c.op-item.is in
    subst (λ (o : Operator). AreDistinct (inputs_of o)) op.0 (inputs_apart c.args.shapes.now plan c.requires typed c.ops.op-index op.1)

pub ops-preserved : goal.ops-preserved
ops-preserved c =
    let plan = plan_value c.args.plan.now in
    let shapes = c.args.shapes.now in
    let typed = c.valid_plans_are_typed.ensures plan c.requires in
    let op = op_walked c.args.plan.now.ops.items c.deref-op-items.result.now c.ops.op-index c.op-item.result c.deref-op-items.ensures.value c.ops-test.true c.op-item.is in
    let pushed = rw (← op.0) at c.in_ok-profile.ensures.known in
    let next : suc c.ops.op-index ≡ c.ops.op-index + 1 = omega arith in
    let fronts = c.ops.invariant.fronts in
    let known = c.ops.invariant.known in
    let one = op_known shapes (front plan.ops) (known_below shapes plan.ops c.ops.op-index) (op_at plan.ops c.ops.op-index) in
    let last : c.in_ok-profile.profile ≡ one.profile =
    rw (← op.0) at c.in_ok-profile.ensures.profile
    ∙ ap (λ (k : Known). k.profile) (one_is shapes plan c.requires typed c.ops.op-index op.1 c.ops.fronts fronts c.ops.so_far c.push_known.new.so_far known pushed)
    in
    record {
      known =
          subst (λ (n : ℕ). IsSoFar shapes plan.ops n c.push_known.new.so_far) next
          (so_far_more shapes plan c.requires typed c.ops.op-index op.1 c.ops.fronts fronts c.ops.so_far c.push_known.new.so_far known pushed);
      fronts = subst (λ (n : ℕ). AreKept plan.ops n c.push_known.new.fronts) next (c.in_ok-profile.ensures.fronts plan.ops c.ops.op-index op.1 op.0 fronts);
      events =
          subst (λ (n : ℕ). c.push.new.self.items ≡ map (λ (k : Known). k.profile) (known_below shapes plan.ops n)) next
          (c.in_ok-push.ensures.items
          ∙ ap (λ (xs : List Profile). xs ++ c.in_ok-profile.profile ∷ []) c.ops.invariant.events
          ∙ ap (λ (p : Profile). map (λ (k : Known). k.profile) (known_below shapes plan.ops c.ops.op-index) ++ p ∷ []) last
          ∙ sym (map-append (λ (k : Known). k.profile) (known_below shapes plan.ops c.ops.op-index) (one ∷ [])));
    }
