use Rattle.std.proofs.Common.{◌≡◌, ◌<◌, ◌+◌, ◌∙◌, ℕ, suc, ap, subst, arith, List, [], ◌∷◌, ◌++◌, length, map}
use Rattle.std.specs.Prelude.{Bool}
use Rattle.std.proofs.lemmas.List.{length-map}
use Rattle.plan_core.specs.ByNumber.{op_at}
use Rattle.plan_core.specs.Fronts.{op_stops, op_apart}
use Rattle.plan_core.specs.FrontsKept.{AreKept, HasInputs}
use Rattle.plan_core.specs.PlanMade.{op_of}
use Rattle.plan_core.specs.Plans.{Operator}
use Rattle.plan_core.proofs.KeptFronts.{inputs_kept, told_more}
use Rattle.plan_core.proofs.Numbers.{op_read}
use Rattle.plan_core.proofs.facts.facts_in_passing.Goals as goal

pub ops-preserved : goal.ops-preserved
ops-preserved c =
    let ops = map op_of c.args.ops.now in
    let n = c.ops.op-index in
    let item = c.op-item.result in
    let own = op_of item in
    let within : n < length c.args.ops.now = omega (arith, c.ops-test.true) in
    let count = length-map c.args.ops.now op_of in
    let b : n < length ops = omega (arith, count, within) in
    let at : op_at ops n ≡ own = op_read c.args.ops.now n item within c.op-item.is in
    let kept = c.ops.invariant.kept in
    let before = (kept.tree c.ops.invariant.moving).before n b in
    let inputs : HasInputs ops c.ops.fronts own = subst (λ (o : Operator). HasInputs ops c.ops.fronts o) at (inputs_kept ops n c.ops.fronts b kept before) in
    let next : suc n ≡ n + 1 = omega arith in
    record {
      kept = subst (λ (m : ℕ). AreKept ops m c.push-in-ops.new.self) next (c.in_ok-push-2.ensures.kept ops n b at kept);
      moving = c.in_ok-push-2.ensures.moving ∙ c.ops.invariant.moving;
      stops =
          c.in_ok-push.ensures.stops ops inputs ∙ ap (λ (bs : List Bool). bs ++ op_stops ops own ∷ []) c.ops.invariant.stops ∙ told_more (op_stops ops) c.args.ops.now n item within c.op-item.is;
      apart =
          c.in_ok-push.ensures.apart ops inputs ∙ ap (λ (bs : List Bool). bs ++ op_apart ops own ∷ []) c.ops.invariant.apart ∙ told_more (op_apart ops) c.args.ops.now n item within c.op-item.is;
    }
