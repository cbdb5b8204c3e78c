use Rattle.std.proofs.Common.{◌∙◌, ap, arith, List, [], ◌∷◌, ◌++◌, length, map}
use Rattle.std.specs.Prelude.{Bool}
use Rattle.std.proofs.lemmas.List.{length-map}
use Rattle.plan_core.specs.Fronts.{op_stops, op_apart}
use Rattle.plan_core.specs.FrontsKept.{HasInputs}
use Rattle.plan_core.specs.PlanMade.{op_of}
use Rattle.plan_core.proofs.KeptFronts.{inputs_after, told_more}
use Rattle.plan_core.proofs.facts.facts_after.Goals as goal

pub ops-preserved : goal.ops-preserved
ops-preserved c =
    let ops = map op_of c.args.ops.now in
    let item = c.op-item.result in
    let own = op_of item in
    let within = c.ops-test.true in
    let count = length-map c.args.ops.now op_of in
    let inputs : HasInputs ops c.args.fronts.now own = inputs_after ops (length c.args.ops.now) c.args.fronts.now (omega (arith, count)) c.requires.kept c.requires.staying own in
    record {
      stops =
          c.in_ok-push.ensures.stops ops inputs
          ∙ ap (λ (bs : List Bool). bs ++ op_stops ops own ∷ []) c.ops.invariant.stops
          ∙ told_more (op_stops ops) c.args.ops.now c.ops.op-index item (omega (arith, within)) c.op-item.is;
      apart =
          c.in_ok-push.ensures.apart ops inputs
          ∙ ap (λ (bs : List Bool). bs ++ op_apart ops own ∷ []) c.ops.invariant.apart
          ∙ told_more (op_apart ops) c.args.ops.now c.ops.op-index item (omega (arith, within)) c.op-item.is;
    }
