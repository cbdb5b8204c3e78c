use Rattle.std.proofs.Common.{◌<◌, map, length, subst, arith}
use Rattle.std.specs.List.{AllByRecursion}
use Rattle.std.proofs.lemmas.List.{length-map}
use Rattle.mix_base.proofs.Firsts.{each_weaker}
use Rattle.plan_core.specs.Plans.{Operator}
use Rattle.plan_core.specs.PlanMade.{op_of}
use Rattle.plan_core.specs.Valid.{inputs_of}
use Rattle.plan_core.proofs.Numbers.{op_read}
use Rattle.plan_forms.proofs.link.links.Goals as goal

pub join_links-requires-clause-left : goal.join_links-requires-clause-left
join_links-requires-clause-left c =
    let n = length-map c.args.ops.now op_of in
    let within : c.loop-op.op-index < length (map op_of c.args.ops.now) = omega (arith, n, c.loop-op-test.true) in
    subst (λ (o : Operator). AllByRecursion (λ i. i < length (map op_of c.args.ops.now)) (inputs_of o)) (op_read c.args.ops.now c.loop-op.op-index c.op-item.result c.loop-op-test.true c.op-item.is)
    (each_weaker (λ i. i < c.loop-op.op-index) (λ i. i < length (map op_of c.args.ops.now)) (λ i l. omega (arith, l, within)) _ (c.requires.inputs c.loop-op.op-index within))
