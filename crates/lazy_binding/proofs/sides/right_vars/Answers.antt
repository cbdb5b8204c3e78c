use Rattle.std.proofs.Common.{◌∙◌, ap, arith}
use Rattle.std.proofs.lemmas.List.{length-map}
use Rattle.std.proofs.lemmas.Result.{IfOk-weaker}
use Rattle.plan_core.specs.PlanMade.{op_of}
use Rattle.plan_core.specs.Shapes.{shape_of}
use Rattle.lazy_binding.proofs.RightSides.{left_before, between}
use Rattle.lazy_binding.proofs.sides.right_vars.Goals as goal

pub prove-unreachable-requires : goal.prove-unreachable-requires
prove-unreachable-requires c =
    let n = length-map c.args.ops.now op_of in
    let l = left_before c.args.ops.now c.args.n c.in-Join.left c.in-Join.right c.in-Join.tests.items c.index-ops-n.result c.requires.typed c.requires.op (let h = c.requires.op in omega (arith, n, h)) c.index-ops-n.is
    (ap (λ o. shape_of (op_of o)) c.in-Join.is) in
    omega (arith, l, c.if-prove.true)

pub returns-in-Join : goal.returns-in-Join
returns-in-Join c =
    let n = length-map c.args.ops.now op_of in
    IfOk-weaker c.others.result _ _
    (λ vars e. e ∙ between c.args.ops.now c.args.n c.in-Join.left c.in-Join.right c.in-Join.tests.items c.index-ops-n.result (let h = c.requires.op in omega (arith, n, h)) c.index-ops-n.is (ap (λ o. shape_of (op_of o)) c.in-Join.is))
    c.others.ensures
