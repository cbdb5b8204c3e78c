use Rattle.std.proofs.Common.{rules, ◌∙◌, ◌<◌, sym, ap, arith, length}
use Rattle.std.specs.Prelude.{◌==◌}
use Rattle.std.specs.List.{list_any}
use Rattle.plan_core.specs.PlanMade.{plan_value}
use Rattle.plan_core.specs.Plans.{Operator}
use Rattle.plan_core.specs.Valid.{outs_of}
use Rattle.lazy_follow.proofs.Choices.{maker_first}
use Rattle.lazy_follow.proofs.choosing.maker_of.Goals as goal

pub returns-then-binds_anew : goal.returns-then-binds_anew
returns-then-binds_anew c =
    let ops = (plan_value c.args.plan.now).ops in
    let l : c.loop-i.i < c.args.below = (let r = c.loop-i-test.true in first_of (omega (arith, r), search rules)) in
    let b : c.loop-i.i < length ops = (let r = c.requires in omega (arith, r, l)) in (
      l,
      maker_first ops c.args.v c.loop-i.i b c.loop-i.invariant
          (ap (λ (o : Operator). list_any (λ w. w == c.args.v) (outs_of o)) (sym c.operator.ensures) ∙ sym c.binds_anew.ensures ∙ c.if-binds_anew.true),
    )
