use Rattle.std.proofs.Common.{◌∙◌, ap, sym}
use Rattle.xmas_rule.specs.Conditions.{binders, flat}
use Rattle.xmas_rule.specs.Reached.{reaches}
use Rattle.xmas_rule.specs.Tuples.{tuples}
use Rattle.plain_rule.proofs.Tupling.{body_next, body_end}
use Rattle.plain_rule.proofs.tuples.body_tuples.Goals as goal

pub loop-cond-preserved : goal.loop-cond-preserved
loop-cond-preserved c = λ lists is.
    body_next lists c.in-Some.cond.now c.in-Some.after.now c.loop-cond.all.items c.in_ok-all.all.items (c.in_ok-all.ensures lists is)
    ∙ ap (λ z. tuples lists c.loop-cond.all.items (flat (reaches (binders z)))) (sym c.in-Some.ensures.cases.0)
    ∙ c.loop-cond.invariant lists is

pub returns : goal.returns
returns c = λ lists is. sym (body_end lists c.loop-cond.rest.now c.loop-cond.all.items c.in_default.ensures.cases) ∙ c.loop-cond.invariant lists is
