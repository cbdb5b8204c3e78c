use Rattle.std.proofs.Common.{◌∙◌, sym}
use Rattle.plain_rule.proofs.Tupling.{reached_next, reached_end}
use Rattle.plain_rule.proofs.tuples.extend_reached.Goals as goal

pub loop-cond-preserved : goal.loop-cond-preserved
loop-cond-preserved c = λ lists is.
    reached_next lists c.loop-cond.vars.items c.extend_if_reached.new.vars.items c.args.conds.now c.loop-cond.cond-index c.cond-item.result c.loop-cond.longer.items c.in_ok-longer.longer.items
    c.loop-cond-test.true c.cond-item.is (c.in_ok-longer.ensures.tuples lists is) c.in_ok-longer.ensures.vars
    ∙ c.loop-cond.invariant lists is

pub returns : goal.returns
returns c = λ lists is.
    sym (reached_end lists c.loop-cond.vars.items c.args.conds.now c.loop-cond.cond-index c.loop-cond.longer.items c.loop-cond-test.false)
    ∙ c.loop-cond.invariant lists is
