use Rattle.std.proofs.Common.{◌∙◌, sym}
use Rattle.path_auto.proofs.Unions.{set_more, set_end}
use Rattle.path_auto.proofs.sets.set_where.Goals as goal

pub loop-at-preserved : goal.loop-at-preserved
loop-at-preserved c =
    set_more c.args.lives.now c.loop-at.at c.loop-at.set c.single_if-set.result c.loop-at-test.true c.single_if-set.ensures ∙ c.loop-at.invariant

pub returns : goal.returns
returns c = sym (set_end c.args.lives.now c.loop-at.at c.loop-at.set c.loop-at-test.false) ∙ c.loop-at.invariant
