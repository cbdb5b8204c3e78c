use Rattle.std.proofs.Common.{◌∙◌, sym}
use Rattle.plain_rule.specs.Documents.{documents_of}
use Rattle.plain_rule.proofs.Tupling.{passing_next, passing_end}
use Rattle.plain_rule.proofs.Compared.{compared_at}
use Rattle.plain_rule.proofs.selecting.select.Goals as goal

pub keep_by-requires : goal.keep_by-requires
keep_by-requires c = (c.requires.0, compared_at c.requires.0 c.args.conds.now c.loop-cond.cond-index c.cond-item.result c.loop-cond-test.true c.cond-item.is c.requires.1)

pub loop-cond-preserved : goal.loop-cond-preserved
loop-cond-preserved c =
    passing_next (documents_of c.args.docs.now) c.args.conds.now c.loop-cond.cond-index c.cond-item.result c.loop-cond.kept.items c.in_ok-kept.kept.items c.loop-cond-test.true c.cond-item.is c.in_ok-kept.ensures
    ∙ c.loop-cond.invariant

pub returns : goal.returns
returns c = sym (passing_end (documents_of c.args.docs.now) c.args.conds.now c.loop-cond.cond-index c.loop-cond.kept.items c.loop-cond-test.false) ∙ c.loop-cond.invariant
