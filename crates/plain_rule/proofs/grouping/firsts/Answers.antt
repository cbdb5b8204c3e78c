use Rattle.std.proofs.Common.{◌∙◌, sym}
use Rattle.mix_base.proofs.Seen.{distinct_all}
use Rattle.xmas_rule.proofs.KeyLaws.{sameness}
use Rattle.xmas_rule.specs.Meaning.{same}
use Rattle.plain_rule.specs.Documents.{documents_of}
use Rattle.plain_rule.proofs.Distinct.{distinct_next, distinct_end}
use Rattle.plain_rule.proofs.grouping.firsts.Goals as goal

pub loop-binding-preserved : goal.loop-binding-preserved
loop-binding-preserved c =
    distinct_next (same (documents_of c.args.by.now.docs.now) c.args.by.now.keys.now) c.args.bindings.now c.loop-binding.binding-index c.binding-item.result c.loop-binding.seen.items c.push_if_new.new.seen.items c.loop-binding-test.true c.binding-item.is c.in_ok-push_if_new.ensures
    ∙ c.loop-binding.invariant

pub returns : goal.returns
returns c =
    sym (distinct_end (same (documents_of c.args.by.now.docs.now) c.args.by.now.keys.now) c.args.bindings.now c.loop-binding.binding-index c.loop-binding.seen.items c.loop-binding-test.false)
    ∙ c.loop-binding.invariant
    ∙ distinct_all (same (documents_of c.args.by.now.docs.now) c.args.by.now.keys.now) (sameness (documents_of c.args.by.now.docs.now) c.args.by.now.keys.now) c.args.bindings.now
