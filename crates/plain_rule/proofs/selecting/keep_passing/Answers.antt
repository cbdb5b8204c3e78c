use Rattle.std.proofs.Common.{◌∙◌}
use Rattle.mix_tree.specs.Comparisons.{passes}
use Rattle.xmas_rule.specs.Bindings.{node_of}
use Rattle.plain_rule.specs.Documents.{documents_of}
use Rattle.plain_rule.proofs.Tupling.{kept_next}
use Rattle.plain_rule.proofs.selecting.keep_passing.Goals as goal

pub loop-binding-preserved : goal.loop-binding-preserved
loop-binding-preserved c =
    kept_next (λ b. passes (documents_of c.args.docs.now) c.args.test.now (node_of b)) c.args.bindings.now c.loop-binding.binding-index c.binding-item.result
    c.loop-binding.kept.items c.keep_if_passing.new.kept.items c.loop-binding-test.true c.binding-item.is c.in_ok-keep_if_passing.ensures
    ∙ c.loop-binding.invariant
