use Rattle.std.proofs.Common.{rules, ◌≡◌, ◌∙◌, true, sym}
use Rattle.mix_tree.specs.Comparisons.{passes}
use Rattle.lazy_plan.specs.Bench.{state_of, documents}
use Rattle.lazy_seek.specs.Known.{IsTestKnown}
use Rattle.lazy_seek.proofs.Testing.{each_at, pass_more, pass_end}
use Rattle.lazy_seek.proofs.evidence.Found.passes_each.Goals as goal

pub loop-test-preserved : goal.loop-test-preserved
loop-test-preserved c = λ view places nodes bench told all.
    let st = state_of view c.args.bench.now in
    let known = each_at (IsTestKnown st places c.args.self.now.nodes nodes) c.args.tests.now c.loop-test.test-index c.test-item.result all c.loop-test-test.true c.test-item.is in
    let passed : c.passes.result ≡ true = search rules in
    c.loop-test.invariant view places nodes bench told all
    ∙ pass_more (λ t. passes (documents st) t nodes) c.args.tests.now c.loop-test.test-index c.test-item.result c.loop-test-test.true c.test-item.is
    (sym (c.passes.ensures view places nodes bench told known) ∙ passed)

pub returns : goal.returns
returns c = λ view places nodes bench told all.
    let st = state_of view c.args.bench.now in
    sym (c.loop-test.invariant view places nodes bench told all ∙ pass_end (λ t. passes (documents st) t nodes) c.args.tests.now c.loop-test.test-index c.loop-test-test.false)
