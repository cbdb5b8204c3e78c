use Rattle.std.proofs.Common.{subst}
use Rattle.lazy_binding.specs.Opening.{HasShortPath}
use Rattle.plan_core.proofs.Numbers.{op_read}
use Rattle.lazy_binding.proofs.opening.automata.Goals as goal

pub automaton-requires : goal.automaton-requires
automaton-requires c =
    subst HasShortPath (op_read c.args.ops.now c.loop-op.op-index c.op-item.result c.loop-op-test.true c.op-item.is) (c.requires c.loop-op.op-index c.loop-op-test.true)
