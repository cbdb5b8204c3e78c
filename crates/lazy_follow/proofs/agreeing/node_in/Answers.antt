use Rattle.std.proofs.Common.{sym, ap}
use Rattle.plan_core.specs.TolledRows.{source_node}
use Rattle.lazy_follow.proofs.agreeing.node_in.Goals as goal

pub returns : goal.returns
returns c = λ view at cursor. (let h = c.node-source.ensures.spot view cursor in record { spot = h.spot; node = sym (ap source_node h.value) })
