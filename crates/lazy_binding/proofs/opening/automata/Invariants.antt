use Rattle.std.proofs.Common.{◌≡◌, map, take}
use Rattle.plan_core.specs.PlanMade.{op_of}
use Rattle.lazy_binding.specs.Opening.{table_in}
use Rattle.lazy_binding.proofs.opening.automata.Given as goal

abbrev pub invariant-loop-op : goal.invariant-loop-op
invariant-loop-op l = l.autos.items ≡ map (λ op. table_in (op_of op)) (take l.op-index l.ops)
