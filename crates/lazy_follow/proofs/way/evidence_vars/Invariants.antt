use Rattle.std.proofs.Common.{◌≡◌, ◌++◌, drop, map}
use Rattle.plan_core.specs.PlanMade.{op_of}
use Rattle.plan_evidence.specs.Evidence.{is_on_way, vars_from, evidence_vars}
use Rattle.lazy_follow.proofs.way.evidence_vars.Given as goal

abbrev pub invariant-loop-i : goal.invariant-loop-i
invariant-loop-i l =
    l.vars.items ++ vars_from (is_on_way (map op_of l.ops) l.op) l.i (drop l.i (map op_of l.ops)) ≡ evidence_vars (map op_of l.ops) l.op
