use Rattle.std.proofs.Common.{◌≡◌, ◌+◌, drop, length}
use Rattle.plan_core.specs.Fronts.{shared}
use Rattle.plan_core.proofs.front.shared_count.Given as goal

abbrev pub invariant-vars : goal.invariant-vars
invariant-vars l = (l.count ≡ l.var-index) × (l.count + length (shared l.keys (drop l.var-index l.vars)) ≡ length (shared l.keys l.vars))
