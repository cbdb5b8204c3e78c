use Rattle.plan_read.proofs.Mapped.{entries_first}
use Rattle.plan_read.proofs.scope.Scope.with_first.Goals as goal

pub returns : goal.returns
returns c = λ v. entries_first c.args.self.vars c.args.first.vars c.append.new.self v (c.in_ok-append.ensures.inserts_all.0 v) c.append.ensures.other_was_ordered
