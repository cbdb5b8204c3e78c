use Rattle.std.proofs.Common.{arith, rules}
use Rattle.lazy_steps.proofs.sorted.sorted_at.Goals as goal

pub returns-in_ok-put-clause-ok : goal.returns-in_ok-put-clause-ok
returns-in_ok-put-clause-ok c = (search (rules, arith), (c.in_ok-all.all, c.in_ok-all.ensures.cases, c.in_ok-put.ensures.ok))
