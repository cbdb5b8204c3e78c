use Rattle.std.proofs.Common.{ℕ}
use Rattle.plan_core.specs.Valid.{Kinds}
use Rattle.plan_read.specs.Checks.{ops_of, AreUsed}
use Rattle.plan_read.specs.Drafts.{all_numbered}
use Rattle.plan_read.specs.Scopes.{AreScopes}
use Rattle.plan_read.proofs.checks.unused.Given as goal

abbrev pub invariant-loop-place : goal.invariant-loop-place
invariant-loop-place l = (of : ℕ → Kinds) → AreScopes l.scopes (ops_of (all_numbered l.drafts)) of → AreUsed (all_numbered l.drafts) l.place
