use Rattle.std.proofs.Common.{[], length, take}
use Rattle.plan_core.specs.Valid.{kinds}
use Rattle.plan_read.specs.Checks.{ops_of, AreNumbered, AreShort, AreSound}
use Rattle.plan_read.specs.Drafts.{all_numbered}
use Rattle.plan_read.specs.Scopes.{AreScopes}
use Rattle.plan_read.proofs.checks.unsound.Given as goal

abbrev pub invariant-loop-draft : goal.invariant-loop-draft
invariant-loop-draft l =
    AreNumbered (all_numbered l.drafts) (length l.drafts) → AreShort (all_numbered l.drafts) (length l.drafts) → AreScopes l.fn.scopes [] (kinds (ops_of (all_numbered l.drafts)))
    → AreScopes l.scopes (take l.draft-index (ops_of (all_numbered l.drafts))) (kinds (ops_of (all_numbered l.drafts))) × AreSound (all_numbered l.drafts) l.draft-index
