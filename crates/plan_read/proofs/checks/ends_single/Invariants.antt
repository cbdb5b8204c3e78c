use Rattle.std.proofs.Common.{◌≡◌, ◌<◌, ℕ, false, drop, length, slice_index_or}
use Rattle.plan_core.specs.Valid.{is_single_at}
use Rattle.plan_read.specs.Checks.{ops_of, AreNumbered}
use Rattle.plan_read.specs.Drafts.{all_numbered}
use Rattle.plan_read.specs.Ops.{ends_by}
use Rattle.plan_read.proofs.checks.ends_single.Given as goal

abbrev pub invariant-loop-place : goal.invariant-loop-place
invariant-loop-place l = AreNumbered (all_numbered l.drafts) (length l.drafts)
    → (length l.singles.items ≡ l.place)
    × ((n : ℕ) → n < l.place → slice_index_or l.singles.items n false ≡ is_single_at (ops_of (all_numbered l.drafts)) n)
    × (ends_by (is_single_at (ops_of (all_numbered l.drafts))) (drop l.place (ops_of (all_numbered l.drafts))) ≡ ends_by (is_single_at (ops_of (all_numbered l.drafts))) (ops_of (all_numbered l.drafts)))
