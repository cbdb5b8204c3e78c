use Rattle.std.proofs.Common.{◌≡◌, false, take}
use Rattle.std.specs.List.{AllByRecursion}
use Rattle.plan_read.specs.declared.draft.Draft.{Draft}
use Rattle.plan_read.proofs.checks.long_path.Given as goal

abbrev pub invariant-loop-draft : goal.invariant-loop-draft
invariant-loop-draft l = AllByRecursion (λ (d : Draft). d.is_long ≡ false) (take l.draft-index l.drafts)
