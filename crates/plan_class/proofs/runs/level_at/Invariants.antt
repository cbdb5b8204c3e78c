use Rattle.std.proofs.Common.{◌≡◌, drop}
use Rattle.std.specs.Prelude.{slice_index_or}
use Rattle.plan_class.specs.Runs.{levels_of}
use Rattle.plan_class.proofs.runs.level_at.Given as goal

abbrev pub invariant-runs : goal.invariant-runs
invariant-runs l = slice_index_or (levels_of (drop l.run-index l.runs)) l.left l.rest ≡ slice_index_or (levels_of l.runs) l.number l.rest
