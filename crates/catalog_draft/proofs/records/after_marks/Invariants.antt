use Rattle.std.proofs.Common.{◌≡◌, length}
use Rattle.csv_wrap.specs.Csv.{without_marks}
use Rattle.catalog_draft.proofs.records.after_marks.Given as goal

abbrev pub invariant-marks : goal.invariant-marks
invariant-marks l = without_marks l.rest ≡ without_marks l.bytes

abbrev pub decreases-marks : goal.decreases-marks
decreases-marks l = length l.rest
