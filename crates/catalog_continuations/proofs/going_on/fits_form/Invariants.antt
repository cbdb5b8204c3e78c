-- With none of the last words so far the front is a line.
use Rattle.std.proofs.Common.{ℕ, ◌<◌, drop}
use Rattle.catalog_continuations.specs.GoesOn.{GoesOnWith}
use Rattle.catalog_continuations.proofs.going_on.fits_form.Given as goal

abbrev pub invariant-loop-passed : goal.invariant-loop-passed
invariant-loop-passed l = (k : ℕ) → k < l.passed → ¬ GoesOnWith l.front (drop k l.words)
