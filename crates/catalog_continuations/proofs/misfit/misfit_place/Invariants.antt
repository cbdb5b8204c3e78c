-- The words so far fit.
use Rattle.catalog_continuations.specs.Misfit.{FirstFit}
use Rattle.catalog_continuations.proofs.misfit.misfit_place.Given as goal

abbrev pub invariant-loop-count : goal.invariant-loop-count
invariant-loop-count l = FirstFit l.line l.count
