-- Of the candidates so far, those that can stand are kept.
use Rattle.std.proofs.Common.{take}
use Rattle.view_continuations.specs.Fits.{CanStand, Kept}
use Rattle.view_continuations.proofs.fits.fitting.Given as goal

abbrev pub invariant-loop-candidate : goal.invariant-loop-candidate
invariant-loop-candidate l = Kept (CanStand l.front) (take l.candidate-index l.candidates) l.fit.items
