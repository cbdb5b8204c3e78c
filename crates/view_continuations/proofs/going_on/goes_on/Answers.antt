use Rattle.std.proofs.Common.{subst}
use Rattle.view_continuations.specs.Fits.{GoesOn}
use Rattle.view_continuations.proofs.GoingOn.{deep_is_whole, unexpected_stops, whole_goes_on, within_is_whole}
use Rattle.view_continuations.proofs.going_on.goes_on.Goals as goal

pub returns-in-Ok : goal.returns-in-Ok
returns-in-Ok c = let h = c.in-Ok.ensures.answers in subst GoesOn c.as_bytes.ensures.value (whole_goes_on _ h.0 (within_is_whole _ _ h.1))

pub returns-in-Err-TooDeep : goal.returns-in-Err-TooDeep
returns-in-Err-TooDeep c =
    let h = rw c.in-Err-TooDeep.field-0-is at c.in-Err-TooDeep.ensures.answers in
    subst GoesOn c.as_bytes.ensures.value (whole_goes_on _ h.0 (deep_is_whole _ h.1))

pub returns-in-Err-Unexpected : goal.returns-in-Err-Unexpected
returns-in-Err-Unexpected c =
    let h = rw c.in-Err-Unexpected.field-0-is at c.in-Err-Unexpected.ensures.answers in
    subst (λ x. ¬ GoesOn x) c.as_bytes.ensures.value (unexpected_stops _ _ h.1)
