use Rattle.std.proofs.Common.{subst}
use Rattle.view_continuations.specs.Fits.{IsWhole}
use Rattle.view_continuations.proofs.GoingOn.{cut_is_not_whole, deep_is_whole, unexpected_is_not_whole, within_is_whole}
use Rattle.view_continuations.proofs.going_on.is_whole.Goals as goal

pub returns-in-Ok : goal.returns-in-Ok
returns-in-Ok c = subst IsWhole c.as_bytes.ensures.value (within_is_whole _ _ c.in-Ok.ensures.answers.1)

pub returns-in-Err-EndsEarly : goal.returns-in-Err-EndsEarly
returns-in-Err-EndsEarly c =
    let h = rw c.in-Err-EndsEarly.field-0-is at c.in-Err-EndsEarly.ensures.answers in
    subst (λ x. ¬ IsWhole x) c.as_bytes.ensures.value (cut_is_not_whole _ h.1)

pub returns-in-Err-TooDeep : goal.returns-in-Err-TooDeep
returns-in-Err-TooDeep c =
    let h = rw c.in-Err-TooDeep.field-0-is at c.in-Err-TooDeep.ensures.answers in subst IsWhole c.as_bytes.ensures.value (deep_is_whole _ h.1)

pub returns-in-Err-Unexpected : goal.returns-in-Err-Unexpected
returns-in-Err-Unexpected c =
    let h = rw c.in-Err-Unexpected.field-0-is at c.in-Err-Unexpected.ensures.answers in
    subst (λ x. ¬ IsWhole x) c.as_bytes.ensures.value (unexpected_is_not_whole _ _ h.0 h.1)
