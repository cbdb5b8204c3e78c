-- The front fits none of the forms so far.
use Rattle.std.proofs.Common.{ℕ, ◌<◌, get_or}
use Rattle.catalog_continuations.specs.GoesOn.{FitsForm}
use Rattle.catalog_continuations.specs.declared.line_form.TheConstants.{FORMS}
use Rattle.catalog_continuations.specs.declared.line_form.LineForm.TheVariants.{DeepBracket}
use Rattle.catalog_continuations.proofs.going_on.goes_on.Given as goal

abbrev pub invariant-loop-form : goal.invariant-loop-form
invariant-loop-form l = (k : ℕ) → k < l.form-index → ¬ FitsForm l.front (get_or FORMS.now k DeepBracket)
