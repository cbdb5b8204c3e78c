use Rattle.std.proofs.Common.{subst, get_or, arith}
use Rattle.catalog_continuations.specs.GoesOn.{FitsForm, Tells}
use Rattle.catalog_continuations.specs.declared.line_form.TheConstants.{FORMS}
use Rattle.catalog_continuations.specs.declared.line_form.LineForm.TheVariants.{DeepBracket}
use Rattle.catalog_continuations.proofs.TriedLines.{none_fits}
use borrow.Author.Count.{below_more}
use Rattle.catalog_continuations.proofs.going_on.goes_on.Goals as goal

pub loop-form-preserved : goal.loop-form-preserved
loop-form-preserved c =
    let front = c.args.front.now in
    let k = c.loop-form.form-index in
    below_more (λ n. ¬ FitsForm front (get_or FORMS.now n DeepBracket)) k c.loop-form.invariant
    (subst (Tells (FitsForm front (get_or FORMS.now k DeepBracket))) c.if-branch.false c.in_ok-fits_form.ensures)

pub returns : goal.returns
returns c = none_fits c.args.front.now c.loop-form.form-index (omega (arith, c.loop-form-test.false)) c.loop-form.invariant
