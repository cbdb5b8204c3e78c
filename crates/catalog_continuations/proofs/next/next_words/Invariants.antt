-- The words of the forms so far are added.
use Rattle.std.proofs.Common.{[], get_or}
use Rattle.catalog_continuations.specs.declared.line_form.TheConstants.{FORMS}
use Rattle.catalog_continuations.specs.declared.line_form.LineForm.TheVariants.{DeepBracket}
use Rattle.catalog_continuations.specs.Next.{AreAdded, Below, StandsIn}
use Rattle.catalog_continuations.proofs.next.next_words.Given as goal

abbrev pub invariant-loop-form : goal.invariant-loop-form
invariant-loop-form l = AreAdded (Below (λ n. StandsIn l.front (get_or FORMS.now n DeepBracket)) l.form-index) [] l.words.items
