use Rattle.std.proofs.Common.{get_or, ℕ, arith, [], List, sym, subst}
use Rattle.catalog_continuations.specs.declared.form_word.FormWord.{FormWord}
use Rattle.catalog_continuations.specs.declared.line_form.TheConstants.{FORMS}
use Rattle.catalog_continuations.specs.declared.line_form.LineForm.TheVariants.{DeepBracket}
use Rattle.catalog_continuations.specs.Next.{AreAdded, Below, StandsIn}
use Rattle.catalog_continuations.proofs.Adding.{added_more, all_added, none_below}
use Rattle.catalog_continuations.proofs.next.next_words.Goals as goal

pub loop-form-init : goal.loop-form-init
loop-form-init c =
    let P = λ (n : ℕ). StandsIn c.args.front.now (get_or FORMS.now n DeepBracket) in
    subst (λ (ws : List FormWord). AreAdded (Below P 0) [] ws) (sym c.new-words.ensures.items) (none_below P [])

pub loop-form-preserved : goal.loop-form-preserved
loop-form-preserved c =
    added_more (λ n. StandsIn c.args.front.now (get_or FORMS.now n DeepBracket)) c.loop-form.form-index [] c.loop-form.words.items c.push_form.new.words.items c.loop-form.invariant
    c.in_ok-push_form.ensures

pub returns : goal.returns
returns c = all_added c.args.front.now c.loop-form.form-index c.loop-form.words.items (omega (arith, c.loop-form-test.false)) c.loop-form.invariant
