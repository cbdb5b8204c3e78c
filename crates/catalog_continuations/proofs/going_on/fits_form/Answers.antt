use Rattle.std.proofs.Common.{ℕ, ◌≤◌, List, length, drop, subst, arith}
use Rattle.catalog_continuations.specs.declared.form_word.FormWord.{FormWord}
use Rattle.catalog_continuations.specs.GoesOn.{GoesOnWith}
use Rattle.catalog_continuations.proofs.TriedLines.{told_not_to_go, told_to_go}
use borrow.Author.Count.{below_more}
use Rattle.catalog_continuations.proofs.going_on.fits_form.Goals as goal

pub returns-then-branch : goal.returns-then-branch
returns-then-branch c =
    let words = c.words-words.result.now in
    let k = c.loop-passed.passed in
    let goes : GoesOnWith c.args.front.now (drop k words) = told_to_go c.args.front.now words k c.in_ok-goes_on_with.field-0 c.if-branch.true c.in_ok-goes_on_with.ensures in
    subst (λ (ws : List FormWord). (n : ℕ) × (n ≤ length ws) × GoesOnWith c.args.front.now (drop n ws)) c.words-words.ensures (k, omega (arith, c.loop-passed-test.true), goes)

pub loop-passed-preserved : goal.loop-passed-preserved
loop-passed-preserved c =
    let words = c.words-words.result.now in
    let k = c.loop-passed.passed in
    below_more (λ n. ¬ GoesOnWith c.args.front.now (drop n words)) k c.loop-passed.invariant
    (told_not_to_go c.args.front.now words k c.in_ok-goes_on_with.field-0 c.if-branch.false c.in_ok-goes_on_with.ensures)
