use Rattle.std.proofs.Common.{◌≡◌, ◌+◌, ◌-◌, suc, length, take, sym, ap, ◌∙◌, arith}
use Rattle.std.proofs.lemmas.List.{length-take}
use Rattle.wire_frame.specs.Standing.{after}
use Rattle.wire_frame.specs.Frames.{standing_before}
use Rattle.wire_frame.proofs.Passing.{label_passed, rest_passed}
use Rattle.wire_frame.proofs.frame.Frame.advance.Goals as goal

pub returns-in-Label-clause-step : goal.returns-in-Label-clause-step
returns-in-Label-clause-step c =
    let text = c.args.text.now in
    let trees = c.args.self.now.trees in
    let n = c.passed-count.result in
    let m = c.in-Label.more in
    let left : length (take n text) + (m - (n - 1)) ≡ suc m = omega (arith, c.passed-count.ensures, c.requires, length-take n text) in
    c.at_label.ensures ∙ sym (label_passed (suc m) (m - (n - 1)) trees (take n text) left)
    ∙ ap (λ next. after (standing_before next trees) (take n text)) (sym c.in-Label.is)

pub returns-in-Rest-clause-step : goal.returns-in-Rest-clause-step
returns-in-Rest-clause-step c =
    let text = c.args.text.now in
    let trees = c.args.self.now.trees in
    let n = c.passed-count-in-Rest.result in
    let m = c.in-Rest.more in
    let left : length (take n text) + (m - (n - 1)) ≡ suc m = omega (arith, c.passed-count-in-Rest.ensures, c.requires, length-take n text) in
    c.at_rest.ensures ∙ sym (rest_passed (suc m) (m - (n - 1)) trees (take n text) left)
    ∙ ap (λ next. after (standing_before next trees) (take n text)) (sym c.in-Rest.is)
