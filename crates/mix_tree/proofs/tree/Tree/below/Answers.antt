use Rattle.std.proofs.Common.{◌≡◌, ◌∙◌, sym, ap, option_copied, ◌+◌, drop, get_or, Some, None}
use Rattle.std.proofs.lemmas.List.{drop_more}
use Rattle.mix_tree.specs.Place.{tree_at}
use Rattle.mix_tree.proofs.Places.{tree_at-step}
use Rattle.mix_tree.proofs.tree.Tree.below.Goals as goal

pub returns-in_err-found : goal.returns-in_err-found
returns-in_err-found c =
    let steps = c.args.steps.now in
    let t = c.loop-step.found.now in
    let i = c.loop-step.step-index in
    let here : tree_at t (drop i steps) ≡ None =
    ap (tree_at t) (drop_more steps i 0 c.loop-step-test.true) ∙ tree_at-step t (get_or steps i 0) (drop (i + 1) steps) None c.in_err-found.ensures in
    ap option_copied c.from_residual.ensures ∙ sym here ∙ c.loop-step.invariant

pub loop-step-preserved : goal.loop-step-preserved
loop-step-preserved c =
    let steps = c.args.steps.now in
    let t = c.loop-step.found.now in
    let i = c.loop-step.step-index in
    sym (ap (tree_at t) (drop_more steps i 0 c.loop-step-test.true) ∙ tree_at-step t (get_or steps i 0) (drop (i + 1) steps) (Some c.in_ok-found.found.now) c.in_ok-found.ensures) ∙ c.loop-step.invariant
