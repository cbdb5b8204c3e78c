use Rattle.std.proofs.Common.{◌<◌, ◌∙◌, [], sym, ap, ◌+◌, arith, drop, get_or, length}
use Rattle.std.proofs.lemmas.Grind.{common_steps}
use Rattle.mix_tree.specs.Forest.{tree, none, first_kids}
use Rattle.mix_tree.specs.Place.{trees_at}
use Rattle.plain_rule.proofs.Standing.{step_missing, step_there}
use Rattle.plain_rule.proofs.documents.kids_below.Goals as goal

pub returns-in-None : goal.returns-in-None
returns-in-None c = sym (step_missing c.loop-step.found.now c.args.place.now c.loop-step.step-index c.loop-step-test.true c.in-None.ensures.lookup.3) ∙ c.loop-step.invariant

pub loop-step-preserved : goal.loop-step-preserved
loop-step-preserved c =
    let inside : get_or c.args.place.now c.loop-step.step-index 0 < length c.loop-step.found.now = grind (arith, common_steps, c.in-Some.ensures.lookup) in
    ap (λ f. first_kids (trees_at (tree [] f none) (drop (c.loop-step.step-index + 1) c.args.place.now))) c.kids-found.ensures
    ∙ sym (step_there c.loop-step.found.now c.args.place.now c.loop-step.step-index c.in-Some.tree.now c.loop-step-test.true inside c.in-Some.ensures.lookup.1)
    ∙ c.loop-step.invariant
