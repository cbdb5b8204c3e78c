use Rattle.std.proofs.Common.{◌<◌, ◌∙◌, rules, ap, ◌++◌, ◌∷◌, [], cond}
use Rattle.mix_tree.specs.Forest.{forest_of}
use Rattle.mix_tree.specs.Weight.{nodes_of}
use Rattle.plain_rule.specs.Found.{found_in}
use Rattle.plain_rule.proofs.Standing.{fewer_nodes}
use Rattle.plain_rule.proofs.Finding.{found_next}
use Rattle.plain_rule.proofs.matching.+push_found.Goals as goal

pub push_found-requires : goal.push_found-requires
push_found-requires t c =
    let fewer : nodes_of c.index-trees-at.result.kids < nodes_of (forest_of c.args.trees.now) = fewer_nodes c.args.trees.now c.loop-at.at c.index-trees-at.result c.loop-at-test.true c.index-trees-at.is in
    search rules

pub loop-at-preserved : goal.loop-at-preserved
loop-at-preserved t c = λ test says.
    found_next test c.args.under.now.labels.now c.in_ok-labels.labels.items c.args.under.now.place.now c.in_ok-below.below c.loop-at.at c.args.trees.now c.index-trees-at.result c.label.result.now
    c.loop-at.found.items c.push_if_described.new.found.items c.push_found.new.found.items
    c.loop-at-test.true c.index-trees-at.is c.label.ensures c.in_ok-labels.ensures c.in_ok-below.ensures
    (c.in_ok-push_if_described.ensures test says ∙ ap (λ z. c.loop-at.found.items ++ cond (test z) (c.in_ok-below.below ∷ []) []) c.deref.ensures.value)
    (c.in_ok-push_found.ensures test says
    ∙ ap (λ z. c.push_if_described.new.found.items ++ found_in test z c.in_ok-below.below 0 (forest_of c.kids.result.now)) c.deref-in-loop-at.ensures.value
    ∙ ap (λ f. c.push_if_described.new.found.items ++ found_in test c.in_ok-labels.labels.items c.in_ok-below.below 0 f) c.kids.ensures)
    ∙ c.loop-at.invariant test says
