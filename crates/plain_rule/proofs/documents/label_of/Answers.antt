use Rattle.std.proofs.Common.{◌≡◌, ◌∙◌, [], sym, ap}
use Rattle.std.proofs.lemmas.Result.{IfOk-weaker}
use Rattle.mix_tree.specs.Forest.{forest_of, from, first_kids, tree, none}
use Rattle.mix_tree.specs.Nodes.{label_of_first, label_at}
use Rattle.mix_tree.specs.Place.{trees_at}
use Rattle.plain_rule.specs.Documents.{documents_of}
use Rattle.plain_rule.proofs.Standing.{label_above}
use Rattle.plain_rule.proofs.documents.label_of.Goals as goal

pub returns-in-Some : goal.returns-in-Some
returns-in-Some c =
    IfOk-weaker c.label_of_kid.result (λ label. label ≡ label_of_first (from c.in-Some.last.now (forest_of c.kids_below-kids.result.now))) (λ label. label ≡ label_at (documents_of c.args.docs.now) c.args.node.now)
    (λ label e. e
    ∙ ap (λ f. label_of_first (from c.in-Some.last.now f)) c.kids_below-kids.ensures
    ∙ ap (λ f. label_of_first (from c.in-Some.last.now (first_kids (trees_at (tree [] f none) c.in-Some.above.now)))) (c.document.ensures ∙ ap (documents_of c.args.docs.now) c.source.ensures)
    ∙ sym (label_above (tree [] (documents_of c.args.docs.now c.args.node.now.source) none) c.args.node.now.place c.in-Some.above.now c.in-Some.last.now (sym c.place.ensures ∙ sym c.steps.ensures ∙ c.in-Some.ensures.cases.0)))
    c.label_of_kid.ensures
