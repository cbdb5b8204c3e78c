use Rattle.std.proofs.Common.{◌≡◌, ◌<◌, ◌∙◌, sym, ap, length, arith, Some, []}
use Rattle.std.proofs.lemmas.Result.{IfOk-weaker}
use Rattle.std.proofs.lemmas.Grind.{common_steps}
use Rattle.mix_tree.specs.Forest.{forest_of, from, first_tree}
use Rattle.mix_tree.specs.Nodes.{label_of_first}
use Rattle.mix_tree.proofs.Kids.{first_tree-get, from_past}
use Rattle.plain_rule.proofs.Standing.{label_of_some}
use Rattle.plain_rule.proofs.documents.label_of_kid.Goals as goal

pub returns-in-Some : goal.returns-in-Some
returns-in-Some c =
    let inside : c.args.at < length c.args.kids.now = grind (arith, common_steps, c.in-Some.ensures.lookup) in
    let first : Some c.in-Some.tree.now ≡ first_tree (from c.args.at (forest_of c.args.kids.now)) =
    first_tree-get c.args.kids.now c.args.at (Some c.in-Some.tree.now) (inside, c.in-Some.ensures.lookup.1) in
    IfOk-weaker c.copy.result (λ label. label ≡ c.label.result.now) (λ label. label ≡ label_of_first (from c.args.at (forest_of c.args.kids.now)))
    (λ label e. e ∙ c.label.ensures ∙ label_of_some (from c.args.at (forest_of c.args.kids.now)) c.in-Some.tree.now first) c.copy.ensures

pub returns-in-None : goal.returns-in-None
returns-in-None c =
    IfOk-weaker c.of_text.result (λ label. label ≡ []) (λ label. label ≡ label_of_first (from c.args.at (forest_of c.args.kids.now)))
    (λ label e. e ∙ ap label_of_first (sym (from_past c.args.kids.now c.args.at c.in-None.ensures.lookup.3))) c.of_text.ensures
