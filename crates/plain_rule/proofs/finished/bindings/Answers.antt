use Rattle.std.proofs.Common.{◌≡◌, ◌∷◌, ◌∙◌, [], ap}
use Rattle.std.proofs.lemmas.Result.{IfOk-weaker}
use Rattle.mix_tree.specs.Nodes.{Documents}
use Rattle.xmas_rule.specs.Bindings.{AreBindings}
use Rattle.xmas_rule.specs.Conditions.{binders, comparisons, flat}
use Rattle.xmas_rule.specs.RuleMade.{rule_of}
use Rattle.xmas_rule.specs.Reached.{reaches}
use Rattle.xmas_rule.specs.Tuples.{passing, in_order_of, tuples}
use Rattle.plain_rule.specs.Documents.{documents_of}
use Rattle.plain_rule.proofs.Tupling.{body_bindings}
use Rattle.plain_rule.proofs.finished.bindings.Goals as goal

pub returns : goal.returns
returns c =
    let docs : Documents = documents_of c.args.docs.now in
    IfOk-weaker c.in_order.result
    (λ found. found.items ≡ in_order_of docs c.args.rule.now.order c.in_ok-kept.kept.items)
    (λ found. AreBindings docs c.args.rule.now.conds.items c.args.rule.now.order found.items)
    (λ found e. body_bindings c.args.docs.now c.requires.0 (rule_of c.args.rule.now) c.tuples_are_bindings.ensures c.requires.1 c.in_ok-all.all.items c.in_ok-kept.kept.items found.items
    (λ lists is. c.in_ok-all.ensures lists is ∙ ap (λ z. tuples lists ([] ∷ []) (flat (reaches (binders z)))) c.deref.ensures.value)
    (c.in_ok-kept.ensures ∙ ap (λ z. passing docs (comparisons z) c.in_ok-all.all.items) c.deref-2.ensures.value) e)
    c.in_order.ensures
