use Rattle.std.proofs.Common.{◌++◌, ◌∷◌, ◌∙◌, [], ap, sym, map}
use Rattle.mix_tree.specs.Nodes.{Node}
use Rattle.xmas_rule.specs.Conditions.{from_var}
use Rattle.plain_rule.proofs.Tupling.{longer_var, extend_next, extend_end}
use Rattle.plain_rule.proofs.tuples.extend_from_var.Goals as goal

pub loop-binding-preserved : goal.loop-binding-preserved
loop-binding-preserved c = λ lists is.
    extend_next lists (from_var c.args.start c.args.leads.now.path.now c.args.leads.now.var) c.args.bindings.now c.loop-binding.binding-index c.binding-item.result c.loop-binding.longer.items c.push_longer.new.longer.items
    c.loop-binding-test.true c.binding-item.is
    (c.in_ok-push_longer.ensures lists is
    ∙ ap (λ (n : Node). c.loop-binding.longer.items ++ map (λ q. c.binding-item.result ++ (c.args.leads.now.var, record { source = n.source; place = q }) ∷ []) (lists c.args.leads.now.path.now n)) c.in_ok-from.ensures
    ∙ ap (λ z. c.loop-binding.longer.items ++ z) (longer_var lists c.args.start c.args.leads.now.path.now c.args.leads.now.var c.binding-item.result))
    ∙ c.loop-binding.invariant lists is

pub returns : goal.returns
returns c = λ lists is.
    sym (extend_end lists (from_var c.args.start c.args.leads.now.path.now c.args.leads.now.var) c.args.bindings.now c.loop-binding.binding-index c.loop-binding.longer.items c.loop-binding-test.false)
    ∙ c.loop-binding.invariant lists is
