use Rattle.std.proofs.Common.{◌+◌, ◌∙◌, ap, sym, arith, drop}
use Rattle.std.specs.Prelude.{◌||◌}
use Rattle.lxp_core.specs.Open.{has_node}
use Rattle.wire_text.specs.Wired.{without_weights}
use Rattle.wire_text.specs.Plain.{plain}
use Rattle.lxp_remote.proofs.Ruled.{has_node-step}
use Rattle.lxp_remote.proofs.rules.has_some_node.Goals as goal

pub returns-then-is_node : goal.returns-then-is_node
returns-then-is_node c =
    let ts = c.args.trees.now in
    let i = c.loop-tree.tree-index in
    sym (sym c.loop-tree.invariant ∙ has_node-step ts i c.tree-item.result (omega arith) c.tree-item.is
    ∙ ap (λ b. b || has_node (without_weights (plain (drop (i + 1) ts)))) (sym c.is_node.ensures ∙ c.if-is_node.true))

pub loop-tree-preserved : goal.loop-tree-preserved
loop-tree-preserved c =
    let ts = c.args.trees.now in
    let i = c.loop-tree.tree-index in
    ap (λ b. b || has_node (without_weights (plain (drop (i + 1) ts)))) (sym c.if-is_node.false ∙ c.is_node.ensures) ∙ sym (has_node-step ts i c.tree-item.result (omega arith) c.tree-item.is) ∙ c.loop-tree.invariant
