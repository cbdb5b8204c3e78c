use Rattle.std.proofs.Common.{◌≡◌, ◌+◌, ◌-◌, ap, ◌∙◌, arith}
use Rattle.lxp_core.specs.Open.{node}
use Rattle.lxp_core.specs.Plain.{put_all}
use Rattle.lxp_memory.specs.Nodes.{label_of}
use Rattle.lxp_memory.specs.Cut.{children}
use Rattle.lxp_memory.proofs.CutSteps.{children-node}
use Rattle.lxp_memory.proofs.document.Document.cut.Goals as goal

pub loop-i-preserved : goal.loop-i-preserved
loop-i-preserved c = λ rest.
    let ns = c.args.self.now.nodes.items in
    let before = c.loop-i.list.items in
    let choice = c.args.choice in
    let i = c.loop-i.i in
    let end = c.first-first.result + (c.args.span.from + c.min.result + c.min-2.result) in
    let m = end - (i + 1) in
    let next : m + 1 ≡ end - i = omega arith in
    c.in_ok-push_node.ensures (children ns choice (i + 1) m rest)
    ∙ ap (λ o. put_all before (node (label_of ns i) o (children ns choice (i + 1) m rest))) c.in_ok-kids.ensures
    ∙ ap (put_all before) (children-node ns choice i m rest)
    ∙ ap (λ k. put_all before (children ns choice i k rest)) next
    ∙ c.loop-i.invariant rest
