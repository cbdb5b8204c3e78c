use Rattle.std.proofs.Common.{◌∙◌, ◌+◌, ◌-◌, ap, arith}
use Rattle.mix_tree.specs.Weight.{nodes_of}
use Rattle.lxp_memory.specs.Nodes.{run}
use Rattle.lxp_memory.proofs.CutLaws.{has_children}
use Rattle.lxp_memory.proofs.Totals.{sums_apart}
use Rattle.lxp_memory.proofs.document.Document.weight.Goals as goal

pub overflow_sub-result : goal.overflow_sub-result
overflow_sub-result c =
    let d = c.args.self.now in
    let p = c.args.span in
    let has = has_children d.nodes.items p c.requires in
    (sums_apart d.nodes.items d.sums.items c.first-first.result p.from p.to _ _ d.summed has.order (omega (arith, has.count, c.first-first.ensures.within)) c.index.ensures c.index-2.ensures).0

pub returns : goal.returns
returns c =
    let d = c.args.self.now in
    let p = c.args.span in
    let has = has_children d.nodes.items p c.requires in
    (sums_apart d.nodes.items d.sums.items c.first-first.result p.from p.to _ _ d.summed has.order (omega (arith, has.count, c.first-first.ensures.within)) c.index.ensures c.index-2.ensures).1
    ∙ ap (λ k. nodes_of (run d.nodes.items (k + p.from) (p.to - p.from))) c.first-first.ensures.first
