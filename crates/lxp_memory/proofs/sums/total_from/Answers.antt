use Rattle.std.proofs.Common.{arith}
use Rattle.lxp_memory.proofs.NodeLaws.{node_at}
use Rattle.lxp_memory.proofs.Totals.{total_step}
use Rattle.lxp_memory.proofs.sums.total_from.Goals as goal

pub overflow_add-first-2 : goal.overflow_add-first-2
overflow_add-first-2 c =
    let ns = c.args.nodes.now in
    let read = node_at ns c.args.at _ c.requires.node c.index-nodes-at.is in
    let step = total_step ns c.args.sums.now c.args.at _ c.requires.node c.requires.within c.requires.after read in
    omega (arith, step.end, step.less, step.whole, step.bound, c.requires.count, c.requires.bound)

pub offset_bounds-sums-first : goal.offset_bounds-sums-first
offset_bounds-sums-first c =
    let ns = c.args.nodes.now in
    let read = node_at ns c.args.at _ c.requires.node c.index-nodes-at.is in
    let step = total_step ns c.args.sums.now c.args.at _ c.requires.node c.requires.within c.requires.after read in
    omega (arith, step.end, step.less, step.whole, step.bound, c.requires.count, c.requires.bound)

pub bounds-sums-first : goal.bounds-sums-first
bounds-sums-first c =
    let ns = c.args.nodes.now in
    let read = node_at ns c.args.at _ c.requires.node c.index-nodes-at.is in
    let step = total_step ns c.args.sums.now c.args.at _ c.requires.node c.requires.within c.requires.after read in
    omega (arith, step.end, step.less, step.whole, step.bound, c.requires.count, c.requires.bound)

pub overflow_add-below : goal.overflow_add-below
overflow_add-below c =
    let ns = c.args.nodes.now in
    let read = node_at ns c.args.at _ c.requires.node c.index-nodes-at.is in
    let step = total_step ns c.args.sums.now c.args.at _ c.requires.node c.requires.within c.requires.after read in
    omega (arith, step.end, step.less, step.whole, step.bound, c.requires.count, c.requires.bound)

pub offset_bounds-sums-first-2 : goal.offset_bounds-sums-first-2
offset_bounds-sums-first-2 c =
    let ns = c.args.nodes.now in
    let read = node_at ns c.args.at _ c.requires.node c.index-nodes-at.is in
    let step = total_step ns c.args.sums.now c.args.at _ c.requires.node c.requires.within c.requires.after read in
    omega (arith, step.end, step.less, step.whole, step.bound, c.requires.count, c.requires.bound)

pub bounds-sums-first-2 : goal.bounds-sums-first-2
bounds-sums-first-2 c =
    let ns = c.args.nodes.now in
    let read = node_at ns c.args.at _ c.requires.node c.index-nodes-at.is in
    let step = total_step ns c.args.sums.now c.args.at _ c.requires.node c.requires.within c.requires.after read in
    omega (arith, step.end, step.less, step.whole, step.bound, c.requires.count, c.requires.bound)

pub overflow_sub-below : goal.overflow_sub-below
overflow_sub-below c =
    let ns = c.args.nodes.now in
    let read = node_at ns c.args.at _ c.requires.node c.index-nodes-at.is in
    let step = total_step ns c.args.sums.now c.args.at _ c.requires.node c.requires.within c.requires.after read in
    omega (arith, step.end, step.less, step.whole, step.bound, c.requires.count, c.requires.bound)

pub overflow_add-result-2 : goal.overflow_add-result-2
overflow_add-result-2 c =
    let ns = c.args.nodes.now in
    let read = node_at ns c.args.at _ c.requires.node c.index-nodes-at.is in
    let step = total_step ns c.args.sums.now c.args.at _ c.requires.node c.requires.within c.requires.after read in
    omega (arith, step.end, step.less, step.whole, step.bound, c.requires.count, c.requires.bound)

pub overflow_add-result-3 : goal.overflow_add-result-3
overflow_add-result-3 c =
    let ns = c.args.nodes.now in
    let read = node_at ns c.args.at _ c.requires.node c.index-nodes-at.is in
    let step = total_step ns c.args.sums.now c.args.at _ c.requires.node c.requires.within c.requires.after read in
    omega (arith, step.end, step.less, step.whole, step.bound, c.requires.count, c.requires.bound)

pub returns : goal.returns
returns c =
    let ns = c.args.nodes.now in
    let read = node_at ns c.args.at _ c.requires.node c.index-nodes-at.is in
    let step = total_step ns c.args.sums.now c.args.at _ c.requires.node c.requires.within c.requires.after read in
    step.whole
