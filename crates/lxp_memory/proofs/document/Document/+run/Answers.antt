use Rattle.std.proofs.Common.{rules, ◌≡◌, ◌≤◌, ◌+◌, ◌-◌, ◌<◌, length, ap, sym, ◌∙◌, arith}
use Rattle.lxp_core.specs.Open.{node, without_holes}
use Rattle.lxp_core.specs.Plain.{plain, put_all}
use Rattle.lxp_memory.specs.Nodes.{first_of, count_of, label_of, run}
use Rattle.lxp_memory.proofs.NodeLaws.{node_at}
use Rattle.lxp_memory.proofs.CutSteps.{run-node}
use Rattle.lxp_memory.proofs.document.Document.+run.Goals as goal

pub run-requires : goal.run-requires
run-requires t c =
    let ns = c.args.self.now.nodes.items in
    let read = node_at ns c.loop-i.i _ (omega arith) c.index.ensures in
    let within : c.first.result + c.index.result.now.count ≤ length ns = omega (arith, read.count, c.first.ensures.within) in
    let after : length ns - c.first.result < length ns - c.args.first = omega (arith, c.first.ensures.after) in
    search rules

pub loop-i-preserved : goal.loop-i-preserved
loop-i-preserved t c =
    let ns = c.args.self.now.nodes.items in
    let before = c.loop-i.list.items in
    let i = c.loop-i.i in
    let read = node_at ns i _ (omega arith) c.index.ensures in
    let m = c.args.first + c.args.count - (i + 1) in
    let next : m + 1 ≡ c.args.first + c.args.count - i = omega arith in
    let below : plain c.in_ok-kids.kids.items ≡ without_holes (run ns (first_of ns i) (count_of ns i)) =
    c.in_ok-kids.ensures
    ∙ ap (λ f. without_holes (run ns f c.index.result.now.count)) c.first.ensures.first
    ∙ ap (λ n. without_holes (run ns (first_of ns i) n)) (sym read.count) in
    c.in_ok-push_node.ensures (without_holes (run ns (i + 1) m))
    ∙ ap (λ o. put_all before (node (label_of ns i) o (without_holes (run ns (i + 1) m)))) below
    ∙ ap (put_all before) (run-node ns i m (omega arith))
    ∙ ap (λ k. put_all before (without_holes (run ns i k))) next
    ∙ c.loop-i.invariant
