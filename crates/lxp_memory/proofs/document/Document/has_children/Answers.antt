use Rattle.std.proofs.Common.{◌≡◌, ◌<◌, length, true, nat_lt, nat_le, ◌&&◌, get_or, ap, subst, sym, ◌∙◌, arith}
use Rattle.std.proofs.lemmas.Bool.Decides.{nat_tests}
use Rattle.lxp_memory.specs.Nodes.{count_of}
use Rattle.lxp_memory.proofs.NodeLaws.{node_at}
use Rattle.lxp_memory.proofs.document.Document.has_children.Goals as goal

pub returns-in-Some : goal.returns-in-Some
returns-in-Some c =
    let ns = c.args.self.now.nodes.items in
    let found = c.in-Some.ensures.lookup in
    let slice = c.deref.ensures.value in
    let within : c.args.node < length ns = subst (λ xs. c.args.node < length xs) slice found.3.0 in
    let read = node_at ns c.args.node c.in-Some.node.now within (subst (λ xs. c.in-Some.node.now ≡ get_or xs c.args.node c.in-Some.node.now) slice found.1) in
    let there : true ≡ nat_lt c.args.node (length ns) = grind (arith, nat_tests) in
    ap (λ n. nat_le c.args.count n) (sym read.count) ∙ ap (λ b. b && nat_le c.args.count (count_of ns c.args.node)) there
