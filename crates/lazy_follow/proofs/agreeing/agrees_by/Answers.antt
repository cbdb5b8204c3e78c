use Rattle.std.proofs.Common.{◌≡◌, ℕ, Some, sym, subst}
use Rattle.plan_core.specs.PlanMade.{plan_value}
use Rattle.plan_core.specs.TolledRows.{row_node}
use Rattle.plan_core.specs.Valid.{kinds, a_node}
use Rattle.plan_evidence.proofs.Ways.{way_self}
use Rattle.lazy_plan.specs.Bench.{state_of, documents, binding_at}
use Rattle.lazy_follow.specs.Spotted.{nodes_of}
use Rattle.lazy_follow.proofs.Agreements.{key_compares}
use Rattle.lazy_follow.proofs.agreeing.agrees_by.Goals as goal

pub returns : goal.returns
returns c = λ places view at sp cursor tells.
    let st = state_of view c.args.bench.now in
    let ops = (plan_value c.args.bench.now.fixed.plan).ops in
    let n = c.args.evidence.now.op in
    let v = c.var_of-v.result in
    let kind : kinds ops n v ≡ Some a_node = subst (λ (u : ℕ). kinds ops n u ≡ Some a_node) (sym c.var_of-v.ensures) c.requires.node in
    let a = nodes_of st places c.args.evidence.now in
    let b = row_node (binding_at st n c.args.c.now) in
    let here = rw c.in-Some.is at (c.node_of.ensures view places at sp (way_self ops n) kind) in
    let there = c.node_in-there.ensures view at cursor in
    key_compares (documents st) a b c.args.key.now v c.var_of-v.ensures c.same_by.result (c.same_by.ensures (a v) (b v) view at here there tells)
