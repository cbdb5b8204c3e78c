use Rattle.std.proofs.Common.{◌≡◌, ℕ, Some, sym, subst}
use Rattle.plan_core.specs.PlanMade.{plan_value}
use Rattle.plan_core.specs.Valid.{kinds, a_node}
use Rattle.plan_evidence.proofs.Ways.{way_self}
use Rattle.lazy_plan.specs.Bench.{state_of, documents}
use Rattle.lazy_follow.specs.Spotted.{nodes_of}
use Rattle.lazy_follow.proofs.Agreements.{key_compares}
use Rattle.lazy_follow.proofs.agreeing.is_same_by.Goals as goal

pub returns : goal.returns
returns c = λ places others view at sp oth tells.
    let st = state_of view c.args.bench.now in
    let ops = (plan_value c.args.bench.now.fixed.plan).ops in
    let n = c.args.here.now.op in
    let m = c.args.there.now.op in
    let v = c.var_of-v.result in
    let kind : kinds ops n v ≡ Some a_node = subst (λ (u : ℕ). kinds ops n u ≡ Some a_node) (sym c.var_of-v.ensures) c.requires.here in
    let other : kinds ops m v ≡ Some a_node = subst (λ (u : ℕ). kinds ops m u ≡ Some a_node) (sym c.var_of-v.ensures) c.requires.there in
    let a = nodes_of st places c.args.here.now in
    let b = nodes_of st others c.args.there.now in
    let here = rw c.in-Some.is at (c.node_of.ensures view places at sp (way_self ops n) kind) in
    let there = rw c.in-Some-node_of.is at (c.node_of-2.ensures view others at oth (way_self ops m) other) in
    key_compares (documents st) a b c.args.key.now v c.var_of-v.ensures c.same_by.result (c.same_by.ensures (a v) (b v) view at here there tells)
