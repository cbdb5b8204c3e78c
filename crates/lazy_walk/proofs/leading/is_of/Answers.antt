use Rattle.std.proofs.Common.{◌≡◌, ◌∙◌, ap, sym, subst, arith, true}
use Rattle.std.specs.Prelude.{Bool, ◌==◌, ◌&&◌}
use Rattle.std.proofs.lemmas.Bool.Decides.{nat_tests}
use Rattle.plan_core.specs.TolledRows.{key_values, same_values}
use Rattle.plan_evidence.specs.Held.{held, node_values}
use Rattle.lazy_follow.specs.Spotted.{nodes_of}
use Rattle.lazy_plan.specs.Bench.{state_of, documents, ops_of, IsCursor, binding_at}
use Rattle.lazy_walk.specs.Leading.{IsAgreed}
use Rattle.lazy_walk.proofs.leading.is_of.Goals as goal

pub returns-then-e-op : goal.returns-then-e-op
returns-then-e-op c = λ places view h cursor y.
    (let st = state_of view c.args.bench.now in
    let e = c.in-Some.e in
    let same : e.op ≡ c.args.op = c.if-e-op.true in
    let test : (e.op == c.args.op) ≡ true = grind (arith, nat_tests, same) in
    let own = subst (λ n. IsCursor st n c.args.at.now) (sym same) cursor in
    subst (λ m. IsAgreed st places c.args.op c.args.at.now m c.agrees.result) (sym c.in-Some.is)
    (λ spotted.
    c.agrees.ensures places view h spotted own y
    ∙ ap (λ (t : Bool). t && same_values (node_values (documents st) (held (ops_of st) e.op) (nodes_of st places e)) (key_values (documents st) (held (ops_of st) e.op) (binding_at st e.op c.args.at.now))) (sym test)
    ∙ ap (λ (n : _). (e.op == c.args.op) && same_values (node_values (documents st) (held (ops_of st) e.op) (nodes_of st places e)) (key_values (documents st) (held (ops_of st) e.op) (binding_at st n c.args.at.now))) same))
