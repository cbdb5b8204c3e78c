use Rattle.std.proofs.Common.{rules, ◌≡◌, ◌∙◌, true, false, sym}
use Rattle.mix_tree.specs.Keys.{key_var}
use Rattle.plan_core.specs.TolledRows.{row_node}
use Rattle.lazy_plan.specs.Bench.{state_of, documents, binding_at}
use Rattle.lazy_seek.proofs.Testing.{one_fails, pass_more, pass_end}
use Rattle.lazy_follow.specs.Spotted.{nodes_of}
use Rattle.lazy_follow.proofs.Agreements.{agree, agree_all, has_there}
use Rattle.lazy_follow.proofs.agreeing.agrees_by_all.Goals as goal

pub agrees_by-requires-clause-node : goal.agrees_by-requires-clause-node
agrees_by-requires-clause-node c = c.requires.nodes (key_var c.key-item.result) (has_there c.args.keys.now c.loop-key.key-index c.key-item.result c.loop-key-test.true c.key-item.is)

pub returns-then-not-agrees_by : goal.returns-then-not-agrees_by
returns-then-not-agrees_by c = λ places view at sp cursor tells.
    let st = state_of view c.args.bench.now in
    let a = nodes_of st places c.args.evidence.now in
    let b = row_node (binding_at st c.args.evidence.now.op c.args.c.now) in
    let failed : c.agrees_by.result ≡ false = search rules in
    one_fails (agree (documents st) a b) c.args.keys.now c.loop-key.key-index c.key-item.result c.loop-key-test.true c.key-item.is (sym (c.agrees_by.ensures places view at sp cursor tells) ∙ failed)
    ∙ sym (agree_all (documents st) a b c.args.keys.now)

pub loop-key-preserved : goal.loop-key-preserved
loop-key-preserved c = λ places view at sp cursor tells.
    let st = state_of view c.args.bench.now in
    let a = nodes_of st places c.args.evidence.now in
    let b = row_node (binding_at st c.args.evidence.now.op c.args.c.now) in
    let passed : c.agrees_by.result ≡ true = search rules in
    c.loop-key.invariant places view at sp cursor tells
    ∙ pass_more (agree (documents st) a b) c.args.keys.now c.loop-key.key-index c.key-item.result c.loop-key-test.true c.key-item.is (sym (c.agrees_by.ensures places view at sp cursor tells) ∙ passed)

pub returns : goal.returns
returns c = λ places view at sp cursor tells.
    let st = state_of view c.args.bench.now in
    let a = nodes_of st places c.args.evidence.now in
    let b = row_node (binding_at st c.args.evidence.now.op c.args.c.now) in
    sym (agree_all (documents st) a b c.args.keys.now ∙ c.loop-key.invariant places view at sp cursor tells ∙ pass_end (agree (documents st) a b) c.args.keys.now c.loop-key.key-index c.loop-key-test.false)
