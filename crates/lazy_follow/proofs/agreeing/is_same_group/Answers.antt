use Rattle.std.proofs.Common.{rules, ◌≡◌, ◌∙◌, true, false, sym}
use Rattle.mix_tree.specs.Keys.{key_var}
use Rattle.lazy_plan.specs.Bench.{state_of, documents}
use Rattle.lazy_seek.proofs.Testing.{one_fails, pass_more, pass_end}
use Rattle.lazy_follow.specs.Spotted.{nodes_of}
use Rattle.lazy_follow.proofs.Agreements.{agree, agree_all, has_there}
use Rattle.lazy_follow.proofs.agreeing.is_same_group.Goals as goal

pub is_same_by-requires-clause-here : goal.is_same_by-requires-clause-here
is_same_by-requires-clause-here c = c.requires.here (key_var c.key-item.result) (has_there c.args.keys.now c.loop-key.key-index c.key-item.result c.loop-key-test.true c.key-item.is)

pub is_same_by-requires-clause-there : goal.is_same_by-requires-clause-there
is_same_by-requires-clause-there c = c.requires.there (key_var c.key-item.result) (has_there c.args.keys.now c.loop-key.key-index c.key-item.result c.loop-key-test.true c.key-item.is)

pub returns-then-not-is_same_by : goal.returns-then-not-is_same_by
returns-then-not-is_same_by c = λ places others view at sp oth tells.
    let st = state_of view c.args.bench.now in
    let a = nodes_of st places c.args.here.now in
    let b = nodes_of st others c.args.there.now in
    let failed : c.is_same_by.result ≡ false = search rules in
    one_fails (agree (documents st) a b) c.args.keys.now c.loop-key.key-index c.key-item.result c.loop-key-test.true c.key-item.is (sym (c.is_same_by.ensures places others view at sp oth tells) ∙ failed)
    ∙ sym (agree_all (documents st) a b c.args.keys.now)

pub loop-key-preserved : goal.loop-key-preserved
loop-key-preserved c = λ places others view at sp oth tells.
    let st = state_of view c.args.bench.now in
    let a = nodes_of st places c.args.here.now in
    let b = nodes_of st others c.args.there.now in
    let passed : c.is_same_by.result ≡ true = search rules in
    c.loop-key.invariant places others view at sp oth tells
    ∙ pass_more (agree (documents st) a b) c.args.keys.now c.loop-key.key-index c.key-item.result c.loop-key-test.true c.key-item.is (sym (c.is_same_by.ensures places others view at sp oth tells) ∙ passed)

pub returns : goal.returns
returns c = λ places others view at sp oth tells.
    let st = state_of view c.args.bench.now in
    let a = nodes_of st places c.args.here.now in
    let b = nodes_of st others c.args.there.now in
    sym (agree_all (documents st) a b c.args.keys.now ∙ c.loop-key.invariant places others view at sp oth tells ∙ pass_end (agree (documents st) a b) c.args.keys.now c.loop-key.key-index c.loop-key-test.false)
