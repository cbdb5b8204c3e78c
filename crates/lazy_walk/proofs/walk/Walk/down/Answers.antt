use Rattle.plan_core.specs.PlanMade.{plan_value}
use Rattle.lazy_plan.specs.Bench.{documents}
use Rattle.lazy_plan.specs.Bench as bench
use Rattle.lazy_walk.specs.Walks.{state_of, plan_of}
use Rattle.lazy_walk.specs.declared.ids.WalkedNode.{WalkedNode}
use Rattle.lazy_walk.proofs.AboveSteps.{child_above, child_node}
use Rattle.lazy_walk.proofs.Walks.{walk_goes_on}
use Rattle.lazy_walk.proofs.Placing.{down_asks, down_none, down_some}
use Rattle.lazy_walk.proofs.walk.Walk.down.Goals as goal

pub returns-in_err-first_child-clause-walked : goal.returns-in_err-first_child-clause-walked
returns-in_err-first_child-clause-walked g c = walk_goes_on g.met.S.Sources.keeps c.args.s.now c.first_child.new.s c.args.self.now (record { bench = c.first_child.new.bench }) _ c.requires.walk c.first_child.ensures.walked

pub returns-in_err-first_child-clause-lazy : goal.returns-in_err-first_child-clause-lazy
returns-in_err-first_child-clause-lazy g c = λ p h. down_asks (state_of (g.S.Sources.view c.args.s.now) c.args.self.now) (c.tolled_is_document.ensures (plan_value (plan_of c.args.self.now)) c.requires.walk.valid (documents (state_of (g.S.Sources.view c.args.s.now) c.args.self.now))) c.args.n.now p h (bench.state_of (g.S.Sources.view c.first_child.new.s) c.first_child.new.bench) c.first_child.ensures.walked.asks

pub returns-in-None-clause-walked : goal.returns-in-None-clause-walked
returns-in-None-clause-walked g c = walk_goes_on g.met.S.Sources.keeps c.args.s.now c.first_child.new.s c.args.self.now (record { bench = c.first_child.new.bench }) _ c.requires.walk c.first_child.ensures.walked

pub returns-in-None-clause-lazy : goal.returns-in-None-clause-lazy
returns-in-None-clause-lazy g c = λ p h. down_asks (state_of (g.S.Sources.view c.args.s.now) c.args.self.now) (c.tolled_is_document.ensures (plan_value (plan_of c.args.self.now)) c.requires.walk.valid (documents (state_of (g.S.Sources.view c.args.s.now) c.args.self.now))) c.args.n.now p h (bench.state_of (g.S.Sources.view c.first_child.new.s) c.first_child.new.bench) c.first_child.ensures.walked.asks

pub returns-in_err-above-in-Some-clause-walked : goal.returns-in_err-above-in-Some-clause-walked
returns-in_err-above-in-Some-clause-walked g c = walk_goes_on g.met.S.Sources.keeps c.args.s.now c.first_child.new.s c.args.self.now (record { bench = c.first_child.new.bench }) _ c.requires.walk c.first_child.ensures.walked

pub returns-in_ok-above-in-Some-clause-walked : goal.returns-in_ok-above-in-Some-clause-walked
returns-in_ok-above-in-Some-clause-walked g c = walk_goes_on g.met.S.Sources.keeps c.args.s.now c.first_child.new.s c.args.self.now (record { bench = c.first_child.new.bench }) _ c.requires.walk c.first_child.ensures.walked

pub returns-in_err-above-in-Some-clause-lazy : goal.returns-in_err-above-in-Some-clause-lazy
returns-in_err-above-in-Some-clause-lazy g c = λ p h. down_asks (state_of (g.S.Sources.view c.args.s.now) c.args.self.now) (c.tolled_is_document.ensures (plan_value (plan_of c.args.self.now)) c.requires.walk.valid (documents (state_of (g.S.Sources.view c.args.s.now) c.args.self.now))) c.args.n.now p h (bench.state_of (g.S.Sources.view c.first_child.new.s) c.first_child.new.bench) c.first_child.ensures.walked.asks

pub returns-in_ok-above-in-Some-clause-lazy : goal.returns-in_ok-above-in-Some-clause-lazy
returns-in_ok-above-in-Some-clause-lazy g c = λ p h. down_asks (state_of (g.S.Sources.view c.args.s.now) c.args.self.now) (c.tolled_is_document.ensures (plan_value (plan_of c.args.self.now)) c.requires.walk.valid (documents (state_of (g.S.Sources.view c.args.s.now) c.args.self.now))) c.args.n.now p h (bench.state_of (g.S.Sources.view c.first_child.new.s) c.first_child.new.bench) c.first_child.ensures.walked.asks

pub returns-in-None-clause-place : goal.returns-in-None-clause-place
returns-in-None-clause-place g c = λ p h y. down_none (state_of (g.S.Sources.view c.args.s.now) c.args.self.now) (bench.state_of (g.S.Sources.view c.first_child.new.s) c.first_child.new.bench) c.first_child.ensures.walked.kept (c.tolled_is_document.ensures (plan_value (plan_of c.args.self.now)) c.requires.walk.valid (documents (state_of (g.S.Sources.view c.args.s.now) c.args.self.now))) c.args.n.now p h (rw c.in-None.is at c.in_ok-first_child.ensures.answer) y

pub returns-in_ok-above-in-Some-clause-node : goal.returns-in_ok-above-in-Some-clause-node
returns-in_ok-above-in-Some-clause-node g c =
    let a = state_of (g.S.Sources.view c.args.s.now) c.args.self.now in
    let b = bench.state_of (g.S.Sources.view c.first_child.new.s) c.first_child.new.bench in
    let m : WalkedNode = record { site = c.in-Some.site; above = c.in_ok-above-in-Some.above } in
    let there = rw c.in-Some.is at c.in_ok-first_child.ensures.answer in
    let list = rw c.in-Some.is at c.in_ok-first_child.ensures.list in
    let above = c.in_ok-above-in-Some.ensures in
    child_node a b c.first_child.ensures.walked.kept c.args.n.now m c.requires.node list there.node above.rests above.top

pub returns-in_ok-above-in-Some-clause-place : goal.returns-in_ok-above-in-Some-clause-place
returns-in_ok-above-in-Some-clause-place g c =
    let a = state_of (g.S.Sources.view c.args.s.now) c.args.self.now in
    let b = bench.state_of (g.S.Sources.view c.first_child.new.s) c.first_child.new.bench in
    let m : WalkedNode = record { site = c.in-Some.site; above = c.in_ok-above-in-Some.above } in
    let there = rw c.in-Some.is at c.in_ok-first_child.ensures.answer in
    let list = rw c.in-Some.is at c.in_ok-first_child.ensures.list in
    let above = c.in_ok-above-in-Some.ensures in
    let kept = c.first_child.ensures.walked.kept in
    let node = child_node a b kept c.args.n.now m c.requires.node list there.node above.rests above.top in
    let known = c.requires.walk in
    λ p h y. down_some a b kept (c.tolled_is_document.ensures (plan_value (plan_of c.args.self.now)) known.valid (documents a)) c.args.n.now p h m there node
    (child_above a b kept c.args.n.now m known.valid known.fixed.typed known.bench p h list there above.rests above.top y) y
