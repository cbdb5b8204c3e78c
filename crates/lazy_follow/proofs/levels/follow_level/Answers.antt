use Rattle.std.proofs.Common.{◌∙◌, ℕ, List, sym, ap, subst}
use Rattle.node_text.specs.Node.{LevelValue}
use Rattle.plan_core.specs.PlanMade.{plan_value}
use Rattle.lazy_plan.specs.Bench.{state_of}
use Rattle.lazy_follow.specs.Levels.{LeadsNowhere}
use Rattle.lazy_follow.specs.Members.{IsMemberOf, IsEvidenceAt}
use Rattle.lazy_follow.proofs.Groups.{chosen_of, scope_of, group_of}
use Rattle.lazy_follow.proofs.levels.follow_level.Goals as goal

pub member-requires-clause-group : goal.member-requires-clause-group
member-requires-clause-group g c =
    let st = state_of (g.S.Sources.view c.args.s.now) c.args.bench.now in
    let p = plan_value c.args.bench.now.fixed.plan in
    let places = c.requires.list.0 in
    let h = c.requires.list.1 in
    let chosen = chosen_of c.plan.result.now c.args.bench.now.fixed.plan c.plan.ensures c.args.from.now.op h.list c.args.level.now _ _ c.in-Member.is h.is_list (λ e. c.choose.ensures.chosen h.list e) in
    let group = group_of st places c.args.from.now c.requires.bench.valid h c.in-Member.op chosen.0 (scope_of c.plan.result.now c.args.bench.now.fixed.plan c.plan.ensures c.args.from.now.op _ _ c.in-Member.is c.choose.ensures.scope) in
    (places, group)

pub returns-in-Tree-clause-answer : goal.returns-in-Tree-clause-answer
returns-in-Tree-clause-answer g c = λ places h.
    let chosen = chosen_of c.plan.result.now c.args.bench.now.fixed.plan c.plan.ensures c.args.from.now.op h.list c.args.level.now _ _ c.in-Tree.is h.is_list (λ e. c.choose.ensures.chosen h.list e) in
    let scope = scope_of c.plan.result.now c.args.bench.now.fixed.plan c.plan.ensures c.args.from.now.op _ _ c.in-Tree.is c.choose.ensures.scope in
    (chosen.0, (λ v kind k. h.scope v kind (scope v kind k)), chosen.1)

pub returns-in-Among-clause-answer : goal.returns-in-Among-clause-answer
returns-in-Among-clause-answer g c = λ places h.
    let chosen = chosen_of c.plan.result.now c.args.bench.now.fixed.plan c.plan.ensures c.args.from.now.op h.list c.args.level.now _ _ c.in-Among.is h.is_list (λ e. c.choose.ensures.chosen h.list e) in
    let scope = scope_of c.plan.result.now c.args.bench.now.fixed.plan c.plan.ensures c.args.from.now.op _ _ c.in-Among.is c.choose.ensures.scope in
    (chosen.0, (λ v kind k. h.scope v kind (scope v kind k)), chosen.1)

pub returns-in_default-clause-answer : goal.returns-in_default-clause-answer
returns-in_default-clause-answer g c = λ places h tells.
    let st = state_of (g.S.Sources.view c.args.s.now) c.args.bench.now in
    let p = plan_value c.args.bench.now.fixed.plan in
    let chosen = chosen_of c.plan.result.now c.args.bench.now.fixed.plan c.plan.ensures c.args.from.now.op h.list c.args.level.now _ _ c.in-Member.is h.is_list (λ e. c.choose.ensures.chosen h.list e) in
    let group = group_of st places c.args.from.now c.requires.bench.valid h c.in-Member.op chosen.0 (scope_of c.plan.result.now c.args.bench.now.fixed.plan c.plan.ensures c.args.from.now.op _ _ c.in-Member.is c.choose.ensures.scope) in
    let tuple = c.deref.ensures.value ∙ ap (λ (x : LevelValue). x.tuple) c.level.view_is in
    let none = (rw c.in_default.is at (c.in_ok-there-in-Member.ensures.answer places group)) tells in
    subst (LeadsNowhere st places c.args.from.now c.args.level.now.tuple) (sym chosen.1)
    (λ met. none (subst (IsMemberOf st places (record { op = c.in-Member.op; here = c.args.from.now.here })) (sym tuple) met))

pub returns-in-Some-clause-answer : goal.returns-in-Some-clause-answer
returns-in-Some-clause-answer g c = λ places h.
    let st = state_of (g.S.Sources.view c.args.s.now) c.args.bench.now in
    let p = plan_value c.args.bench.now.fixed.plan in
    let new = state_of (g.S.Sources.view c.member.new.s) c.member.new.bench in
    let chosen = chosen_of c.plan.result.now c.args.bench.now.fixed.plan c.plan.ensures c.args.from.now.op h.list c.args.level.now _ _ c.in-Member.is h.is_list (λ e. c.choose.ensures.chosen h.list e) in
    let group = group_of st places c.args.from.now c.requires.bench.valid h c.in-Member.op chosen.0 (scope_of c.plan.result.now c.args.bench.now.fixed.plan c.plan.ensures c.args.from.now.op _ _ c.in-Member.is c.choose.ensures.scope) in
    let tuple = c.deref.ensures.value ∙ ap (λ (x : LevelValue). x.tuple) c.level.view_is in
    let there = rw c.in-Some.is at c.in_ok-there-in-Member.ensures.spots in
    let met = rw c.in-Some.is at (c.in_ok-there-in-Member.ensures.answer places group) in (
      chosen.0,
      chosen.1,
      subst (λ (t : List (List ℕ)). IsEvidenceAt new c.in-Member.op t c.in-Some.there) tuple there,
      λ tells. subst (IsMemberOf st places (record { op = c.in-Member.op; here = c.args.from.now.here })) tuple (met tells),
    )
