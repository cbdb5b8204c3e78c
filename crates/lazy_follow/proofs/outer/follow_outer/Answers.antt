use Rattle.std.proofs.Common.{rules, ◌≡◌, ◌<◌, ℕ, suc, [], ap, subst, length, Some, None}
use Rattle.std.specs.List.{last_or}
use Rattle.plan_core.specs.declared.plan.Piece.TheVariants.{Var as var_piece}
use Rattle.plan_core.specs.declared.plan.Plan.{Plan}
use Rattle.plan_core.specs.PlanMade.{plan_value}
use Rattle.plan_core.specs.Shapes.{shape_at}
use Rattle.plan_core.specs.Valid.{Kind, an_element, kinds}
use Rattle.plan_evidence.specs.Named.{maker, outer_of}
use Rattle.lazy_plan.specs.Bench.{state_of}
use Rattle.lazy_follow.specs.Choosing.{IsListBy}
use Rattle.lazy_follow.specs.Ends.{IsElementBy}
use Rattle.lazy_follow.specs.Following.{list_in}
use Rattle.lazy_follow.specs.Scope.{InScope}
use Rattle.lazy_follow.proofs.FromOuter.{no_spots, outer_in, outer_ahead}
use Rattle.lazy_follow.proofs.SingleEvidence.{outer_input}
use Rattle.lazy_follow.proofs.outer.follow_outer.Goals as goal

pub of-requires-clause-op : goal.of-requires-clause-op
of-requires-clause-op g c =
    let st = state_of (g.S.Sources.view c.args.s.now) c.args.bench.now in
    let p = plan_value c.args.bench.now.fixed.plan in
    let input = c.last-input.result.0 in
    let v = c.last-input.result.1 in
    let is = subst (λ (q : Plan). outer_of (last_or None (plan_value q).ops) ≡ Some (input, v)) c.plan.ensures (ap outer_of c.last-input.ensures.last) in
    let outer = outer_input p c.requires.valid (c.valid_plans_are_typed.ensures p c.requires.valid) input v is in
    outer.early

pub follow_list-requires-clause-list : goal.follow_list-requires-clause-list
follow_list-requires-clause-list g c =
    let st = state_of (g.S.Sources.view c.args.s.now) c.args.bench.now in
    let p = plan_value c.args.bench.now.fixed.plan in
    let input = c.last-input.result.0 in
    let v = c.last-input.result.1 in
    let is = subst (λ (q : Plan). outer_of (last_or None (plan_value q).ops) ≡ Some (input, v)) c.plan.ensures (ap outer_of c.last-input.ensures.last) in
    let outer = outer_input p c.requires.valid (c.valid_plans_are_typed.ensures p c.requires.valid) input v is in
    let kind = subst (λ (q : Plan). kinds (plan_value q).ops input v ≡ Some an_element) c.plan.ensures c.last-input.ensures.kind in
    let made = (subst (λ (q : Plan). IsElementBy (plan_value q).ops v (Some c.outer_maker-element.result)) c.plan-2.ensures c.outer_maker-element.ensures).1 in
    let by = subst (λ (q : Plan). (u : ℕ) → maker (plan_value q).ops u ≡ shape_at (plan_value q).ops c.outer_maker-element.result → IsListBy (plan_value q).ops (list_in (plan_value q).ops (var_piece u)) (Some c.in-Some.op))
    c.plan-3.ensures c.in-Some.ensures.list v made in
    let scope = subst (λ (q : Plan). (n u : ℕ) (k : Kind) → suc n < length (plan_value q).ops → maker (plan_value q).ops u ≡ shape_at (plan_value q).ops c.outer_maker-element.result
    → kinds (plan_value q).ops n u ≡ Some k → InScope (plan_value q).ops n c.in-Some.op) c.plan-3.ensures c.in-Some.ensures.scope input v an_element outer.early made kind in
    let here = c.in_ok-here.ensures.spotted (g.S.Sources.view c.args.s.now) [] (no_spots st input outer.no_vars c.new.result.items c.new.ensures.items) in
    ([], outer_in st input _ c.in_ok-here.ensures.op here scope (list_in p.ops (var_piece v)) by)

pub returns-clause-answer : goal.returns-clause-answer
returns-clause-answer g c =
    let st = state_of (g.S.Sources.view c.args.s.now) c.args.bench.now in
    let p = plan_value c.args.bench.now.fixed.plan in
    let input = c.last-input.result.0 in
    let v = c.last-input.result.1 in
    let is = subst (λ (q : Plan). outer_of (last_or None (plan_value q).ops) ≡ Some (input, v)) c.plan.ensures (ap outer_of c.last-input.ensures.last) in
    let outer = outer_input p c.requires.valid (c.valid_plans_are_typed.ensures p c.requires.valid) input v is in
    let kind = subst (λ (q : Plan). kinds (plan_value q).ops input v ≡ Some an_element) c.plan.ensures c.last-input.ensures.kind in
    let made = (subst (λ (q : Plan). IsElementBy (plan_value q).ops v (Some c.outer_maker-element.result)) c.plan-2.ensures c.outer_maker-element.ensures).1 in
    let by = subst (λ (q : Plan). (u : ℕ) → maker (plan_value q).ops u ≡ shape_at (plan_value q).ops c.outer_maker-element.result → IsListBy (plan_value q).ops (list_in (plan_value q).ops (var_piece u)) (Some c.in-Some.op))
    c.plan-3.ensures c.in-Some.ensures.list v made in
    let scope = subst (λ (q : Plan). (n u : ℕ) (k : Kind) → suc n < length (plan_value q).ops → maker (plan_value q).ops u ≡ shape_at (plan_value q).ops c.outer_maker-element.result
    → kinds (plan_value q).ops n u ≡ Some k → InScope (plan_value q).ops n c.in-Some.op) c.plan-3.ensures c.in-Some.ensures.scope input v an_element outer.early made kind in
    let here = c.in_ok-here.ensures.spotted (g.S.Sources.view c.args.s.now) [] (no_spots st input outer.no_vars c.new.result.items c.new.ensures.items) in
    let d = state_of (g.S.Sources.view c.follow_list.new.s) c.follow_list.new.bench in
    let n : length c.args.ahead.now.levels.now ≡ 0 → ⊥ = search rules in
    outer_ahead st d input v is c.args.ahead.now.levels.now c.args.ahead.now.inside.now (λ e. n (ap length e)) c.follow_list.result _ (c.follow_list.ensures.answer []) c.in_ok-here.ensures.op here scope by
