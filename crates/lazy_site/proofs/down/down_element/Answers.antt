use Rattle.std.proofs.Common.{ℕ, ◌≡◌, false, ◌∙◌, sym, ap, subst}
use Rattle.std.specs.Prelude.{IsTrue}
use Rattle.plan_core.specs.declared.plan.Plan.{Plan}
use Rattle.plan_core.specs.PlanMade.{plan_value}
use Rattle.plan_core.specs.ByNumber.{op_at}
use Rattle.plan_core.specs.Tolled.{Tolled, is_item}
use Rattle.lazy_plan.specs.Bench.{state_of, told, IsCursor}
use Rattle.plan_forms.specs.Forms.{input_at, pieces_of}
use Rattle.lazy_site.specs.Ids.{element_trees, rest_trees}
use Rattle.lazy_site.specs.Steps.{StandsFor, Reaches}
use Rattle.lazy_site.proofs.Heads.{if_ok}
use Rattle.lazy_site.proofs.Turns.{walked_then}
use Rattle.lazy_site.proofs.Downs.{element_is, end_rest, goes_as, on_paid, on_reaches}
use Rattle.std.proofs.Common.{length, arith}
use Rattle.lazy_plan.specs.Bench.{ops_of}
use Rattle.lazy_site.specs.Heights.{rest_rank, GivesRanked}
use Rattle.lazy_site.proofs.Heights.{origin_ranked, gives_ranked}
use Rattle.lazy_site.specs.Standing.{TurnIsIn}
use Rattle.lazy_site.proofs.DownIn.{entered_in, option_weaker}
use Rattle.lazy_site.proofs.down.down_element.Goals as goal

pub returns-in-Over-clause-answer : goal.returns-in-Over-clause-answer
returns-in-Over-clause-answer g c =
    let view = g.S.Sources.view c.args.s.now in
    let st = state_of view c.args.bench.now in
    let input = c.input_of-input.ensures ∙ ap (λ (p : Plan). input_at (plan_value p).ops c.args.op) c.plan.ensures in
    let o = c.in_ok-origin.ensures view c.requires.bench (subst (λ (n : ℕ). IsCursor st n c.args.at.now) (sym input) c.requires.stands.cursor) in
    let is = element_is st c.args.op c.element_list-list.result c.input_of-input.result c.args.at.now c.in_ok-origin.origin c.in_ok-end.end.value (ap (λ (p : Plan). pieces_of (op_at (plan_value p).ops c.args.op)) (sym c.plan-2.ensures) ∙ c.element_list-list.ensures) input o c.in_ok-end.ensures in
    subst (λ (f : Tolled). IsTrue (told st) → is_item f ≡ false) is
    (rw c.in-Over.is at c.in_ok-enter.ensures.answer view c.requires.bench o.origin (end_rest st c.in_ok-end.end.value c.in_ok-end.ensures))

pub returns-in-At-clause-answer : goal.returns-in-At-clause-answer
returns-in-At-clause-answer g c = subst (λ (f : Tolled). StandsFor (state_of (g.S.Sources.view c.args.s.now) c.args.bench.now) (state_of (g.S.Sources.view c.args.s.now) c.args.bench.now) f c.in-At.n) (element_is (state_of (g.S.Sources.view c.args.s.now) c.args.bench.now) c.args.op c.element_list-list.result c.input_of-input.result c.args.at.now c.in_ok-origin.origin c.in_ok-end.end.value (ap (λ (p : Plan). pieces_of (op_at (plan_value p).ops c.args.op)) (sym c.plan-2.ensures) ∙ c.element_list-list.ensures) (c.input_of-input.ensures ∙ ap (λ (p : Plan). input_at (plan_value p).ops c.args.op) c.plan.ensures) (c.in_ok-origin.ensures (g.S.Sources.view c.args.s.now) c.requires.bench (subst (λ (n : ℕ). IsCursor (state_of (g.S.Sources.view c.args.s.now) c.args.bench.now) n c.args.at.now) (sym (c.input_of-input.ensures ∙ ap (λ (p : Plan). input_at (plan_value p).ops c.args.op) c.plan.ensures)) c.requires.stands.cursor)) c.in_ok-end.ensures) (rw c.in-At.is at (let o = (c.in_ok-origin.ensures (g.S.Sources.view c.args.s.now) c.requires.bench (subst (λ (n : ℕ). IsCursor (state_of (g.S.Sources.view c.args.s.now) c.args.bench.now) n c.args.at.now) (sym (c.input_of-input.ensures ∙ ap (λ (p : Plan). input_at (plan_value p).ops c.args.op) c.plan.ensures)) c.requires.stands.cursor)) in c.in_ok-enter.ensures.answer (g.S.Sources.view c.args.s.now) c.requires.bench o.origin (end_rest (state_of (g.S.Sources.view c.args.s.now) c.args.bench.now) c.in_ok-end.end.value c.in_ok-end.ensures)))

pub first_node-requires-clause-rest : goal.first_node-requires-clause-rest
first_node-requires-clause-rest g c = (let h = rw c.in-On.is at (let o = (c.in_ok-origin.ensures (g.S.Sources.view c.args.s.now) c.requires.bench (subst (λ (n : ℕ). IsCursor (state_of (g.S.Sources.view c.args.s.now) c.args.bench.now) n c.args.at.now) (sym (c.input_of-input.ensures ∙ ap (λ (p : Plan). input_at (plan_value p).ops c.args.op) c.plan.ensures)) c.requires.stands.cursor)) in c.in_ok-enter.ensures.answer (g.S.Sources.view c.args.s.now) c.requires.bench o.origin (end_rest (state_of (g.S.Sources.view c.args.s.now) c.args.bench.now) c.in_ok-end.end.value c.in_ok-end.ensures)) in h.rest)

pub returns-clause-walked : goal.returns-clause-walked
returns-clause-walked g c = walked_then g.met.S.Sources.after (g.met.S.Sources.same c.args.s.now) (on_paid (state_of (g.S.Sources.view c.args.s.now) c.args.bench.now) (element_trees (state_of (g.S.Sources.view c.args.s.now) c.args.bench.now) c.args.op c.args.at.now) _ c.in-On.rest.value (goes_as (state_of (g.S.Sources.view c.args.s.now) c.args.bench.now) _ (element_trees (state_of (g.S.Sources.view c.args.s.now) c.args.bench.now) c.args.op c.args.at.now) _ c.in-On.rest.value (element_is (state_of (g.S.Sources.view c.args.s.now) c.args.bench.now) c.args.op c.element_list-list.result c.input_of-input.result c.args.at.now c.in_ok-origin.origin c.in_ok-end.end.value (ap (λ (p : Plan). pieces_of (op_at (plan_value p).ops c.args.op)) (sym c.plan-2.ensures) ∙ c.element_list-list.ensures) (c.input_of-input.ensures ∙ ap (λ (p : Plan). input_at (plan_value p).ops c.args.op) c.plan.ensures) (c.in_ok-origin.ensures (g.S.Sources.view c.args.s.now) c.requires.bench (subst (λ (n : ℕ). IsCursor (state_of (g.S.Sources.view c.args.s.now) c.args.bench.now) n c.args.at.now) (sym (c.input_of-input.ensures ∙ ap (λ (p : Plan). input_at (plan_value p).ops c.args.op) c.plan.ensures)) c.requires.stands.cursor)) c.in_ok-end.ensures) (rw c.in-On.is at (let o = (c.in_ok-origin.ensures (g.S.Sources.view c.args.s.now) c.requires.bench (subst (λ (n : ℕ). IsCursor (state_of (g.S.Sources.view c.args.s.now) c.args.bench.now) n c.args.at.now) (sym (c.input_of-input.ensures ∙ ap (λ (p : Plan). input_at (plan_value p).ops c.args.op) c.plan.ensures)) c.requires.stands.cursor)) in c.in_ok-enter.ensures.answer (g.S.Sources.view c.args.s.now) c.requires.bench o.origin (end_rest (state_of (g.S.Sources.view c.args.s.now) c.args.bench.now) c.in_ok-end.end.value c.in_ok-end.ensures))))) c.first_node.ensures.walked

pub returns-clause-answer : goal.returns-clause-answer
returns-clause-answer g c =
    if_ok c.first_node.result (Reaches (state_of (g.S.Sources.view c.args.s.now) c.args.bench.now) (state_of (g.S.Sources.view c.first_node.new.s) c.first_node.new.bench) (rest_trees (state_of (g.S.Sources.view c.args.s.now) c.args.bench.now) c.in-On.rest.value)) (Reaches (state_of (g.S.Sources.view c.args.s.now) c.args.bench.now) (state_of (g.S.Sources.view c.first_node.new.s) c.first_node.new.bench) (element_trees (state_of (g.S.Sources.view c.args.s.now) c.args.bench.now) c.args.op c.args.at.now))
    (on_reaches (state_of (g.S.Sources.view c.args.s.now) c.args.bench.now) (state_of (g.S.Sources.view c.first_node.new.s) c.first_node.new.bench) (element_trees (state_of (g.S.Sources.view c.args.s.now) c.args.bench.now) c.args.op c.args.at.now) (rest_trees (state_of (g.S.Sources.view c.args.s.now) c.args.bench.now) c.in-On.rest.value) (on_paid (state_of (g.S.Sources.view c.args.s.now) c.args.bench.now) (element_trees (state_of (g.S.Sources.view c.args.s.now) c.args.bench.now) c.args.op c.args.at.now) _ c.in-On.rest.value (goes_as (state_of (g.S.Sources.view c.args.s.now) c.args.bench.now) _ (element_trees (state_of (g.S.Sources.view c.args.s.now) c.args.bench.now) c.args.op c.args.at.now) _ c.in-On.rest.value (element_is (state_of (g.S.Sources.view c.args.s.now) c.args.bench.now) c.args.op c.element_list-list.result c.input_of-input.result c.args.at.now c.in_ok-origin.origin c.in_ok-end.end.value (ap (λ (p : Plan). pieces_of (op_at (plan_value p).ops c.args.op)) (sym c.plan-2.ensures) ∙ c.element_list-list.ensures) (c.input_of-input.ensures ∙ ap (λ (p : Plan). input_at (plan_value p).ops c.args.op) c.plan.ensures) (c.in_ok-origin.ensures (g.S.Sources.view c.args.s.now) c.requires.bench (subst (λ (n : ℕ). IsCursor (state_of (g.S.Sources.view c.args.s.now) c.args.bench.now) n c.args.at.now) (sym (c.input_of-input.ensures ∙ ap (λ (p : Plan). input_at (plan_value p).ops c.args.op) c.plan.ensures)) c.requires.stands.cursor)) c.in_ok-end.ensures) (rw c.in-On.is at (let o = (c.in_ok-origin.ensures (g.S.Sources.view c.args.s.now) c.requires.bench (subst (λ (n : ℕ). IsCursor (state_of (g.S.Sources.view c.args.s.now) c.args.bench.now) n c.args.at.now) (sym (c.input_of-input.ensures ∙ ap (λ (p : Plan). input_at (plan_value p).ops c.args.op) c.plan.ensures)) c.requires.stands.cursor)) in c.in_ok-enter.ensures.answer (g.S.Sources.view c.args.s.now) c.requires.bench o.origin (end_rest (state_of (g.S.Sources.view c.args.s.now) c.args.bench.now) c.in_ok-end.end.value c.in_ok-end.ensures)))))) c.first_node.ensures.answer

pub returns-in-At-clause-rank : goal.returns-in-At-clause-rank
returns-in-At-clause-rank g c = (rw c.in-At.is at c.in_ok-enter.ensures.rank) c.args.op (origin_ranked (ops_of (state_of (g.S.Sources.view c.args.s.now) c.args.bench.now)) c.requires.bench.fixed.typed c.args.op c.input_of-input.result 0 c.requires.stands.within
    (let e = ap length (ap (λ (p : Plan). pieces_of (op_at (plan_value p).ops c.args.op)) (sym c.plan-2.ensures) ∙ c.element_list-list.ensures) in omega (arith, e))
    (c.input_of-input.ensures ∙ ap (λ (p : Plan). input_at (plan_value p).ops c.args.op) c.plan.ensures) c.in_ok-origin.origin (let o = (c.in_ok-origin.ensures (g.S.Sources.view c.args.s.now) c.requires.bench (subst (λ (n : ℕ). IsCursor (state_of (g.S.Sources.view c.args.s.now) c.args.bench.now) n c.args.at.now) (sym (c.input_of-input.ensures ∙ ap (λ (p : Plan). input_at (plan_value p).ops c.args.op) c.plan.ensures)) c.requires.stands.cursor)) in o.rank)) (let e = ap rest_rank c.in_ok-end.ensures in omega (arith, e))

pub returns-clause-rank : goal.returns-clause-rank
returns-clause-rank g c =
    let l = (rw c.in-On.is at c.in_ok-enter.ensures.rank) c.args.op (origin_ranked (ops_of (state_of (g.S.Sources.view c.args.s.now) c.args.bench.now)) c.requires.bench.fixed.typed c.args.op c.input_of-input.result 0 c.requires.stands.within
    (let e = ap length (ap (λ (p : Plan). pieces_of (op_at (plan_value p).ops c.args.op)) (sym c.plan-2.ensures) ∙ c.element_list-list.ensures) in omega (arith, e))
    (c.input_of-input.ensures ∙ ap (λ (p : Plan). input_at (plan_value p).ops c.args.op) c.plan.ensures) c.in_ok-origin.origin (let o = (c.in_ok-origin.ensures (g.S.Sources.view c.args.s.now) c.requires.bench (subst (λ (n : ℕ). IsCursor (state_of (g.S.Sources.view c.args.s.now) c.args.bench.now) n c.args.at.now) (sym (c.input_of-input.ensures ∙ ap (λ (p : Plan). input_at (plan_value p).ops c.args.op) c.plan.ensures)) c.requires.stands.cursor)) in o.rank)) (let e = ap rest_rank c.in_ok-end.ensures in omega (arith, e)) in
    if_ok c.first_node.result (GivesRanked (rest_rank c.in-On.rest.value)) (GivesRanked c.args.op) (gives_ranked (rest_rank c.in-On.rest.value) c.args.op l) c.first_node.ensures.rank

pub enter-requires : goal.enter-requires
enter-requires g c =
    let o = (c.in_ok-origin.ensures (g.S.Sources.view c.args.s.now) c.requires.bench (subst (λ (n : ℕ). IsCursor (state_of (g.S.Sources.view c.args.s.now) c.args.bench.now) n c.args.at.now) (sym (c.input_of-input.ensures ∙ ap (λ (p : Plan). input_at (plan_value p).ops c.args.op) c.plan.ensures)) c.requires.stands.cursor)) in
    record { bench = (g.S.Sources.view c.args.s.now, c.requires.bench, (o.origin, end_rest (state_of (g.S.Sources.view c.args.s.now) c.args.bench.now) c.in_ok-end.end.value c.in_ok-end.ensures)) }

pub returns-in-At-clause-list : goal.returns-in-At-clause-list
returns-in-At-clause-list g c =
    let st = state_of (g.S.Sources.view c.args.s.now) c.args.bench.now in
    let input = c.input_of-input.ensures ∙ ap (λ (p : Plan). input_at (plan_value p).ops c.args.op) c.plan.ensures in
    let turn = entered_in st c.args.op c.element_list-list.result c.input_of-input.result c.args.at.now c.in_ok-origin.origin c.in_ok-end.end.value (ap (λ (p : Plan). pieces_of (op_at (plan_value p).ops c.args.op)) (sym c.plan-2.ensures) ∙ c.element_list-list.ensures) input (c.in_ok-origin.ensures (g.S.Sources.view c.args.s.now) c.requires.bench (subst (λ (m : ℕ). IsCursor st m c.args.at.now) (sym input) c.requires.stands.cursor)) c.in_ok-end.ensures c.in_ok-enter.field-0 (c.in_ok-enter.ensures.list (g.S.Sources.view c.args.s.now) c.requires.bench) in
    λ n d u list holder below ps is. subst (TurnIsIn st n d list) c.in-At.is (turn n d u list holder below ps is)

pub returns-clause-list : goal.returns-clause-list
returns-clause-list g c =
    let st = state_of (g.S.Sources.view c.args.s.now) c.args.bench.now in
    let input = c.input_of-input.ensures ∙ ap (λ (p : Plan). input_at (plan_value p).ops c.args.op) c.plan.ensures in
    let turn = entered_in st c.args.op c.element_list-list.result c.input_of-input.result c.args.at.now c.in_ok-origin.origin c.in_ok-end.end.value (ap (λ (p : Plan). pieces_of (op_at (plan_value p).ops c.args.op)) (sym c.plan-2.ensures) ∙ c.element_list-list.ensures) input (c.in_ok-origin.ensures (g.S.Sources.view c.args.s.now) c.requires.bench (subst (λ (m : ℕ). IsCursor st m c.args.at.now) (sym input) c.requires.stands.cursor)) c.in_ok-end.ensures c.in_ok-enter.field-0 (c.in_ok-enter.ensures.list (g.S.Sources.view c.args.s.now) c.requires.bench) in
    if_ok c.first_node.result _ _
    (λ x h. option_weaker x _ _ (λ site k n d u list holder below ps is. k n d list holder (subst (TurnIsIn st n d list) c.in-On.is (turn n d u list holder below ps is))) h)
    c.first_node.ensures.list
