use Rattle.std.proofs.Common.{ℕ, ◌∙◌, sym, ap, subst}
use Rattle.plan_core.specs.declared.plan.Plan.{Plan}
use Rattle.plan_core.specs.PlanMade.{plan_value}
use Rattle.lazy_plan.specs.Bench.{state_of, IsCursor}
use Rattle.plan_forms.specs.Forms.{input_at}
use Rattle.lazy_site.proofs.Entered.{group_member_in}
use Rattle.lazy_site.proofs.Enters.{member_stands}
use Rattle.lazy_site.proofs.entering.group_member.Goals as goal

pub returns-clause-answer : goal.returns-clause-answer
returns-clause-answer c = λ view h first at group up.
    let input = c.input_of-input.ensures ∙ ap (λ (p : Plan). input_at (plan_value p).ops c.args.group.now.op) c.plan.ensures in
    let cursor = subst (λ (n : ℕ). IsCursor (state_of view c.args.bench.now) n c.args.group.now.at.now) (sym input) at.cursor in
    member_stands (state_of view c.args.bench.now) c.args.group.now.op c.args.group.now.number c.args.group.now.first.now c.args.group.now.at.now c.args.group.now.place _ c.args.up.now.value
    c.in_ok-head.head (c.in_ok-head.ensures view h cursor) (first, at, group, up)
    c.in_ok-rest.rest (rw (c.in_ok-first.ensures, c.in_ok-at.ensures, c.in_ok-up.ensures) at c.in_ok-rest.ensures)

pub returns-clause-list : goal.returns-clause-list
returns-clause-list c = λ view h at n d list below stands.
    let st = state_of view c.args.bench.now in
    let input = c.input_of-input.ensures ∙ ap (λ (p : Plan). input_at (plan_value p).ops c.args.group.now.op) c.plan.ensures in
    let cursor = subst (λ (m : ℕ). IsCursor st m c.args.group.now.at.now) (sym input) at.cursor in
    group_member_in st n d list c.args.group.now.op c.in_ok-head.head c.args.up.now.value below c.in_ok-rest.rest c.args.group.now.number c.args.group.now.first.now c.args.group.now.at.now c.args.group.now.place _
    (c.in_ok-head.ensures view h cursor) stands (rw (c.in_ok-first.ensures, c.in_ok-at.ensures, c.in_ok-up.ensures) at c.in_ok-rest.ensures)
