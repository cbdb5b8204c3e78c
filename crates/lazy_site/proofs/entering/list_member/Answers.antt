use Rattle.std.proofs.Common.{ℕ, ◌∙◌, sym, ap, subst}
use Rattle.plan_core.specs.declared.plan.Plan.{Plan}
use Rattle.plan_core.specs.PlanMade.{plan_value}
use Rattle.lazy_plan.specs.Bench.{state_of, IsCursor}
use Rattle.plan_forms.specs.Forms.{input_at}
use Rattle.lazy_site.proofs.Entered.{list_member_in}
use Rattle.lazy_site.proofs.entering.list_member.Goals as goal

pub returns-clause-list : goal.returns-clause-list
returns-clause-list c = λ view h at n d list below stands.
    let st = state_of view c.args.bench.now in
    let input = c.input_of-input.ensures ∙ ap (λ (p : Plan). input_at (plan_value p).ops c.args.op) c.plan.ensures in
    let cursor = subst (λ (m : ℕ). IsCursor st m c.args.at.now) (sym input) at.cursor in
    list_member_in st n d list c.args.op c.in_ok-head.head c.args.up.now.value below c.in_ok-rest.rest c.args.at.now _
    (c.in_ok-head.ensures view h cursor) stands (rw (c.in_ok-at.ensures, c.in_ok-up.ensures) at c.in_ok-rest.ensures)
