use Rattle.std.proofs.Common.{◌≤◌, ◌∙◌, sym, ap, subst}
use Rattle.plan_core.specs.declared.plan.Plan.{Plan}
use Rattle.plan_core.specs.PlanMade.{plan_value}
use Rattle.lazy_plan.specs.Bench.{state_of}
use Rattle.plan_forms.specs.Forms.{input_at}
use Rattle.lazy_site.specs.Heights.{origin_rank}
use Rattle.lazy_site.specs.declared.sites.Origin.{Origin}
use Rattle.lazy_binding.specs.declared.position.Position.{Position}
use Rattle.lazy_site.specs.Origins.{IsOriginOf}
use Rattle.lazy_site.specs.Standing.{IsLeftIn, StandsIn}
use Rattle.lazy_site.specs.declared.sites.Head.TheVariants.{Whole, Built}
use Rattle.lazy_site.specs.declared.sites.Rest.{Rest}
use Rattle.lazy_site.proofs.Entered.{node_in, element_in, joined_in, all_in, group_in}
use Rattle.lazy_site.proofs.Enters.{joined_goes, all_goes, group_stands}
use Rattle.lazy_site.proofs.entering.enter.Goals as goal

pub returns-in_ok-rest_of_pieces-in-Joined-clause-answer : goal.returns-in_ok-rest_of_pieces-in-Joined-clause-answer
returns-in_ok-rest_of_pieces-in-Joined-clause-answer c = λ view h o r.
    let b = c.in_ok-rest_of_pieces-in-Joined.ensures in
    joined_goes (state_of view c.args.bench.now) c.args.origin.now c.args.after.now.value c.in_ok-rest_of_pieces-in-Joined.field-0.value o r
    c.in-Joined.op c.input_of.result c.in-Joined.at c.in_ok-ways-in-Joined.ways b.count c.in-Joined.is b.is
    (c.input_of.ensures ∙ ap (λ (p : Plan). input_at (plan_value p).ops c.in-Joined.op) c.plan.ensures) c.in_ok-ways-in-Joined.ensures.last c.in_ok-ways-in-Joined.ensures.lowest

pub returns-in_ok-put-in-All-clause-answer : goal.returns-in_ok-put-in-All-clause-answer
returns-in_ok-put-in-All-clause-answer c = λ view h o r.
    all_goes (state_of view c.args.bench.now) c.args.origin.now c.args.after.now.value c.in_ok-put-in-All.field-0.value o r
    c.in-All.op _ c.in_ok-up.up.value
    c.in-All.is c.in_ok-put-in-All.ensures c.in_ok-up.ensures

pub returns-in_ok-group_member-in-Group-clause-answer : goal.returns-in_ok-group_member-in-Group-clause-answer
returns-in_ok-group_member-in-Group-clause-answer c = λ view h o r.
    group_stands (state_of view c.args.bench.now) c.args.origin.now c.args.after.now.value c.args.after.now.value o r
    c.in-Group.op c.in-Group.first c.in-Group.number c.in_ok-group_member-in-Group.field-0 c.in-Group.is (c.in_ok-group_member-in-Group.ensures.answer view h)

pub returns-in_ok-group_member-in-Group-clause-rank : goal.returns-in_ok-group_member-in-Group-clause-rank
returns-in_ok-group_member-in-Group-clause-rank c = λ k l m. c.in_ok-group_member-in-Group.ensures.rank k (subst (λ (o : Origin). origin_rank o ≤ k) c.in-Group.is l) m

pub returns-in-Node-clause-list : goal.returns-in-Node-clause-list
returns-in-Node-clause-list c = λ view h n d v list holder o below next.
    let st = state_of view c.args.bench.now in
    subst (λ (r : Rest). StandsIn st n d list (Whole c.in-Node.source c.in-Node.spot) r) (sym c.in_ok-up.ensures)
    (node_in st h.valid h.fixed.typed n d v list holder c.args.after.now.value below next c.in-Node.source c.in-Node.spot (subst (IsOriginOf st n d v) c.in-Node.is o))

pub returns-in_ok-at-in-Element-clause-list : goal.returns-in_ok-at-in-Element-clause-list
returns-in_ok-at-in-Element-clause-list c = λ view h n d v list holder o below next.
    let st = state_of view c.args.bench.now in
    subst (λ (at : Position). StandsIn st n d list (Built c.in-Element.op at) c.in_ok-up.up.value) (sym c.in_ok-at-in-Element.ensures)
    (subst (λ (r : Rest). StandsIn st n d list (Built c.in-Element.op c.in-Element.at) r) (sym c.in_ok-up.ensures)
    (element_in st h.valid h.fixed.typed n d v list holder c.args.after.now.value below next c.in-Element.op c.in-Element.at (subst (IsOriginOf st n d v) c.in-Element.is o)))

pub returns-in_ok-rest_of_pieces-in-Joined-clause-list : goal.returns-in_ok-rest_of_pieces-in-Joined-clause-list
returns-in_ok-rest_of_pieces-in-Joined-clause-list c = λ view h n d v list holder o below next.
    let st = state_of view c.args.bench.now in
    let b = c.in_ok-rest_of_pieces-in-Joined.ensures in
    subst (IsLeftIn st n d list) (sym b.is)
    (joined_in st h.valid h.fixed.typed n d v list holder c.args.after.now.value below next c.in-Joined.op c.in-Joined.at c.in_ok-ways-in-Joined.ways b.count (subst (IsOriginOf st n d v) c.in-Joined.is o))

pub returns-in_ok-put-in-All-clause-list : goal.returns-in_ok-put-in-All-clause-list
returns-in_ok-put-in-All-clause-list c = λ view h n d v list holder o below next.
    let st = state_of view c.args.bench.now in
    subst (IsLeftIn st n d list) (sym (rw c.in_ok-up.ensures at c.in_ok-put-in-All.ensures))
    (all_in st h.valid h.fixed.typed n d v list holder c.args.after.now.value below next c.in-All.op _ (subst (IsOriginOf st n d v) c.in-All.is o))

pub returns-in_ok-group_member-in-Group-clause-list : goal.returns-in_ok-group_member-in-Group-clause-list
returns-in_ok-group_member-in-Group-clause-list c = λ view h n d v list holder o below next.
    let st = state_of view c.args.bench.now in
    let s = subst (IsOriginOf st n d v) c.in-Group.is o in
    c.in_ok-group_member-in-Group.ensures.list view h s.origin.0 n d list below
    (group_in st h.valid h.fixed.typed n d v list holder c.args.after.now.value below next c.in-Group.op c.in-Group.number c.in-Group.first s)
