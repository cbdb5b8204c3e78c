use Rattle.std.proofs.Common.{[], refl, ◌∙◌, ap}
use Rattle.plan_core.specs.declared.plan.Plan.{Plan}
use Rattle.plan_core.specs.PlanMade.{plan_value}
use Rattle.plan_forms.specs.Forms.{input_at}
use Rattle.lazy_site.proofs.Gathering.{first_there, members_walked, rest_after, members_over, members_left, member_there, members_stand, members_fall}
use Rattle.lazy_plan.specs.Bench.{state_of, ops_of, binding_at, ahead_at}
use Rattle.lazy_site.specs.Ids.{ahead_from}
use Rattle.lazy_site.specs.declared.sites.Rest.{Members'}
use Rattle.lazy_site.proofs.StandingKept.{AreBelow-kept, members_over_in, members_next_in}
use Rattle.lazy_site.proofs.members.members.Goals as goal

pub returns-in_err-after-clause-walked : goal.returns-in_err-after-clause-walked
returns-in_err-after-clause-walked g c = members_walked c.args.s.now c.after.new.s c.args.bench.now c.after.new.bench c.args.list.now.op c.input_of-input.result c.args.list.now.at.now c.args.up.now.value (c.input_of-input.ensures ∙ ap (λ (p : Plan). input_at (plan_value p).ops c.args.list.now.op) c.plan.ensures) c.after.ensures.walked

pub returns-in_err-share-in-None-clause-walked : goal.returns-in_err-share-in-None-clause-walked
returns-in_err-share-in-None-clause-walked g c = members_walked c.args.s.now c.after.new.s c.args.bench.now c.after.new.bench c.args.list.now.op c.input_of-input.result c.args.list.now.at.now c.args.up.now.value (c.input_of-input.ensures ∙ ap (λ (p : Plan). input_at (plan_value p).ops c.args.list.now.op) c.plan.ensures) c.after.ensures.walked

pub returns-in_ok-share-in-None-clause-walked : goal.returns-in_ok-share-in-None-clause-walked
returns-in_ok-share-in-None-clause-walked g c = members_walked c.args.s.now c.after.new.s c.args.bench.now c.after.new.bench c.args.list.now.op c.input_of-input.result c.args.list.now.at.now c.args.up.now.value (c.input_of-input.ensures ∙ ap (λ (p : Plan). input_at (plan_value p).ops c.args.list.now.op) c.plan.ensures) c.after.ensures.walked

pub returns-in_err-list_member-in-Some-clause-walked : goal.returns-in_err-list_member-in-Some-clause-walked
returns-in_err-list_member-in-Some-clause-walked g c = members_walked c.args.s.now c.after.new.s c.args.bench.now c.after.new.bench c.args.list.now.op c.input_of-input.result c.args.list.now.at.now c.args.up.now.value (c.input_of-input.ensures ∙ ap (λ (p : Plan). input_at (plan_value p).ops c.args.list.now.op) c.plan.ensures) c.after.ensures.walked

pub returns-in_ok-list_member-in-Some-clause-walked : goal.returns-in_ok-list_member-in-Some-clause-walked
returns-in_ok-list_member-in-Some-clause-walked g c = members_walked c.args.s.now c.after.new.s c.args.bench.now c.after.new.bench c.args.list.now.op c.input_of-input.result c.args.list.now.at.now c.args.up.now.value (c.input_of-input.ensures ∙ ap (λ (p : Plan). input_at (plan_value p).ops c.args.list.now.op) c.plan.ensures) c.after.ensures.walked

pub list_member-requires : goal.list_member-requires
list_member-requires g c = record { bench = (g.S.Sources.view c.after.new.s, c.after.ensures.walked.bench, ((member_there c.args.s.now c.after.new.s c.args.bench.now c.after.new.bench c.args.list.now.op c.input_of-input.result c.args.list.now.at.now c.args.up.now.value (c.input_of-input.ensures ∙ ap (λ (p : Plan). input_at (plan_value p).ops c.args.list.now.op) c.plan.ensures) c.after.ensures.walked c.requires.up c.requires.gathers c.in-Some.c (rw c.in-Some.is at c.in_ok-after.ensures.answer)), rest_after c.args.s.now c.after.new.s c.args.bench.now c.after.new.bench c.args.list.now.op c.input_of-input.result c.args.list.now.at.now c.args.up.now.value (c.input_of-input.ensures ∙ ap (λ (p : Plan). input_at (plan_value p).ops c.args.list.now.op) c.plan.ensures) c.after.ensures.walked c.requires.up)) }

pub returns-in_ok-share-in-None-clause-answer : goal.returns-in_ok-share-in-None-clause-answer
returns-in_ok-share-in-None-clause-answer g c = members_over c.args.s.now c.after.new.s c.args.bench.now c.after.new.bench c.args.list.now.op c.input_of-input.result c.args.list.now.at.now c.args.up.now.value (c.input_of-input.ensures ∙ ap (λ (p : Plan). input_at (plan_value p).ops c.args.list.now.op) c.plan.ensures) c.after.ensures.walked c.requires.up (rw c.in-None.is at c.in_ok-after.ensures.answer) c.in_ok-share-in-None.field-0.value c.in_ok-share-in-None.ensures

pub returns-in_ok-share-in-None-clause-left : goal.returns-in_ok-share-in-None-clause-left
returns-in_ok-share-in-None-clause-left g c = members_left c.args.s.now c.after.new.s c.args.bench.now c.after.new.bench c.args.list.now.op c.input_of-input.result c.args.list.now.at.now c.args.up.now.value (c.input_of-input.ensures ∙ ap (λ (p : Plan). input_at (plan_value p).ops c.args.list.now.op) c.plan.ensures) c.after.ensures.walked c.requires.up c.in_ok-share-in-None.field-0.value c.in_ok-share-in-None.ensures

pub returns-in_ok-list_member-in-Some-clause-answer : goal.returns-in_ok-list_member-in-Some-clause-answer
returns-in_ok-list_member-in-Some-clause-answer g c = members_stand c.args.s.now c.after.new.s c.args.bench.now c.after.new.bench c.args.list.now.op c.input_of-input.result c.args.list.now.at.now c.args.up.now.value (c.input_of-input.ensures ∙ ap (λ (p : Plan). input_at (plan_value p).ops c.args.list.now.op) c.plan.ensures) c.after.ensures.walked c.requires.up c.requires.gathers c.in-Some.c (rw c.in-Some.is at c.in_ok-after.ensures.answer) c.in_ok-list_member-in-Some.field-0
    (c.in_ok-list_member-in-Some.ensures.answer (g.S.Sources.view c.after.new.s) c.after.ensures.walked.bench (member_there c.args.s.now c.after.new.s c.args.bench.now c.after.new.bench c.args.list.now.op c.input_of-input.result c.args.list.now.at.now c.args.up.now.value (c.input_of-input.ensures ∙ ap (λ (p : Plan). input_at (plan_value p).ops c.args.list.now.op) c.plan.ensures) c.after.ensures.walked c.requires.up c.requires.gathers c.in-Some.c (rw c.in-Some.is at c.in_ok-after.ensures.answer)) (rest_after c.args.s.now c.after.new.s c.args.bench.now c.after.new.bench c.args.list.now.op c.input_of-input.result c.args.list.now.at.now c.args.up.now.value (c.input_of-input.ensures ∙ ap (λ (p : Plan). input_at (plan_value p).ops c.args.list.now.op) c.plan.ensures) c.after.ensures.walked c.requires.up))

pub returns-in_ok-list_member-in-Some-clause-left : goal.returns-in_ok-list_member-in-Some-clause-left
returns-in_ok-list_member-in-Some-clause-left g c = members_fall c.args.s.now c.after.new.s c.args.bench.now c.after.new.bench c.args.list.now.op c.input_of-input.result c.args.list.now.at.now c.args.up.now.value (c.input_of-input.ensures ∙ ap (λ (p : Plan). input_at (plan_value p).ops c.args.list.now.op) c.plan.ensures) c.after.ensures.walked c.requires.up c.requires.gathers c.in-Some.c (rw c.in-Some.is at c.in_ok-after.ensures.answer) _ (c.in_ok-list_member-in-Some.ensures.left (g.S.Sources.view c.after.new.s))

pub returns-in_ok-share-in-None-clause-list : goal.returns-in_ok-share-in-None-clause-list
returns-in_ok-share-in-None-clause-list g c = λ q n d list holder l.
    let old = state_of (g.S.Sources.view c.args.s.now) c.args.bench.now in
    let new = state_of (g.S.Sources.view c.after.new.s) c.after.new.bench in
    let op = c.args.list.now.op in
    members_over_in old new c.after.ensures.walked.kept n d holder list op c.args.up.now.value c.requires.up (ahead_from old (input_at (ops_of old) op) c.args.list.now.at.now)
    (Members' op c.args.list.now.at.now q c.args.up.now.value) l [] refl l.below c.in_ok-share-in-None.field-0.value c.in_ok-share-in-None.ensures

pub returns-in_ok-list_member-in-Some-clause-list : goal.returns-in_ok-list_member-in-Some-clause-list
returns-in_ok-list_member-in-Some-clause-list g c = λ q n d list holder l.
    let old = state_of (g.S.Sources.view c.args.s.now) c.args.bench.now in
    let new = state_of (g.S.Sources.view c.after.new.s) c.after.new.bench in
    let op = c.args.list.now.op in
    let up = c.args.up.now.value in
    let first = first_there c.args.s.now c.after.new.s c.args.bench.now c.after.new.bench c.args.list.now.op c.input_of-input.result c.args.list.now.at.now c.args.up.now.value (c.input_of-input.ensures ∙ ap (λ (p : Plan). input_at (plan_value p).ops c.args.list.now.op) c.plan.ensures) c.after.ensures.walked c.requires.up c.requires.gathers c.in-Some.c (rw c.in-Some.is at c.in_ok-after.ensures.answer) in
    c.in_ok-list_member-in-Some.ensures.list (g.S.Sources.view c.after.new.s) c.after.ensures.walked.bench (member_there c.args.s.now c.after.new.s c.args.bench.now c.after.new.bench c.args.list.now.op c.input_of-input.result c.args.list.now.at.now c.args.up.now.value (c.input_of-input.ensures ∙ ap (λ (p : Plan). input_at (plan_value p).ops c.args.list.now.op) c.plan.ensures) c.after.ensures.walked c.requires.up c.requires.gathers c.in-Some.c (rw c.in-Some.is at c.in_ok-after.ensures.answer))
    n d list (AreBelow-kept old new c.after.ensures.walked.kept n d holder up l.below)
    (members_next_in old new c.after.ensures.walked.kept n d holder list op up c.requires.up (ahead_from old (input_at (ops_of old) op) c.args.list.now.at.now)
    (Members' op c.args.list.now.at.now q up) l (λ ops. []) refl (binding_at new (input_at (ops_of new) op) c.in-Some.c) (ahead_at new (input_at (ops_of new) op) c.in-Some.c) first.found)
