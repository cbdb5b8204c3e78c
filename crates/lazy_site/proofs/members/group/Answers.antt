use Rattle.std.proofs.Common.{refl}
use Rattle.plan_core.specs.ByNumber.{op_at}
use Rattle.plan_forms.specs.Forms.{input_at, keys_of}
use Rattle.lazy_plan.specs.Bench.{state_of, ops_of, binding_at}
use Rattle.lazy_plan.specs.Groups.{group_ahead}
use Rattle.lazy_site.specs.declared.sites.Rest.{Group'}
use Rattle.lazy_site.proofs.StandingKept.{AreBelow-kept, members_over_in, members_next_in}
use Rattle.lazy_site.proofs.Gathering.{group_walked, group_over, group_left, group_stand, group_in, group_fall}
use Rattle.lazy_site.proofs.members.group.Goals as goal

pub returns-in_err-next_of_group-clause-walked : goal.returns-in_err-next_of_group-clause-walked
returns-in_err-next_of_group-clause-walked g c = group_walked c.args.s.now c.next_of_group.new.s c.args.bench.now c.next_of_group.new.bench c.args.group.now.op c.args.group.now.first.now c.args.group.now.at.now c.args.group.now.place c.args.up.now.value c.next_of_group.ensures.walked

pub returns-in_err-share-in-None-clause-walked : goal.returns-in_err-share-in-None-clause-walked
returns-in_err-share-in-None-clause-walked g c = group_walked c.args.s.now c.next_of_group.new.s c.args.bench.now c.next_of_group.new.bench c.args.group.now.op c.args.group.now.first.now c.args.group.now.at.now c.args.group.now.place c.args.up.now.value c.next_of_group.ensures.walked

pub returns-in_ok-share-in-None-clause-walked : goal.returns-in_ok-share-in-None-clause-walked
returns-in_ok-share-in-None-clause-walked g c = group_walked c.args.s.now c.next_of_group.new.s c.args.bench.now c.next_of_group.new.bench c.args.group.now.op c.args.group.now.first.now c.args.group.now.at.now c.args.group.now.place c.args.up.now.value c.next_of_group.ensures.walked

pub returns-in_err-place-in-Some-clause-walked : goal.returns-in_err-place-in-Some-clause-walked
returns-in_err-place-in-Some-clause-walked g c = group_walked c.args.s.now c.next_of_group.new.s c.args.bench.now c.next_of_group.new.bench c.args.group.now.op c.args.group.now.first.now c.args.group.now.at.now c.args.group.now.place c.args.up.now.value c.next_of_group.ensures.walked

pub returns-in_err-group_member-in-Some-clause-walked : goal.returns-in_err-group_member-in-Some-clause-walked
returns-in_err-group_member-in-Some-clause-walked g c = group_walked c.args.s.now c.next_of_group.new.s c.args.bench.now c.next_of_group.new.bench c.args.group.now.op c.args.group.now.first.now c.args.group.now.at.now c.args.group.now.place c.args.up.now.value c.next_of_group.ensures.walked

pub returns-in_ok-group_member-in-Some-clause-walked : goal.returns-in_ok-group_member-in-Some-clause-walked
returns-in_ok-group_member-in-Some-clause-walked g c = group_walked c.args.s.now c.next_of_group.new.s c.args.bench.now c.next_of_group.new.bench c.args.group.now.op c.args.group.now.first.now c.args.group.now.at.now c.args.group.now.place c.args.up.now.value c.next_of_group.ensures.walked

pub group_member-requires : goal.group_member-requires
group_member-requires g c = record {
  bench = (
    g.S.Sources.view c.next_of_group.new.s,
    c.next_of_group.ensures.walked.bench,
    group_in c.args.s.now c.next_of_group.new.s c.args.bench.now c.next_of_group.new.bench c.args.group.now.op c.args.group.now.first.now c.args.group.now.at.now c.args.group.now.place c.args.up.now.value c.next_of_group.ensures.walked c.requires.up c.args.group.now.number c.in-Some.c (rw c.in-Some.is at c.in_ok-next_of_group.ensures.answer) c.in_ok-place-in-Some.place c.in_ok-place-in-Some.ensures c.requires.first,
  );
}

pub returns-in_ok-share-in-None-clause-answer : goal.returns-in_ok-share-in-None-clause-answer
returns-in_ok-share-in-None-clause-answer g c = group_over c.args.s.now c.next_of_group.new.s c.args.bench.now c.next_of_group.new.bench c.args.group.now.op c.args.group.now.first.now c.args.group.now.at.now c.args.group.now.place c.args.up.now.value c.next_of_group.ensures.walked c.requires.up (rw c.in-None.is at c.in_ok-next_of_group.ensures.answer) c.in_ok-share-in-None.field-0.value c.in_ok-share-in-None.ensures

pub returns-in_ok-share-in-None-clause-left : goal.returns-in_ok-share-in-None-clause-left
returns-in_ok-share-in-None-clause-left g c = group_left c.args.s.now c.next_of_group.new.s c.args.bench.now c.next_of_group.new.bench c.args.group.now.op c.args.group.now.first.now c.args.group.now.at.now c.args.group.now.place c.args.up.now.value c.next_of_group.ensures.walked c.requires.up c.in_ok-share-in-None.field-0.value c.in_ok-share-in-None.ensures

pub returns-in_ok-group_member-in-Some-clause-answer : goal.returns-in_ok-group_member-in-Some-clause-answer
returns-in_ok-group_member-in-Some-clause-answer g c =
    let there = group_in c.args.s.now c.next_of_group.new.s c.args.bench.now c.next_of_group.new.bench c.args.group.now.op c.args.group.now.first.now c.args.group.now.at.now c.args.group.now.place c.args.up.now.value c.next_of_group.ensures.walked c.requires.up c.args.group.now.number c.in-Some.c (rw c.in-Some.is at c.in_ok-next_of_group.ensures.answer) c.in_ok-place-in-Some.place c.in_ok-place-in-Some.ensures c.requires.first in
    group_stand c.args.s.now c.next_of_group.new.s c.args.bench.now c.next_of_group.new.bench c.args.group.now.op c.args.group.now.first.now c.args.group.now.at.now c.args.group.now.place c.args.up.now.value c.next_of_group.ensures.walked c.requires.up c.args.group.now.number c.in-Some.c (rw c.in-Some.is at c.in_ok-next_of_group.ensures.answer) c.in_ok-group_member-in-Some.field-0
    (c.in_ok-group_member-in-Some.ensures.answer (g.S.Sources.view c.next_of_group.new.s) c.next_of_group.ensures.walked.bench there.0 there.1 there.2 there.3)

pub returns-in_ok-group_member-in-Some-clause-left : goal.returns-in_ok-group_member-in-Some-clause-left
returns-in_ok-group_member-in-Some-clause-left g c = group_fall c.args.s.now c.next_of_group.new.s c.args.bench.now c.next_of_group.new.bench c.args.group.now.op c.args.group.now.first.now c.args.group.now.at.now c.args.group.now.place c.args.up.now.value c.next_of_group.ensures.walked c.requires.up c.args.group.now.number c.in-Some.c (rw c.in-Some.is at c.in_ok-next_of_group.ensures.answer) c.in_ok-place-in-Some.place c.in_ok-place-in-Some.ensures _ (c.in_ok-group_member-in-Some.ensures.left (g.S.Sources.view c.next_of_group.new.s))

pub returns-in_ok-share-in-None-clause-list : goal.returns-in_ok-share-in-None-clause-list
returns-in_ok-share-in-None-clause-list g c = λ q n d list holder l.
    let old = state_of (g.S.Sources.view c.args.s.now) c.args.bench.now in
    let new = state_of (g.S.Sources.view c.next_of_group.new.s) c.next_of_group.new.bench in
    let op = c.args.group.now.op in
    let up = c.args.up.now.value in
    members_over_in old new c.next_of_group.ensures.walked.kept n d holder list op up c.requires.up (group_ahead old op c.args.group.now.first.now c.args.group.now.at.now)
    (Group' op c.args.group.now.first.now c.args.group.now.number c.args.group.now.at.now c.args.group.now.place q up) l (keys_of (op_at (ops_of old) op)) refl l.below c.in_ok-share-in-None.field-0.value c.in_ok-share-in-None.ensures

pub returns-in_ok-group_member-in-Some-clause-list : goal.returns-in_ok-group_member-in-Some-clause-list
returns-in_ok-group_member-in-Some-clause-list g c = λ q n d list holder l.
    let old = state_of (g.S.Sources.view c.args.s.now) c.args.bench.now in
    let new = state_of (g.S.Sources.view c.next_of_group.new.s) c.next_of_group.new.bench in
    let op = c.args.group.now.op in
    let up = c.args.up.now.value in
    let first = c.args.group.now.first.now in
    let f = rw c.in-Some.is at c.in_ok-next_of_group.ensures.answer in
    let there = group_in c.args.s.now c.next_of_group.new.s c.args.bench.now c.next_of_group.new.bench op first c.args.group.now.at.now c.args.group.now.place up c.next_of_group.ensures.walked c.requires.up c.args.group.now.number c.in-Some.c f c.in_ok-place-in-Some.place c.in_ok-place-in-Some.ensures c.requires.first in
    c.in_ok-group_member-in-Some.ensures.list (g.S.Sources.view c.next_of_group.new.s) c.next_of_group.ensures.walked.bench there.1
    n d list (AreBelow-kept old new c.next_of_group.ensures.walked.kept n d holder up l.below)
    (members_next_in old new c.next_of_group.ensures.walked.kept n d holder list op up c.requires.up (group_ahead old op first c.args.group.now.at.now)
    (Group' op c.args.group.now.first.now c.args.group.now.number c.args.group.now.at.now c.args.group.now.place q up) l (λ ops. keys_of (op_at ops op)) refl (binding_at new (input_at (ops_of new) op) c.in-Some.c) (group_ahead new op first c.in-Some.c) f.found)
