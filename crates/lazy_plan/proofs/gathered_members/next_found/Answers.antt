use Rattle.std.proofs.Common.{rules, sym}
use Rattle.lazy_binding.specs.Parts.{operators, world_of}
use Rattle.lazy_steps.proofs.GatherSteps.{groups_read}
use Rattle.lazy_plan.proofs.GatheredMembers.{comes_here, member_none, after_asks, after_on}
use Rattle.lazy_plan.proofs.gathered_members.next_found.Goals as goal

pub members-init : goal.members-init
members-init g c = record { came = g.met.S.Sources.same c.args.s.now; bench = c.requires.bench; comes = comes_here (operators c.args.gathers.now.walk.fixed.now) c.args.gathers.now.walk.op c.args.gathers.now.input c.args.gathers.now.keys.now c.requires.is.0 c.requires.is.1 c.requires.is.2 (world_of (g.S.Sources.view c.args.s.now) c.args.growing.now) c.requires.bench c.args.group.now.number c.args.group.now.place c.args.group.now.first.now c.args.group.now.at.now c.requires.first c.requires.at }

pub returns-in-Some : goal.returns-in-Some
returns-in-Some g c =
    let i = c.members.invariant in
    let read = groups_read (g.S.Sources.view c.members.s) c.members.growing (operators c.args.gathers.now.walk.fixed.now) i.bench c.args.gathers.now.walk.op c.requires.op c.index-gathered.result.now c.index-gathered.ensures in
    let there = sym (rw (c.in-Some.is, c.saturating_sub-number.ensures, read) at c.after.ensures) in
    record {
      ran = record { came = i.came; bench = i.bench; asks = i.comes.asks };
      cause = tt;
      answer = (c.in-Some.member.now, there, sym c.in_ok-share-in-Some.ensures.ok);
    }

pub returns-in_err-grow-in-None : goal.returns-in_err-grow-in-None
returns-in_err-grow-in-None g c =
    let i = c.members.invariant in
    let read = groups_read (g.S.Sources.view c.members.s) c.members.growing (operators c.args.gathers.now.walk.fixed.now) i.bench c.args.gathers.now.walk.op c.requires.op c.index-gathered.result.now c.index-gathered.ensures in
    let none = sym (rw (c.in-None.is, c.saturating_sub-number.ensures, read) at c.after.ensures) in
    record {
      ran = record { came = g.met.S.Sources.after _ _ _ i.came c.grow.ensures.ran.came; bench = c.grow.ensures.ran.bench; asks = after_asks (operators c.args.gathers.now.walk.fixed.now) c.args.gathers.now.walk.op c.args.gathers.now.input c.args.gathers.now.keys.now c.requires.is.0 c.requires.is.1 c.requires.is.2 (world_of (g.S.Sources.view c.args.s.now) c.args.growing.now) c.requires.bench c.args.group.now.number c.args.group.now.place c.args.group.now.first.now c.args.group.now.at.now c.requires.first c.requires.at (world_of (g.S.Sources.view c.members.s) c.members.growing) i.bench i.comes none (world_of (g.S.Sources.view c.grow.new.s) c.grow.new.growing) c.grow.ensures.ran.asks };
      cause = search rules;
      answer = search rules;
    }

pub returns-then-not-branch : goal.returns-then-not-branch
returns-then-not-branch g c =
    let i = c.members.invariant in
    let read = groups_read (g.S.Sources.view c.members.s) c.members.growing (operators c.args.gathers.now.walk.fixed.now) i.bench c.args.gathers.now.walk.op c.requires.op c.index-gathered.result.now c.index-gathered.ensures in
    let none = sym (rw (c.in-None.is, c.saturating_sub-number.ensures, read) at c.after.ensures) in
    let ended = rw c.if-not-branch.true at c.in_ok-grow-in-None.ensures.answer in
    record {
      ran = record { came = g.met.S.Sources.after _ _ _ i.came c.grow.ensures.ran.came; bench = c.grow.ensures.ran.bench; asks = after_asks (operators c.args.gathers.now.walk.fixed.now) c.args.gathers.now.walk.op c.args.gathers.now.input c.args.gathers.now.keys.now c.requires.is.0 c.requires.is.1 c.requires.is.2 (world_of (g.S.Sources.view c.args.s.now) c.args.growing.now) c.requires.bench c.args.group.now.number c.args.group.now.place c.args.group.now.first.now c.args.group.now.at.now c.requires.first c.requires.at (world_of (g.S.Sources.view c.members.s) c.members.growing) i.bench i.comes none (world_of (g.S.Sources.view c.grow.new.s) c.grow.new.growing) c.grow.ensures.ran.asks };
      cause = tt;
      answer = member_none (operators c.args.gathers.now.walk.fixed.now) c.args.gathers.now.walk.op c.args.gathers.now.input c.args.gathers.now.keys.now c.requires.is.0 c.requires.is.1 c.requires.is.2 (world_of (g.S.Sources.view c.args.s.now) c.args.growing.now) c.requires.bench c.args.group.now.number c.args.group.now.place c.args.group.now.first.now c.args.group.now.at.now c.requires.first c.requires.at (world_of (g.S.Sources.view c.members.s) c.members.growing) i.bench i.comes.asks.kept none ended;
    }

pub members-preserved : goal.members-preserved
members-preserved g c =
    let i = c.members.invariant in
    let read = groups_read (g.S.Sources.view c.members.s) c.members.growing (operators c.args.gathers.now.walk.fixed.now) i.bench c.args.gathers.now.walk.op c.requires.op c.index-gathered.result.now c.index-gathered.ensures in
    let none = sym (rw (c.in-None.is, c.saturating_sub-number.ensures, read) at c.after.ensures) in
    let further = rw c.if-not-branch.false at c.in_ok-grow-in-None.ensures.answer in
    record {
      came = g.met.S.Sources.after _ _ _ i.came c.grow.ensures.ran.came;
      bench = c.grow.ensures.ran.bench;
      comes = after_on (operators c.args.gathers.now.walk.fixed.now) c.args.gathers.now.walk.op c.args.gathers.now.input c.args.gathers.now.keys.now c.requires.is.0 c.requires.is.1 c.requires.is.2 (world_of (g.S.Sources.view c.args.s.now) c.args.growing.now) c.requires.bench c.args.group.now.number c.args.group.now.place c.args.group.now.first.now c.args.group.now.at.now c.requires.first c.requires.at (world_of (g.S.Sources.view c.members.s) c.members.growing) i.bench i.comes none (world_of (g.S.Sources.view c.grow.new.s) c.grow.new.growing) c.grow.ensures.ran.asks c.grow.ensures.ran.bench further;
    }
