use Rattle.std.proofs.Common.{rules, ◌∙◌, Some, refl, sym}
use Rattle.lazy_binding.specs.Parts.{operators, world_of}
use Rattle.lazy_binding.proofs.KeyParts.{keys_fit}
use Rattle.lazy_plan.proofs.Benches.{walk_ran}
use Rattle.lazy_plan.proofs.GroupSteps.{group_can, group_shape, seen_read, ran_reached, reached_bench, no_member, member_lazy, member_other, member_seen, member_found, few_seen}
use Rattle.lazy_plan.proofs.bench.Bench.next_member.Goals as goal

pub advance-requires : goal.advance-requires
advance-requires g c =
    rw (c.input_of-below.ensures, c.at.view_is)
    (group_can (g.S.Sources.view c.args.s.now) c.args.self.now c.args.group.now.op c.args.group.now.number c.args.group.now.first.now c.args.group.now.at.now (record { ptr = c.at.inside.position.ptr; value = tt })
    c.requires.bench c.requires.op c.requires.is c.requires.stops c.requires.group)

pub key_of-requires-clause-keys : goal.key_of-requires-clause-keys
key_of-requires-clause-keys g c =
    let sh = group_shape _ c.requires.is in
    rw (c.input_of-below.ensures, c.group_keys-keys.ensures) (keys_fit (operators c.args.self.now.fixed) c.requires.bench.fixed.typed c.args.group.now.op c.requires.op _ _ (Some sh.0) sh.1)

pub returns-in_err-advance : goal.returns-in_err-advance
returns-in_err-advance g c =
    let adv = rw (c.input_of-below.ensures, c.at.view_is) at c.advance.ensures in
    record {
      ran = walk_ran c.args.self.now _ _ _ c.requires.bench adv.ran;
      lazy = member_lazy (world_of (g.S.Sources.view c.args.s.now) c.args.self.now.growing) (world_of (g.S.Sources.view c.advance.new.s) c.advance.new.growing) c.args.self.now.fixed.plan c.args.group.now.op c.args.group.now.number c.args.group.now.first.now c.args.group.now.at.now (record { ptr = c.at.inside.position.ptr; value = tt })
          c.requires.bench.fixed.typed c.requires.op c.requires.is c.requires.stops c.requires.bench.bench c.requires.group adv.ran.asks adv.ran.bench;
      cause = search rules;
      answer = search rules;
    }

pub returns-in_err-key-in-Some : goal.returns-in_err-key-in-Some
returns-in_err-key-in-Some g c =
    let adv = rw (c.input_of-below.ensures, c.at.view_is) at c.advance.ensures in
    record {
      ran = walk_ran c.args.self.now _ _ _ c.requires.bench adv.ran;
      lazy = member_lazy (world_of (g.S.Sources.view c.args.s.now) c.args.self.now.growing) (world_of (g.S.Sources.view c.advance.new.s) c.advance.new.growing) c.args.self.now.fixed.plan c.args.group.now.op c.args.group.now.number c.args.group.now.first.now c.args.group.now.at.now (record { ptr = c.at.inside.position.ptr; value = tt })
          c.requires.bench.fixed.typed c.requires.op c.requires.is c.requires.stops c.requires.bench.bench c.requires.group adv.ran.asks adv.ran.bench;
      cause = search rules;
      answer = search rules;
    }

pub returns-in_err-below-in-Some : goal.returns-in_err-below-in-Some
returns-in_err-below-in-Some g c =
    let adv = rw (c.input_of-below.ensures, c.at.view_is) at c.advance.ensures in
    record {
      ran = walk_ran c.args.self.now _ _ _ c.requires.bench adv.ran;
      lazy = member_lazy (world_of (g.S.Sources.view c.args.s.now) c.args.self.now.growing) (world_of (g.S.Sources.view c.advance.new.s) c.advance.new.growing) c.args.self.now.fixed.plan c.args.group.now.op c.args.group.now.number c.args.group.now.first.now c.args.group.now.at.now (record { ptr = c.at.inside.position.ptr; value = tt })
          c.requires.bench.fixed.typed c.requires.op c.requires.is c.requires.stops c.requires.bench.bench c.requires.group adv.ran.asks adv.ran.bench;
      cause = search rules;
      answer = search rules;
    }

pub returns-in-None : goal.returns-in-None
returns-in-None g c =
    let adv = rw (c.input_of-below.ensures, c.at.view_is) at c.advance.ensures in
    record {
      ran = walk_ran c.args.self.now _ _ _ c.requires.bench adv.ran;
      lazy = member_lazy (world_of (g.S.Sources.view c.args.s.now) c.args.self.now.growing) (world_of (g.S.Sources.view c.advance.new.s) c.advance.new.growing) c.args.self.now.fixed.plan c.args.group.now.op c.args.group.now.number c.args.group.now.first.now c.args.group.now.at.now (record { ptr = c.at.inside.position.ptr; value = tt })
          c.requires.bench.fixed.typed c.requires.op c.requires.is c.requires.stops c.requires.bench.bench c.requires.group adv.ran.asks adv.ran.bench;
      cause = tt;
      answer = no_member (world_of (g.S.Sources.view c.args.s.now) c.args.self.now.growing) (world_of (g.S.Sources.view c.advance.new.s) c.advance.new.growing) c.args.self.now.fixed.plan c.args.group.now.op c.args.group.now.number c.args.group.now.first.now c.args.group.now.at.now (record { ptr = c.at.inside.position.ptr; value = tt }) c.requires.bench.fixed.typed c.requires.op c.requires.is c.requires.stops c.requires.bench.bench c.requires.group adv.ran.asks adv.ran.bench
          (rw (c.in-None.is, c.input_of-below.ensures, c.at.view_is) at c.in_ok-advance.ensures.answer);
    }

pub returns-then-not-stands_at : goal.returns-then-not-stands_at
returns-then-not-stands_at g c =
    let adv = rw (c.input_of-below.ensures, c.at.view_is) at c.advance.ensures in
    let h = rw c.in-Some.is at c.in_ok-advance.ensures.answer in
    let f = rw (c.in-Some.is, c.input_of-below.ensures, c.at.view_is) at c.in_ok-advance.ensures.answer in
    let parts = (rw c.deref.ensures at c.in_ok-key-in-Some.ensures.parts) _ adv.ran.bench h.cursor in
    let value = rw (c.input_of-below.ensures, c.group_keys-keys.ensures) at ((rw c.deref.ensures at c.in_ok-key-in-Some.ensures.value) _ adv.ran.bench h.cursor) in
    let there = seen_read (g.S.Sources.view c.advance.new.s) c.advance.new.growing (operators c.args.self.now.fixed) adv.ran.bench c.args.group.now.op c.requires.op c.index-keys_seen.result.now c.index-keys_seen.ensures in
    let compared = (rw (there, c.saturating_sub.ensures) at c.stands_at.ensures.is) (few_seen (world_of (g.S.Sources.view c.args.s.now) c.args.self.now.growing) (world_of (g.S.Sources.view c.advance.new.s) c.advance.new.growing) c.args.self.now.fixed.plan c.args.group.now.op c.args.group.now.number c.args.group.now.first.now c.args.group.now.at.now (record { ptr = c.at.inside.position.ptr; value = tt }) c.requires.bench.fixed.typed c.requires.op c.requires.is c.requires.stops c.requires.bench.bench c.requires.group adv.ran.asks adv.ran.bench) in
    record {
      ran = walk_ran c.args.self.now _ _ _ c.requires.bench adv.ran;
      lazy = member_lazy (world_of (g.S.Sources.view c.args.s.now) c.args.self.now.growing) (world_of (g.S.Sources.view c.advance.new.s) c.advance.new.growing) c.args.self.now.fixed.plan c.args.group.now.op c.args.group.now.number c.args.group.now.first.now c.args.group.now.at.now (record { ptr = c.at.inside.position.ptr; value = tt }) c.requires.bench.fixed.typed c.requires.op c.requires.is c.requires.stops c.requires.bench.bench c.requires.group adv.ran.asks adv.ran.bench;
      cause = tt;
      answer = member_other (world_of (g.S.Sources.view c.args.s.now) c.args.self.now.growing) (world_of (g.S.Sources.view c.advance.new.s) c.advance.new.growing) c.args.self.now.fixed.plan c.args.group.now.op c.args.group.now.number c.args.group.now.first.now c.args.group.now.at.now (record { ptr = c.at.inside.position.ptr; value = tt }) c.requires.bench.fixed.typed c.requires.op c.requires.is c.requires.stops c.requires.bench.bench c.requires.group adv.ran.asks adv.ran.bench _ f c.in_ok-key-in-Some.key.items parts value c.spots_are_one.ensures (sym compared ∙ c.if-not-stands_at.true);
    }

pub returns-in_ok-below-in-Some : goal.returns-in_ok-below-in-Some
returns-in_ok-below-in-Some g c =
    let adv = rw (c.input_of-below.ensures, c.at.view_is) at c.advance.ensures in
    let h = rw c.in-Some.is at c.in_ok-advance.ensures.answer in
    let f = rw (c.in-Some.is, c.input_of-below.ensures, c.at.view_is) at c.in_ok-advance.ensures.answer in
    let parts = (rw c.deref.ensures at c.in_ok-key-in-Some.ensures.parts) _ adv.ran.bench h.cursor in
    let value = rw (c.input_of-below.ensures, c.group_keys-keys.ensures) at ((rw c.deref.ensures at c.in_ok-key-in-Some.ensures.value) _ adv.ran.bench h.cursor) in
    let there = seen_read (g.S.Sources.view c.advance.new.s) c.advance.new.growing (operators c.args.self.now.fixed) adv.ran.bench c.args.group.now.op c.requires.op c.index-keys_seen.result.now c.index-keys_seen.ensures in
    let compared = (rw (there, c.saturating_sub.ensures) at c.stands_at.ensures.is) (few_seen (world_of (g.S.Sources.view c.args.s.now) c.args.self.now.growing) (world_of (g.S.Sources.view c.advance.new.s) c.advance.new.growing) c.args.self.now.fixed.plan c.args.group.now.op c.args.group.now.number c.args.group.now.first.now c.args.group.now.at.now (record { ptr = c.at.inside.position.ptr; value = tt }) c.requires.bench.fixed.typed c.requires.op c.requires.is c.requires.stops c.requires.bench.bench c.requires.group adv.ran.asks adv.ran.bench) in
    let seen = rw (there, c.saturating_sub.ensures) at (c.if-not-stands_at.ensures.there refl) in
    let stands = member_seen (world_of (g.S.Sources.view c.args.s.now) c.args.self.now.growing) (world_of (g.S.Sources.view c.advance.new.s) c.advance.new.growing) c.args.self.now.fixed.plan c.args.group.now.op c.args.group.now.number c.args.group.now.first.now c.args.group.now.at.now (record { ptr = c.at.inside.position.ptr; value = tt }) c.requires.bench.fixed.typed c.requires.op c.requires.is c.requires.stops c.requires.bench.bench c.requires.group adv.ran.asks adv.ran.bench _ f c.in_ok-key-in-Some.key.items parts value c.spots_are_one.ensures seen in
    let bench = reached_bench (world_of (g.S.Sources.view c.advance.new.s) c.advance.new.growing) (operators c.args.self.now.fixed) adv.ran.bench c.reach.new.walked c.args.group.now.op _ c.reach.ensures
    (rw c.in_ok-below-in-Some.ensures.ok stands) in
    record {
      ran = walk_ran c.args.self.now _ _ _ c.requires.bench (ran_reached c.reach.new.walked c.reach.ensures.gathered bench adv.ran);
      lazy = member_lazy (world_of (g.S.Sources.view c.args.s.now) c.args.self.now.growing) (world_of (g.S.Sources.view c.advance.new.s) c.advance.new.growing) c.args.self.now.fixed.plan c.args.group.now.op c.args.group.now.number c.args.group.now.first.now c.args.group.now.at.now (record { ptr = c.at.inside.position.ptr; value = tt }) c.requires.bench.fixed.typed c.requires.op c.requires.is c.requires.stops c.requires.bench.bench c.requires.group adv.ran.asks adv.ran.bench;
      cause = tt;
      answer = member_found (world_of (g.S.Sources.view c.args.s.now) c.args.self.now.growing) (world_of (g.S.Sources.view c.advance.new.s) c.advance.new.growing) c.args.self.now.fixed.plan c.args.group.now.op c.args.group.now.number c.args.group.now.first.now c.args.group.now.at.now (record { ptr = c.at.inside.position.ptr; value = tt }) c.requires.bench.fixed.typed c.requires.op c.requires.is c.requires.stops c.requires.bench.bench c.requires.group adv.ran.asks adv.ran.bench _ f c.in_ok-key-in-Some.key.items parts value c.spots_are_one.ensures seen c.reach.new.walked c.reach.ensures.gathered (sym compared ∙ c.if-not-stands_at.false);
    }
