use Rattle.std.proofs.Common.{rules}
use Rattle.lazy_binding.specs.Parts.{world_of}
use Rattle.lazy_plan.proofs.Benches.{walk_ran}
use Rattle.lazy_plan.proofs.NextMembers.{next_made, next_shape, next_gathers, first_found, next_none, next_lazy, next_found}
use Rattle.lazy_plan.proofs.bench.Bench.next_gathered.Goals as goal

pub next_found-requires-clause-is : goal.next_found-requires-clause-is
next_found-requires-clause-is g c = rw (c.new-gathers.ensures, c.input_of-input.ensures, c.group_keys-keys.ensures) (next_made (world_of (g.S.Sources.view c.args.s.now) c.args.self.now.growing) c.args.self.now.fixed.plan c.args.group.now.op c.args.group.now.number c.args.group.now.place c.args.group.now.first.now c.args.group.now.at.now c.requires.is c.requires.among c.requires.bench.bench c.requires.group, next_shape (world_of (g.S.Sources.view c.args.s.now) c.args.self.now.growing) c.args.self.now.fixed.plan c.args.group.now.op c.args.group.now.number c.args.group.now.place c.args.group.now.first.now c.args.group.now.at.now c.requires.is c.requires.among c.requires.bench.bench c.requires.group, next_gathers (world_of (g.S.Sources.view c.args.s.now) c.args.self.now.growing) c.args.self.now.fixed.plan c.args.group.now.op c.args.group.now.number c.args.group.now.place c.args.group.now.first.now c.args.group.now.at.now c.requires.is c.requires.among c.requires.bench.bench c.requires.group)

pub next_found-requires-clause-first : goal.next_found-requires-clause-first
next_found-requires-clause-first g c = rw c.new-gathers.ensures (first_found (world_of (g.S.Sources.view c.args.s.now) c.args.self.now.growing) c.args.self.now.fixed.plan c.args.group.now.op c.args.group.now.number c.args.group.now.place c.args.group.now.first.now c.args.group.now.at.now c.requires.is c.requires.among c.requires.bench.bench c.requires.group)

pub next_found-requires-clause-at : goal.next_found-requires-clause-at
next_found-requires-clause-at g c = rw c.new-gathers.ensures (c.requires.group.placed c.requires.among)

pub returns-in_err-next_found : goal.returns-in_err-next_found
returns-in_err-next_found g c =
    let walked = rw (c.new-gathers.ensures, c.input_of-input.ensures, c.group_keys-keys.ensures) at c.next_found.ensures in
    record {
      ran = walk_ran c.args.self.now _ _ _ c.requires.bench walked.ran;
      lazy = next_lazy (world_of (g.S.Sources.view c.args.s.now) c.args.self.now.growing) c.args.self.now.fixed.plan c.args.group.now.op c.args.group.now.number c.args.group.now.place c.args.group.now.first.now c.args.group.now.at.now c.requires.is c.requires.among c.requires.bench.bench c.requires.group (world_of (g.S.Sources.view c.next_found.new.s) c.next_found.new.growing) walked.ran.asks;
      cause = search rules;
      answer = search rules;
    }

pub returns-in-None : goal.returns-in-None
returns-in-None g c =
    let walked = rw (c.new-gathers.ensures, c.input_of-input.ensures, c.group_keys-keys.ensures) at c.next_found.ensures in
    let answer = rw (c.in-None.is, c.new-gathers.ensures, c.input_of-input.ensures, c.group_keys-keys.ensures) at c.in_ok-next_found.ensures.answer in
    record {
      ran = walk_ran c.args.self.now _ _ _ c.requires.bench walked.ran;
      lazy = next_lazy (world_of (g.S.Sources.view c.args.s.now) c.args.self.now.growing) c.args.self.now.fixed.plan c.args.group.now.op c.args.group.now.number c.args.group.now.place c.args.group.now.first.now c.args.group.now.at.now c.requires.is c.requires.among c.requires.bench.bench c.requires.group (world_of (g.S.Sources.view c.next_found.new.s) c.next_found.new.growing) walked.ran.asks;
      cause = tt;
      answer = next_none (world_of (g.S.Sources.view c.args.s.now) c.args.self.now.growing) c.args.self.now.fixed.plan c.args.group.now.op c.args.group.now.number c.args.group.now.place c.args.group.now.first.now c.args.group.now.at.now c.requires.is c.requires.among c.requires.bench.bench c.requires.group answer;
    }

pub returns-in-Some : goal.returns-in-Some
returns-in-Some g c =
    let walked = rw (c.new-gathers.ensures, c.input_of-input.ensures, c.group_keys-keys.ensures) at c.next_found.ensures in
    let answer = rw (c.in-Some.is, c.new-gathers.ensures) at c.in_ok-next_found.ensures.answer in
    record {
      ran = walk_ran c.args.self.now _ _ _ c.requires.bench walked.ran;
      lazy = next_lazy (world_of (g.S.Sources.view c.args.s.now) c.args.self.now.growing) c.args.self.now.fixed.plan c.args.group.now.op c.args.group.now.number c.args.group.now.place c.args.group.now.first.now c.args.group.now.at.now c.requires.is c.requires.among c.requires.bench.bench c.requires.group (world_of (g.S.Sources.view c.next_found.new.s) c.next_found.new.growing) walked.ran.asks;
      cause = tt;
      answer = next_found (world_of (g.S.Sources.view c.args.s.now) c.args.self.now.growing) c.args.self.now.fixed.plan c.args.group.now.op c.args.group.now.number c.args.group.now.place c.args.group.now.first.now c.args.group.now.at.now c.requires.is c.requires.among c.requires.bench.bench c.requires.group (world_of (g.S.Sources.view c.next_found.new.s) c.next_found.new.growing) walked.ran.asks walked.ran.bench c.in-Some.position.value answer;
    }
