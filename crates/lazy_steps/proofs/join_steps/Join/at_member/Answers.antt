use Rattle.std.proofs.Common.{◌∙◌, sym}
use Rattle.lazy_binding.specs.Parts.{operators, world_of}
use Rattle.lazy_steps.proofs.PairSteps.{tests_fit}
use Rattle.lazy_steps.proofs.Passing.{pair_is, pair_stands}
use Rattle.lazy_steps.proofs.join_steps.Join.at_member.Goals as goal

pub pair_at-requires-clause-bench : goal.pair_at-requires-clause-bench
pair_at-requires-clause-bench c = (c.requires.can.cursor.0, c.requires.can.cursor.1)

pub passes_each-requires-clause-cursor : goal.passes_each-requires-clause-cursor
passes_each-requires-clause-cursor c =
    let k = c.args.self.now in
    let h = c.requires.can.cursor in (
      h.0,
      h.1,
      (pair_is (operators k.walk.fixed.now) k.walk.op k.left k.right k.tests.now c.requires.can.fixed.typed c.requires.can.op c.requires.can.is (world_of h.0 c.args.growing.now) h.1 c.args.l.now.value h.2 c.requires.can.row
          c.args.place c.requires.can.place c.in_ok-pair.pair c.in_ok-pair.ensures.pair).0,
    )

pub passes_each-requires-clause-row : goal.passes_each-requires-clause-row
passes_each-requires-clause-row c =
    let k = c.args.self.now in
    let h = c.requires.can.cursor in
    (pair_is (operators k.walk.fixed.now) k.walk.op k.left k.right k.tests.now c.requires.can.fixed.typed c.requires.can.op c.requires.can.is (world_of h.0 c.args.growing.now) h.1 c.args.l.now.value h.2 c.requires.can.row
    c.args.place c.requires.can.place c.in_ok-pair.pair c.in_ok-pair.ensures.pair).1

pub passes_each-requires-clause-tests : goal.passes_each-requires-clause-tests
passes_each-requires-clause-tests c =
    let k = c.args.self.now in
    tests_fit (operators k.walk.fixed.now) c.requires.can.fixed.typed k.walk.op c.requires.can.op k.left k.right k.tests.now c.requires.can.is

pub returns-then-passes_each-clause-answer : goal.returns-then-passes_each-clause-answer
returns-then-passes_each-clause-answer c view bench of =
    let k = c.args.self.now in
    let there = pair_stands (operators k.walk.fixed.now) k.walk.op k.left k.right k.tests.now c.requires.can.fixed.typed c.requires.can.op c.requires.can.is (world_of view c.args.growing.now) bench c.args.l.now.value of c.requires.can.row
    c.args.place c.requires.can.place c.in_ok-pair.pair c.in_ok-pair.ensures.pair in
    (c.in_ok-pair.ensures.pair, λ told. sym there.1 ∙ sym (c.if-passes_each.ensures view bench there.0 told))

pub returns-else-passes_each-clause-answer : goal.returns-else-passes_each-clause-answer
returns-else-passes_each-clause-answer c view bench of =
    let k = c.args.self.now in
    let there = pair_stands (operators k.walk.fixed.now) k.walk.op k.left k.right k.tests.now c.requires.can.fixed.typed c.requires.can.op c.requires.can.is (world_of view c.args.growing.now) bench c.args.l.now.value of c.requires.can.row
    c.args.place c.requires.can.place c.in_ok-pair.pair c.in_ok-pair.ensures.pair in
    (c.in_ok-pair.ensures.pair, λ told. sym there.1 ∙ sym (c.if-passes_each.ensures view bench there.0 told))
