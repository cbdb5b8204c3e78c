use Rattle.lazy_binding.specs.Parts.{operators, world_of}
use Rattle.lazy_steps.proofs.Passing.{found_lets}
use Rattle.lazy_steps.proofs.join_steps.Join.at_found.Goals as goal

pub pair_at-requires-clause-bench : goal.pair_at-requires-clause-bench
pair_at-requires-clause-bench c = (c.requires.can.cursor.0, c.requires.can.cursor.1)

pub returns-in_ok-pair-clause-answer : goal.returns-in_ok-pair-clause-answer
returns-in_ok-pair-clause-answer c view bench of =
    let k = c.args.self.now in (
      c.in_ok-pair.ensures.pair,
      λ told. found_lets (operators k.walk.fixed.now) k.walk.op k.left k.right k.tests.now c.requires.can.fixed.typed c.requires.can.op c.requires.can.is (world_of view c.args.growing.now) bench c.args.l.now.value of c.requires.can.row
          c.args.place c.requires.can.place (c.label_decides.ensures c.if-label_decides.true) told (c.requires.label view bench of told),
    )
