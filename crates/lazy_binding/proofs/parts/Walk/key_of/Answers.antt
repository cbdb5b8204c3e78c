use Rattle.plan_core.specs.Valid.{kinds}
use Rattle.lazy_binding.specs.Parts.{operators}
use Rattle.lazy_binding.proofs.KeyParts.{node_key_at}
use Rattle.lazy_binding.proofs.parts.Walk.key_of.Goals as goal

pub part_of-requires-clause-key : goal.part_of-requires-clause-key
part_of-requires-clause-key c =
    node_key_at (kinds (operators c.args.self.now.fixed.now) c.args.self.now.op) c.args.keys.now c.requires.keys c.loop-key.key-index c.key-item.result c.loop-key-test.true c.key-item.is
