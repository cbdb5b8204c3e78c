use Rattle.std.proofs.Common.{◌∙◌, sym, ap, subst}
use Rattle.plan_core.specs.Valid.{kinds}
use Rattle.plan_core.specs.TolledRows.{by_node, key_value, row_node}
use Rattle.lazy_binding.specs.World.{docs_of}
use Rattle.lazy_binding.specs.Cursors.{binding}
use Rattle.lazy_binding.specs.Keys.{IsNodeKey}
use Rattle.lazy_binding.specs.Parts.{operators, world_of}
use Rattle.lazy_binding.proofs.parts.Walk.part_of.Goals as goal

pub node_of-source-requires-clause-cursor : goal.node_of-source-requires-clause-cursor
node_of-source-requires-clause-cursor c = ((world_of c.requires.cursor.0 c.args.growing.now), c.requires.cursor.2)

pub node_of-source-requires-clause-node : goal.node_of-source-requires-clause-node
node_of-source-requires-clause-node c = subst (IsNodeKey (kinds (operators c.args.self.now.fixed.now) c.args.self.now.op)) c.in-Node.is c.requires.key

pub returns-in-Node-clause-part : goal.returns-in-Node-clause-part
returns-in-Node-clause-part c = λ view bench of. (c.node_of-source.ensures (world_of view c.args.growing.now) of).known

pub returns-in-Node-clause-value : goal.returns-in-Node-clause-value
returns-in-Node-clause-value c = λ view bench of told.
    ap by_node (sym (c.node_of-source.ensures (world_of view c.args.growing.now) of).node)
    ∙ ap (key_value (docs_of (world_of view c.args.growing.now)) (row_node (binding (world_of view c.args.growing.now) (operators c.args.self.now.fixed.now) c.args.self.now.op c.args.at.now))) (sym c.in-Node.is)
