use Rattle.std.proofs.Common.{ap, subst, sym, ◌∙◌}
use Rattle.mix_tree.specs.Nodes.{Node}
use Rattle.lazy_binding.specs.declared.position.Position.{Position}
use Rattle.lazy_binding.specs.Cursors.{IsOf}
use Rattle.lazy_binding.specs.Reading.{Found}
use Rattle.lazy_binding.specs.Parts.{operators, world_of}
use Rattle.lazy_plan.specs.Bench.{state_of}
use Rattle.lazy_plan.proofs.Benches.{spot_of_is}
use Rattle.lazy_plan.proofs.bench.Bench.node.Goals as goal

pub node_of-requires-clause-cursor : goal.node_of-requires-clause-cursor
node_of-requires-clause-cursor c =
    let w = world_of c.requires.cursor.0 c.args.self.now.growing in
    (w, subst (IsOf w (operators c.args.self.now.fixed) c.args.op) (sym (c.deref.ensures ∙ c.c.view_is)) c.requires.cursor.2.of)

pub returns-clause-source : goal.returns-clause-source
returns-clause-source c = λ view k.
    let at = c.deref.ensures ∙ c.c.view_is in
    let found = c.node_of.ensures (world_of view c.args.self.now.growing) (subst (IsOf (world_of view c.args.self.now.growing) (operators c.args.self.now.fixed) c.args.op) (sym at) k.of) in
    sym (ap (λ (z : Node). z.source) (subst (λ (p : Position). Found (world_of view c.args.self.now.growing) (operators c.args.self.now.fixed) c.args.op p c.args.v c.node_of.result.0 c.node_of.result.1) at found).node)

pub returns-clause-spot : goal.returns-clause-spot
returns-clause-spot c = λ view k.
    let at = c.deref.ensures ∙ c.c.view_is in
    let found = c.node_of.ensures (world_of view c.args.self.now.growing) (subst (IsOf (world_of view c.args.self.now.growing) (operators c.args.self.now.fixed) c.args.op) (sym at) k.of) in
    spot_of_is (state_of view c.args.self.now) c.requires.cursor.1.fixed.typed c.args.op c.requires.op c.args.c.now k c.args.v c.requires.node c.node_of.result.0 c.node_of.result.1
    (subst (λ (p : Position). Found (world_of view c.args.self.now.growing) (operators c.args.self.now.fixed) c.args.op p c.args.v c.node_of.result.0 c.node_of.result.1) at found)
