use Rattle.std.proofs.Common.{rules, ◌∙◌, sym, ap, subst}
use Rattle.lazy_binding.specs.Parts.{operators, world_of}
use Rattle.std.proofs.lemmas.Option.{slice_get_within}
use Rattle.mix_tree.specs.Nodes.{label_at}
use Rattle.tree_buffer.specs.declared.buffer.Buffer.{Buffer}
use Rattle.tree_buffer.specs.Buffer.{IsSpot, label_of as label_at_spot}
use Rattle.lazy_binding.specs.World.{docs_of}
use Rattle.lazy_binding.proofs.Labels.{spot_label, read_is}
use Rattle.lazy_binding.proofs.parts.Walk.label_of.Goals as goal

pub node_of-source-requires-clause-cursor : goal.node_of-source-requires-clause-cursor
node_of-source-requires-clause-cursor c = ((world_of c.requires.cursor.0 c.args.growing.now), c.requires.cursor.2)

pub index-requires : goal.index-requires
index-requires c =
    let f = c.node_of-source.ensures (world_of c.requires.cursor.0 c.args.growing.now) c.requires.cursor.2 in
    let h = slice_get_within c.args.growing.now.buffers.items c.node_of-source.result.0 f.known.buffer f.known.there in
    search rules

pub label-requires : goal.label-requires
label-requires c =
    let f = c.node_of-source.ensures (world_of c.requires.cursor.0 c.args.growing.now) c.requires.cursor.2 in
    let e = read_is c.args.growing.now.buffers.items c.node_of-source.result.0 f.known.buffer c.index.result.now f.known.there c.index.ensures in
    subst (λ (b : Buffer). IsSpot b c.node_of-source.result.1) (sym e) f.known.spot

pub returns : goal.returns
returns c = λ view bench of told.
    let f = c.node_of-source.ensures (world_of view c.args.growing.now) of in
    let e = read_is c.args.growing.now.buffers.items c.node_of-source.result.0 f.known.buffer c.index.result.now f.known.there c.index.ensures in
    c.label.ensures
    ∙ ap (λ (b : Buffer). label_at_spot b c.node_of-source.result.1) e
    ∙ spot_label (world_of view c.args.growing.now) (operators c.args.self.now.fixed.now) bench c.node_of-source.result.0 c.node_of-source.result.1 f.known f.read told
    ∙ ap (label_at (docs_of (world_of view c.args.growing.now))) (sym f.node)
