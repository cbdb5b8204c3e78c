use Rattle.std.proofs.Common.{refl, sym, ◌∙◌}
use Rattle.plan_core.specs.Shapes.{shape_at}
use Rattle.lazy_binding.specs.Parts.{operators}
use Rattle.lazy_binding.proofs.Spots.{spot_is}
use Rattle.lazy_binding.proofs.Labels.{found_is, has_spot}
use Rattle.lazy_binding.proofs.parts.Walk.node_of.Goals as goal

pub unreachable-requires : goal.unreachable-requires
unreachable-requires c =
    let x = spot_is (operators c.args.self.now.fixed.now) c.requires.fixed.typed c.requires.cursor.0 c.args.self.now.op c.requires.op (shape_at (operators c.args.self.now.fixed.now) c.args.self.now.op) refl c.args.at.now c.requires.cursor.1 c.requires.row c.args.v c.requires.node in
    has_spot _ _ _ _ _ x (sym c.spot_of.ensures ∙ c.in-None.is)

pub returns : goal.returns
returns c = λ w of.
    let x = spot_is (operators c.args.self.now.fixed.now) c.requires.fixed.typed w c.args.self.now.op c.requires.op (shape_at (operators c.args.self.now.fixed.now) c.args.self.now.op) refl c.args.at.now of c.requires.row c.args.v c.requires.node in
    found_is _ _ _ _ _ _ _ x (sym c.spot_of.ensures ∙ c.in-Some.is)
