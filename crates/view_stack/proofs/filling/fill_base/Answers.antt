use Rattle.std.proofs.Common.{refl}
use Rattle.view_stack.proofs.Moving.{moved_below}
use Rattle.view_stack.proofs.filling.fill_base.Goals as goal

pub returns-clause-moved : goal.returns-clause-moved
returns-clause-moved g c =
    let l = c.args.layers.now in
    moved_below g.S.Sources.view g.S.Sources.came_from c.views_are_kept.ensures l (record { base = c.fill.new.self; views = l.views; served = l.served; fills = l.fills }) c.fill.ensures.came
    (g.met.S.Sources.keeps l.base c.fill.new.self c.fill.ensures.came) c.requires.sound refl refl refl c.fill.ensures.counted.at_most_one
