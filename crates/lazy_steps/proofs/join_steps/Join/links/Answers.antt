use Rattle.std.proofs.Common.{◌∙◌}
use Rattle.lazy_steps.proofs.Linked.{links_read}
use Rattle.lazy_steps.proofs.join_steps.Join.links.Goals as goal

pub returns : goal.returns
returns c = c.deref.ensures.value ∙ links_read c.args.self.now.walk.fixed.now c.requires.fixed c.args.self.now.walk.op c.requires.op c.index.result.now c.index.ensures
