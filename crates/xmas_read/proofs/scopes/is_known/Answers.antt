use Rattle.std.proofs.Common.{◌∙◌, ap, is_some}
use Rattle.xmas_read.proofs.Naming.{found_named}
use Rattle.xmas_read.proofs.scopes.is_known.Goals as goal

pub returns : goal.returns
returns c = c.is_some.ensures ∙ ap is_some c.find.ensures ∙ found_named c.args.catalog.now c.args.name.now
