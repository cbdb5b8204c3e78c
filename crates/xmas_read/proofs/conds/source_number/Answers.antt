use Rattle.std.proofs.Common.{◌∙◌, sym}
use Rattle.xmas_read.proofs.Naming.{found_at, found_none}
use Rattle.xmas_read.proofs.conds.source_number.Goals as goal

pub returns-in-Some : goal.returns-in-Some
returns-in-Some c = found_at c.args.catalog.now c.args.name.now c.in-Some.number (sym c.find.ensures ∙ c.in-Some.is)

pub returns-in-None : goal.returns-in-None
returns-in-None c = c.len.ensures.len ∙ found_none c.args.catalog.now c.args.name.now (sym c.find.ensures ∙ c.in-None.is)
