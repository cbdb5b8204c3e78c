use Rattle.std.proofs.Common.{rules}
use Rattle.view_class.proofs.Lists.{any_map}
use Rattle.view_class.proofs.reads.reads_source.Goals as goal

pub returns : goal.returns
returns c = search (rules, any_map)
