use Rattle.std.proofs.Common.{rules}
use Rattle.lazy_descend.specs.declared.frame.Frame.{Start}
use Rattle.lazy_descend.proofs.frame.states_above.Goals as goal

pub returns-in-Top : goal.returns-in-Top
returns-in-Top c = (Start c.in-Top.start, search rules, c.start.ensures)
