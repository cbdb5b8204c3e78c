use Rattle.std.proofs.Common.{rules, append_assoc}
use Rattle.mix_place.proofs.refusal.plan_line.Goals as goal

pub returns-in-NotUtf8 : goal.returns-in-NotUtf8
returns-in-NotUtf8 c = rw c.in-NotUtf8.is (search (rules, append_assoc))

pub returns-in-Line : goal.returns-in-Line
returns-in-Line c = rw c.in-Line.is (search (rules, append_assoc))

pub returns-in-TooMany : goal.returns-in-TooMany
returns-in-TooMany c = rw c.in-TooMany.is (search (rules, append_assoc))

pub returns-in-Number : goal.returns-in-Number
returns-in-Number c = rw c.in-Number.is (search (rules, append_assoc))

pub returns-in-UnknownSource : goal.returns-in-UnknownSource
returns-in-UnknownSource c = rw c.in-UnknownSource.is (search (rules, append_assoc))

pub returns-in-Positions : goal.returns-in-Positions
returns-in-Positions c = rw c.in-Positions.is (search (rules, append_assoc))

pub returns-in-Variable : goal.returns-in-Variable
returns-in-Variable c = rw c.in-Variable.is (search (rules, append_assoc))

pub returns-in-Invalid : goal.returns-in-Invalid
returns-in-Invalid c = rw c.in-Invalid.is (search (rules, append_assoc))

pub returns-in-Unused : goal.returns-in-Unused
returns-in-Unused c = rw c.in-Unused.is (search (rules, append_assoc))
