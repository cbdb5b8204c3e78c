use Rattle.std.proofs.Common.{rules, append_assoc}
use Rattle.mix_place.proofs.refusal.script_line.Goals as goal

pub returns-in-Line : goal.returns-in-Line
returns-in-Line c = rw c.in-Line.is (search (rules, append_assoc))
