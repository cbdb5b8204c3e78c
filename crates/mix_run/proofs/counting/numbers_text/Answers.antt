use Rattle.std.proofs.Common.{rules, append_assoc}
use Rattle.mix_run.proofs.counting.numbers_text.Goals as goal

pub returns : goal.returns
returns c = search (rules, append_assoc)
