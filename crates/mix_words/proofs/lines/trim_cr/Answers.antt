use Rattle.std.proofs.Common.{rules, arith}
use Rattle.mix_words.proofs.Trims.{cr_trimmed, cr_kept}
use Rattle.mix_words.proofs.lines.trim_cr.Goals as goal

pub returns-in-13 : goal.returns-in-13
returns-in-13 c = cr_trimmed c.args.line.now (omega arith) (search rules)

pub returns-in_default-2 : goal.returns-in_default-2
returns-in_default-2 c = cr_kept c.args.line.now (search rules)
