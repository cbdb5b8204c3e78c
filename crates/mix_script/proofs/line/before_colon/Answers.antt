use Rattle.std.proofs.Common.{rules, arith, sym}
use Rattle.mix_script.proofs.LineForms.{colon_found, no_colon, empty_colon}
use Rattle.mix_script.proofs.line.before_colon.Goals as goal
use Rattle.mix_script.proofs.line.before_colon.Goals.{in_default-via-then-word-lt1, in_default-via-else-word-lt1+in_default-1}

pub returns-in-58 : goal.returns-in-58
returns-in-58 c = sym (colon_found c.args.word.now (omega (arith, c.in-58.len_at_least)) (search rules))

pub returns-in_default : goal.returns-in_default
returns-in_default c = elim c.in_default.branch [
  | in_default-via-then-word-lt1 w ↦ sym (empty_colon c.args.word.now (search rules))
  | in_default-via-else-word-lt1+in_default-1 w ↦ sym (no_colon c.args.word.now (search rules))
]
