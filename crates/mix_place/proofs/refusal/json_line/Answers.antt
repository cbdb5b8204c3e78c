use Rattle.std.proofs.Common.{rules, append_assoc}
use Rattle.std.specs.Prelude.{string_bytes}
use Rattle.std.proofs.lemmas.Result.{IfOk-weaker}
use Rattle.mix_place.specs.Causes.{IsJsonLine}
use Rattle.mix_place.proofs.refusal.json_line.Goals as goal

pub returns-in_default : goal.returns-in_default
returns-in_default c =
    IfOk-weaker c.format.result _ (λ line. IsJsonLine c.args.path.now c.args.fault (string_bytes line)) (λ line h. (c.in_default.not-OutOfMemory, search (rules, append_assoc, h))) c.format.ensures.ok
