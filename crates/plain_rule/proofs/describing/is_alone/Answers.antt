use Rattle.std.proofs.Common.{◌≡◌, length, arith}
use Rattle.plain_rule.proofs.Splits.{one_label}
use Rattle.plain_rule.proofs.describing.is_alone.Goals as goal

pub returns-in-len1 : goal.returns-in-len1
returns-in-len1 c =
    let one : length c.args.labels.now ≡ 1 = omega arith in
    one_label c.args.wanted.now c.label-item.result c.args.labels.now c.eq.result one c.label-item.is c.eq.ensures
