use Rattle.std.proofs.Common.{◌<◌, rules, length, arith, ap}
use Rattle.std.proofs.lemmas.List.{length-append}
use Rattle.wire_text.specs.Bytes.{u64_bytes}
use Rattle.wire_text.proofs.Widths.{wide64}
use Rattle.wire_text.proofs.numbers.words_at.Goals as goal

pub returns-in_err-second-clause-words : goal.returns-in_err-second-clause-words
returns-in_err-second-clause-words c =
    let short : length c.args.bytes.now < 24 =
    omega (arith, ap length c.in_ok-first.ensures, length-append (u64_bytes c.in_ok-first.first) c.in_ok-first.rest.now, wide64.len c.in_ok-first.first, c.in_err-second.ensures) in
    search rules

pub returns-in_err-third-clause-words : goal.returns-in_err-third-clause-words
returns-in_err-third-clause-words c =
    let short : length c.args.bytes.now < 24 =
    omega (
      arith,
      ap length c.in_ok-first.ensures,
      length-append (u64_bytes c.in_ok-first.first) c.in_ok-first.rest.now,
      wide64.len c.in_ok-first.first,
      ap length c.in_ok-second.ensures,
      length-append (u64_bytes c.in_ok-second.second) c.in_ok-second.rest.now,
      wide64.len c.in_ok-second.second,
      c.in_err-third.ensures,
    ) in
    search rules
