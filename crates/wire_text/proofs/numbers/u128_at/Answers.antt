use Rattle.std.proofs.Common.{◌<◌, rules, length, arith, ap}
use Rattle.std.proofs.lemmas.List.{length-append}
use Rattle.wire_text.specs.Bytes.{u64_bytes}
use Rattle.wire_text.proofs.Widths.{wide64}
use Rattle.wire_text.proofs.numbers.u128_at.Goals as goal

pub returns-in_err-low : goal.returns-in_err-low
returns-in_err-low c =
    let short : length c.args.bytes.now < 16 =
    omega (arith, ap length c.in_ok-high.ensures, length-append (u64_bytes c.in_ok-high.high) c.in_ok-high.rest.now, wide64.len c.in_ok-high.high, c.in_err-low.ensures) in
    search rules
