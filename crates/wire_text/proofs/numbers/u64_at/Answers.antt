use Rattle.std.proofs.Common.{arith, ap, ◌∙◌}
use Rattle.std.specs.Int.{w64, from_be_bytes}
use Rattle.wire_text.proofs.Widths.{u64_prefix}
use Rattle.wire_text.proofs.numbers.u64_at.Goals as goal

pub returns : goal.returns
returns c =
    let cut = c.in_ok-prefix.ensures.cases in
    u64_prefix c.args.bytes.now c.in_ok-prefix.rest.now c.from_be_bytes.result (λ i. omega (arith, c.type_inv.bytes i)) (omega (arith, cut.2)) cut.1 (c.from_be_bytes.ensures ∙ ap (from_be_bytes w64) cut.0)
