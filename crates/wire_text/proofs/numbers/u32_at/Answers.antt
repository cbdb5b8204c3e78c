use Rattle.std.proofs.Common.{arith, ap, ◌∙◌}
use Rattle.std.specs.Int.{w32, from_be_bytes}
use Rattle.wire_text.proofs.Widths.{u32_prefix}
use Rattle.wire_text.proofs.numbers.u32_at.Goals as goal

pub returns-clause-number : goal.returns-clause-number
returns-clause-number c =
    let cut = c.in_ok-prefix.ensures.cases in
    u32_prefix c.args.bytes.now c.in_ok-prefix.rest.now c.from_be_bytes.result (λ i. omega (arith, c.type_inv.bytes i)) (omega (arith, cut.2)) cut.1 (c.from_be_bytes.ensures ∙ ap (from_be_bytes w32) cut.0)
