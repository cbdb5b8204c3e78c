use Rattle.std.proofs.Common.{arith, ap, length}
use Rattle.std.proofs.lemmas.List.{length-append}
use Rattle.wire_text.specs.Bytes.{u32_bytes}
use Rattle.wire_text.proofs.Widths.{wide32}
use Rattle.wire_text.proofs.Asked.{fill_more, fill_got}
use Rattle.wire_text.proofs.request.read_fill.Goals as goal

pub returns-in_default : goal.returns-in_default
returns-in_default c = fill_more c.args.rest.now (λ i. omega (arith, c.type_inv.rest i)) (omega (arith, c.in_default.ensures.number))

pub returns-in-Some-words_at : goal.returns-in-Some-words_at
returns-in-Some-words_at c =
    fill_got c.args.rest.now c.in-Some.words.now _ c.in-Some.source c.in-Some-words_at.hole c.in-Some.ensures.fits c.in-Some-words_at.ensures.hole c.in-Some.ensures.number c.in-Some-words_at.ensures.words

pub returns-in-None : goal.returns-in-None
returns-in-None c =
    fill_more c.args.rest.now (λ i. omega (arith, c.type_inv.rest i))
    (omega (arith, ap length c.in-Some.ensures.number, length-append (u32_bytes c.in-Some.source) c.in-Some.words.now, wide32.len c.in-Some.source, c.in-None.ensures.words))
