use Rattle.std.proofs.Common.{◌≡◌, ◌+◌, ◌^◌, [], length, arith, ap, sym, ◌∙◌}
use Rattle.std.proofs.lemmas.List.{length-append}
use Rattle.std.proofs.lemmas.Result.{err_from_is_err_and}
use Rattle.mix_base.proofs.Lists.{append_nil}
use Rattle.wire_text.specs.Wired.{count_of}
use Rattle.wire_text.specs.Bytes.{u32_bytes, trees_bytes}
use Rattle.wire_text.proofs.Widths.{wide32, number_one}
use Rattle.wire_text.proofs.Built.{stops_list}
use Rattle.wire_text.proofs.building.build_list.Goals as goal

pub returns-in_err-trees : goal.returns-in_err-trees
returns-in_err-trees c = λ o few are text.
    let number = c.in-Some in
    let num = number_one u32_bytes 4 (2 ^ 32) wide32 number.count (count_of o) number.rest.now (trees_bytes o) number.ensures.fits few (sym number.ensures.number ∙ text) in
    let long : length c.args.text.now ≡ 4 + length number.rest.now =
    omega (arith, ap length number.ensures.number, length-append (u32_bytes number.count) number.rest.now, wide32.len number.count) in
    let p = err_from_is_err_and c.from_residual.result c.from_residual.ensures.1 in
    rw (p.1, p.2) (stops_list o c.args.text.now number.rest.now _ long (c.in_err-trees.ensures o [] are (sym num.0) (num.1 ∙ sym (append_nil (trees_bytes o)))))

pub returns : goal.returns
returns c = λ o few are text.
    let number = c.in-Some in
    let num = number_one u32_bytes 4 (2 ^ 32) wide32 number.count (count_of o) number.rest.now (trees_bytes o) number.ensures.fits few (sym number.ensures.number ∙ text) in
    let made = c.in_ok-trees.ensures o [] are (sym num.0) (num.1 ∙ sym (append_nil (trees_bytes o))) in
    (made.0, made.2)
