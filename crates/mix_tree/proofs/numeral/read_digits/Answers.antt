use Rattle.std.proofs.Common.{◌≡◌, ◌∙◌, ◌+◌, ◌-◌, ◌*◌, sym, arith, take, get_or}
use Rattle.std.specs.Str.Parse.{digits_value}
use Rattle.mix_tree.proofs.Numerals.{digits_more, prefix_below}
use Rattle.mix_tree.proofs.numeral.read_digits.Goals as goal

pub overflow_mul-number : goal.overflow_mul-number
overflow_mul-number c =
    let is : c.loop-digit.number ≡ digits_value 10 (take c.loop-digit.digit-index c.args.text.now) = c.loop-digit.invariant in
    let small = prefix_below c.args.text.now c.loop-digit.digit-index (sym c.if-not-are_digit_bytes.ensures) in
    omega (arith, is, small)

pub overflow_add-number : goal.overflow_add-number
overflow_add-number c =
    let is : c.loop-digit.number ≡ digits_value 10 (take c.loop-digit.digit-index c.args.text.now) = c.loop-digit.invariant in
    let more = digits_more c.args.text.now c.loop-digit.digit-index (sym c.if-not-are_digit_bytes.ensures) c.loop-digit-test.true in
    let small = prefix_below c.args.text.now (c.loop-digit.digit-index + 1) (sym c.if-not-are_digit_bytes.ensures) in
    omega (arith, is, more, small, c.from.ensures)

pub loop-digit-preserved : goal.loop-digit-preserved
loop-digit-preserved c =
    let is : c.loop-digit.number ≡ digits_value 10 (take c.loop-digit.digit-index c.args.text.now) = c.loop-digit.invariant in
    let more = digits_more c.args.text.now c.loop-digit.digit-index (sym c.if-not-are_digit_bytes.ensures) c.loop-digit-test.true in
    let sum : c.loop-digit.number * 10 + c.from.result ≡ digits_value 10 (take c.loop-digit.digit-index c.args.text.now) * 10 + (get_or c.args.text.now c.loop-digit.digit-index 0 - 48) = omega (arith, is, c.from.ensures) in
    sum ∙ sym more

pub returns-clause-bound : goal.returns-clause-bound
returns-clause-bound c =
    let is : c.loop-digit.number ≡ digits_value 10 (take c.loop-digit.digit-index c.args.text.now) = c.loop-digit.invariant in
    let small = prefix_below c.args.text.now c.loop-digit.digit-index (sym c.if-not-are_digit_bytes.ensures) in
    omega (arith, is, small)
