use Rattle.std.proofs.Common.{arith, sym, get_or}
use Rattle.mix_catalog.proofs.Digits.{number_fits, digit_small}
use Rattle.mix_catalog.proofs.form.read_number.Goals as goal

pub overflow_mul-number : goal.overflow_mul-number
overflow_mul-number c = let small = number_fits c.loop-byte.number c.loop-byte.byte-index c.loop-byte.invariant.below (omega arith) in omega (arith, small)

pub overflow_add-number : goal.overflow_add-number
overflow_add-number c =
    let small = number_fits c.loop-byte.number c.loop-byte.byte-index c.loop-byte.invariant.below (omega arith) in
    let digit = digit_small (get_or c.args.word.now c.loop-byte.byte-index 0) c.in_ok-digit.digit (sym c.in_ok-digit.ensures) in
    omega (arith, small, digit)
