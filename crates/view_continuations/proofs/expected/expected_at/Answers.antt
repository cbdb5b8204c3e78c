use Rattle.std.proofs.Common.{◌≡◌, inr, eqb→eq, vec_len}
use Rattle.view_continuations.proofs.expected.expected_at.Goals as goal

pub returns-clause-place : goal.returns-clause-place
returns-clause-place c =
    let here = c.in_ok-here.ensures in
    let none : vec_len c.in_ok-here.here.candidates ≡ 0 = eqb→eq _ _ (rw (← c.if-not-is_empty.ensures) tt) in
    let place : c.in_ok-expected.expected.at ≡ c.last_word.result = c.in_ok-expected.ensures.here in
    inr ((c.in_ok-here.here, here.are, here.here, none), rw place c.last_word.ensures)
