use Rattle.std.proofs.Common.{◌∙◌, List, ℕ, ap, sym, arith, slice_get}
use Rattle.mix_top.proofs.PeopleWords.{first_byte, people_read, people_unread}
use Rattle.mix_top.proofs.command.read_people.Goals as goal

pub returns-in-Ok : goal.returns-in-Ok
returns-in-Ok c =
    let first = first_byte c.args.word.now c.in_ok-first.field-0.now (c.in_ok-first.ensures.value ∙ ap (λ (x : List ℕ). slice_get x 0) c.as_bytes.ensures.value) in
    people_read c.args.word.now c.parse.result c.in-Ok.count c.parse.ensures.value.0 c.in-Ok.is (omega (arith, first, c.if-first-ge49.true)) (omega (arith, c.if-count-le10000.true))

pub returns-in_default-2 : goal.returns-in_default-2
returns-in_default-2 c =
    let first = first_byte c.args.word.now c.in_ok-first.field-0.now (c.in_ok-first.ensures.value ∙ ap (λ (x : List ℕ). slice_get x 0) c.as_bytes.ensures.value) in
    people_unread c.args.word.now c.parse.result c.parse.ensures.value.0 (λ n e low small. absurd (omega (arith, first, low, c.if-first-ge49.false)))

pub returns-in_default-3 : goal.returns-in_default-3
returns-in_default-3 c = people_unread c.args.word.now c.parse.result c.parse.ensures.value.0 (λ n e low small. absurd (cc (sym c.in_default.is ∙ e)))
