use Rattle.lazy_walk.proofs.Numbers.{with_one, with_other}
use Rattle.lazy_walk.proofs.leading.levels_with.Goals as goal

pub returns-then-number-next : goal.returns-then-number-next
returns-then-number-next c = λ ns t b.
    with_one c.args.levels.now ns c.args.next c.args.through c.in-Some.number c.number_at.result c.if-next-eq0.false t c.number_at.ensures c.in-Some.is c.if-number-next.true b

pub returns-else-number-next : goal.returns-else-number-next
returns-else-number-next c = λ ns t b.
    with_other c.args.levels.now ns c.args.next c.args.through c.in-Some.number c.number_at.result c.if-next-eq0.false t c.number_at.ensures c.in-Some.is c.if-number-next.false
