use Rattle.std.proofs.Common.{◌≡◌, sym, ◌∙◌, length}
use Rattle.plan_class.specs.VarDomains.{domain_in}
use Rattle.plan_class.proofs.Groups.{groups_are}
use Rattle.plan_class.proofs.operators.over_known.Goals as goal

pub returns-in-GroupBy-2 : goal.returns-in-GroupBy-2
returns-in-GroupBy-2 c =
    let op = c.in-GroupBy-2 in
    let count : length op.keys.items ≡ c.in-GroupBy.keys.len = cc in
    let some = groups_are (domain_in c.args.domains.now) c.args.vars.now c.args.input op.input op.out op.keys.items op.piece c.in-GroupBy.keys.len (sym c.is_empty.ensures ∙ c.if-is_empty.false) count in
    rw (op.is, some) (rw c.deref-in-GroupBy-2.ensures.value at c.grouped_known.ensures)
