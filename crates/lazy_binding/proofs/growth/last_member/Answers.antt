use Rattle.std.proofs.Common.{arith}
use Rattle.lazy_binding.proofs.MemberItems.{item_last, item_none}
use Rattle.lazy_binding.proofs.growth.last_member.Goals as goal

pub returns-in-Some-clause-ok : goal.returns-in-Some-clause-ok
returns-in-Some-clause-ok c =
    let e = item_last c.args.memo.now.pairs _ c.in-Some.member.now (omega (arith, c.len.ensures, c.saturating_sub.ensures)) c.in-Some.ensures in
    rw e at c.share.ensures.ok

pub returns-in-None-clause-ok : goal.returns-in-None-clause-ok
returns-in-None-clause-ok c =
    let e = item_none c.args.memo.now.pairs _ (omega (arith, c.len.ensures, c.saturating_sub.ensures)) c.in-None.ensures in
    rw e c.put.ensures.ok
