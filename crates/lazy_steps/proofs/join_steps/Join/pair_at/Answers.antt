use Rattle.std.proofs.Common.{◌<◌, ◌∙◌, ◌+◌, suc, length, refl, sym, ap, subst, arith}
use Rattle.std.specs.declared.alloc.Global.{Global}
use Rattle.std.specs.declared.rc.Rc.{Rc}
use Rattle.join_memo.specs.Kept.{Kept}
use Rattle.lazy_binding.specs.declared.position.Position.{Position}
use Rattle.lazy_binding.specs.Parts.{operators}
use Rattle.lazy_binding.specs.World.{passed}
use Rattle.lazy_steps.specs.Beside.{memo_in}
use Rattle.lazy_binding.proofs.MemberItems.{item_is, item_there}
use Rattle.lazy_steps.proofs.Growing.{memo_read}
use Rattle.lazy_steps.proofs.Passing.{pair_made}
use Rattle.lazy_steps.proofs.join_steps.Join.pair_at.Goals as goal

pub returns-in_ok-r-in-Some-clause-pair : goal.returns-in_ok-r-in-Some-clause-pair
returns-in_ok-r-in-Some-clause-pair c =
    let k = c.args.self.now in
    let memo = memo_read c.requires.bench.0 c.args.growing.now (operators k.walk.fixed.now) c.requires.bench.1 k.walk.op c.requires.op c.index-memo.result.now c.index-memo.ensures in
    let item = ap (λ (m : Kept (Rc Position Global)). passed m.pairs (suc c.args.place)) (sym memo) ∙ item_is c.index-memo.result.now.pairs c.args.place c.in-Some.member.now c.in-Some.ensures in
    rw c.in_ok-l-in-Some.ensures.ok (pair_made (memo_in c.args.growing.now k.walk.op).pairs c.args.l.now.value c.in_ok-r-in-Some.r.value _ c.args.place (c.args.place + 1)
    refl (c.in_ok-r-in-Some.ensures.ok ∙ sym item) (omega arith))

pub returns-in-None-clause-pair : goal.returns-in-None-clause-pair
returns-in-None-clause-pair c =
    let k = c.args.self.now in
    let memo = memo_read c.requires.bench.0 c.args.growing.now (operators k.walk.fixed.now) c.requires.bench.1 k.walk.op c.requires.op c.index-memo.result.now c.index-memo.ensures in
    absurd (item_there c.index-memo.result.now.pairs c.args.place (subst (λ (m : Kept (Rc Position Global)). c.args.place < length m.pairs) (sym memo) c.requires.place) c.in-None.ensures)
