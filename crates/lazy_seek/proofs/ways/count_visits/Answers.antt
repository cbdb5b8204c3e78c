use Rattle.std.proofs.Common.{sym, ap, arith, length, map}
use Rattle.std.proofs.lemmas.List.{length-map}
use Rattle.plan_core.specs.PlanMade.{op_of}
use Rattle.lazy_seek.proofs.Marks.{vars_zero, counted_more}
use Rattle.lazy_seek.proofs.ways.count_visits.Goals as goal

pub loop-i-init : goal.loop-i-init
loop-i-init c = record { few = omega arith; counted = λ n w. sym (ap length (vars_zero (map op_of c.args.ops.now) n)) }

pub loop-i-preserved : goal.loop-i-preserved
loop-i-preserved c = record {
  few = (let a = c.visits-count.ensures.small in let b = c.loop-i.invariant.few in omega (arith, a, b));
  counted = λ n w.
      counted_more c.args.ops.now n c.loop-i.i c.loop-i.count c.visits-count.result _ c.index-ops-i.result
      (let l = length-map c.args.ops.now op_of in let b = c.requires in let t = c.loop-i-test.true in omega (arith, l, b, t)) c.index-ops-i.is (w c.loop-i.i) (c.loop-i.invariant.counted n w)
      c.visits-count.ensures.visits;
}
