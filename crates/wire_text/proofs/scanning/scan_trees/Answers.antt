use Rattle.std.proofs.Common.{arith, ap, length}
use Rattle.std.proofs.lemmas.List.{length-append}
use Rattle.std.proofs.lemmas.Result.{err_from_is_err_and}
use Rattle.wire_text.proofs.Scans.{bytes_part, one_head, no_head, last_head}
use Rattle.wire_text.proofs.scanning.scan_trees.Goals as goal

pub loop-pending-preserved : goal.loop-pending-preserved
loop-pending-preserved c =
    let h = c.in_ok-kids.ensures in
    let long = ap length h.parts in
    record {
      goes_on = one_head c.args.text.now c.loop-pending.rest.now c.in_ok-kids.after.now c.args.count c.loop-pending.pending c.in_ok-kids.kids h c.loop-pending-test.true c.loop-pending.invariant.goes_on;
      fits = bytes_part h.prefix c.in_ok-kids.after.now c.loop-pending.rest.now h.parts c.loop-pending.invariant.fits;
      bound = omega (arith, long, length-append h.prefix c.in_ok-kids.after.now, h.some, h.few, c.loop-pending.invariant.bound);
    }

pub returns : goal.returns
returns c = last_head c.args.text.now c.loop-pending.rest.now c.args.count c.loop-pending.pending c.scan_sized.result c.loop-pending-test.false c.loop-pending.invariant.fits c.scan_sized.ensures c.loop-pending.invariant.goes_on

pub loop-pending-init : goal.loop-pending-init
loop-pending-init c = record { goes_on = λ v j. j; fits = λ i. omega (arith, c.type_inv.text i); bound = omega arith }

pub returns-in_err-kids : goal.returns-in_err-kids
returns-in_err-kids c =
    let p = err_from_is_err_and c.from_residual.result c.from_residual.ensures.1 in
    rw (p.1, p.2) (no_head c.args.text.now c.loop-pending.rest.now c.args.count c.loop-pending.pending _ c.in_err-kids.ensures c.loop-pending-test.true c.loop-pending.invariant.goes_on)
