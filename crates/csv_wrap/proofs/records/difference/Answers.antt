use Rattle.std.proofs.Common.{◌≡◌, sym, arith, length}
use Rattle.csv_wrap.proofs.FieldFacts.{column_at, differs_at, differs_end, differs_past, equal, field_within, same_more, unequal}
use Rattle.csv_wrap.proofs.records.difference.Goals as goal

pub returns-in_default : goal.returns-in_default
returns-in_default c = (c.columns.invariant.same, differs_past _ _ c.columns.i (sym c.in_default.ensures.value) (omega arith))

pub returns-then-ne : goal.returns-then-ne
returns-then-ne c =
    let differ = unequal c.in-Some.field.now c.bytes.result.now c.ne.result c.ne.ensures c.if-ne.true in
    let column = column_at c.args.columns.now c.columns.i c.index-columns-i.result (omega arith) c.index-columns-i.is in
    (c.columns.invariant.same, differs_at _ _ c.columns.i c.in-Some.field.now _ c.in-Some.ensures.value column (rw c.bytes.ensures.bytes at differ))

pub columns-preserved : goal.columns-preserved
columns-preserved c =
    let agree = equal c.in-Some.field.now c.bytes.result.now c.ne.result c.ne.ensures c.if-ne.false in
    let column = column_at c.args.columns.now c.columns.i c.index-columns-i.result (omega arith) c.index-columns-i.is in
    record {
      same = same_more _ _ c.columns.i c.in-Some.field.now _ c.columns.invariant.same c.in-Some.ensures.value column (rw c.bytes.ensures.bytes at agree);
      within = field_within _ c.columns.i _ c.in-Some.ensures.value;
    }

pub returns-else-len-columns : goal.returns-else-len-columns
returns-else-len-columns c =
    let at : c.columns.i ≡ length c.args.columns.now = omega arith in
    (rw (← at) c.columns.invariant.same, differs_end _ _ (length c.args.columns.now) (omega arith) (omega arith))
