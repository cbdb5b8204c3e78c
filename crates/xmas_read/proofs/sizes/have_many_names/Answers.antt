use Rattle.std.proofs.Common.{◌≡◌, ◌≤◌, ap, map, length, arith}
use Rattle.std.specs.Str.{bytes_eq}
use Rattle.mix_base.proofs.Seen.{distinct_all}
use Rattle.xmas_read.proofs.Naming.{bytes_same, many_noted, none_left, none_more, note_step}
use Rattle.xmas_read.proofs.sizes.have_many_names.Goals as goal

pub loop-var-init : goal.loop-var-init
loop-var-init c = rw c.new-names.ensures.items record {
  few = omega arith;
  count = none_more _ _ (ap length (distinct_all bytes_eq bytes_same (map (λ v. v.now.name) c.args.vars.now)));
}

pub loop-var-preserved : goal.loop-var-preserved
loop-var-preserved c = record {
  few = omega (arith, c.len.ensures, c.if-len-gt-VARIABLES.false);
  count = note_step c.args.vars.now c.loop-var.var-index c.var-item.result c.loop-var.names.items c.note_name.new.names.items _ c.loop-var-test.true c.var-item.is c.in_ok-note_name.ensures c.loop-var.invariant.count;
}

pub returns-then-len-gt-VARIABLES : goal.returns-then-len-gt-VARIABLES
returns-then-len-gt-VARIABLES c =
    many_noted _ _ _ (omega (arith, c.len.ensures, c.if-len-gt-VARIABLES.true))
    (note_step c.args.vars.now c.loop-var.var-index c.var-item.result c.loop-var.names.items c.note_name.new.names.items _ c.loop-var-test.true c.var-item.is c.in_ok-note_name.ensures c.loop-var.invariant.count)

pub returns : goal.returns
returns c = none_left c.args.vars.now c.loop-var.var-index c.loop-var.names.items _ c.loop-var-test.false c.loop-var.invariant.few c.loop-var.invariant.count
