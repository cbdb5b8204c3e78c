use Rattle.std.proofs.Common.{◌≡◌, ◌∙◌, false, sym}
use Rattle.std.specs.Str.{bytes_eq}
use Rattle.lxp_core.specs.View.{Keeps}
use Rattle.mix_session.proofs.Walking.{stays_twice}
use Rattle.mix_session.proofs.Searches.{sought_found, sought_costs, more_costs, sought_more, sought_none}
use Rattle.mix_session.proofs.searching.search.Goals as goal

pub returns-then-same_label-clause-found : goal.returns-then-same_label-clause-found
returns-then-same_label-clause-found g c =
    let view = g.S.Sources.view in
    let m = g.W.Walker.means (view c.args.s.now) c.args.walker.now in
    let m' = g.W.Walker.means (view c.siblings.s) c.siblings.walker in
    let so = c.siblings.invariant.sought in
    let reads = c.read_label.ensures (view c.siblings.s) so.stays.ready in
    sought_found m c.args.label.now c.args.first m' (view c.args.s.now).fills (view c.siblings.s).fills c.siblings.node so c.read_label.result.now reads
    (view c.args.s.now).faults (view c.siblings.s).faults (sym c.same_label.ensures ∙ c.if-same_label.true)

pub returns-then-same_label-clause-cost : goal.returns-then-same_label-clause-cost
returns-then-same_label-clause-cost g c =
    let view = g.S.Sources.view in
    let m = g.W.Walker.means (view c.args.s.now) c.args.walker.now in
    let m' = g.W.Walker.means (view c.siblings.s) c.siblings.walker in
    let so = c.siblings.invariant.sought in
    let reads = c.read_label.ensures (view c.siblings.s) so.stays.ready in
    sought_costs m c.args.label.now c.args.first m' (view c.args.s.now).fills (view c.siblings.s).fills c.siblings.node so c.read_label.result.now reads

pub returns-in_err-next-clause-cost : goal.returns-in_err-next-clause-cost
returns-in_err-next-clause-cost g c =
    let view = g.S.Sources.view in
    let m = g.W.Walker.means (view c.args.s.now) c.args.walker.now in
    let m' = g.W.Walker.means (view c.siblings.s) c.siblings.walker in
    let m'' = g.W.Walker.means (view c.seek.new.s) c.seek.new.self in
    let so = c.siblings.invariant.sought in
    let reads = c.read_label.ensures (view c.siblings.s) so.stays.ready in
    let other : bytes_eq c.read_label.result.now c.args.label.now ≡ false = sym c.same_label.ensures ∙ c.if-same_label.false in
    more_costs m c.args.label.now c.args.first m' (view c.args.s.now).fills (view c.siblings.s).fills c.siblings.node so c.read_label.result.now reads m'' (view c.seek.new.s).fills other c.seek.ensures.stays c.seek.ensures.cost

pub returns-in-None-clause-cost : goal.returns-in-None-clause-cost
returns-in-None-clause-cost g c =
    let view = g.S.Sources.view in
    let m = g.W.Walker.means (view c.args.s.now) c.args.walker.now in
    let m' = g.W.Walker.means (view c.siblings.s) c.siblings.walker in
    let m'' = g.W.Walker.means (view c.seek.new.s) c.seek.new.self in
    let so = c.siblings.invariant.sought in
    let reads = c.read_label.ensures (view c.siblings.s) so.stays.ready in
    let other : bytes_eq c.read_label.result.now c.args.label.now ≡ false = sym c.same_label.ensures ∙ c.if-same_label.false in
    more_costs m c.args.label.now c.args.first m' (view c.args.s.now).fills (view c.siblings.s).fills c.siblings.node so c.read_label.result.now reads m'' (view c.seek.new.s).fills other c.seek.ensures.stays c.seek.ensures.cost

pub returns-in-Fault-clause-cost : goal.returns-in-Fault-clause-cost
returns-in-Fault-clause-cost g c =
    let view = g.S.Sources.view in
    let m = g.W.Walker.means (view c.args.s.now) c.args.walker.now in
    let m' = g.W.Walker.means (view c.siblings.s) c.siblings.walker in
    let m'' = g.W.Walker.means (view c.seek.new.s) c.seek.new.self in
    let so = c.siblings.invariant.sought in
    let reads = c.read_label.ensures (view c.siblings.s) so.stays.ready in
    let other : bytes_eq c.read_label.result.now c.args.label.now ≡ false = sym c.same_label.ensures ∙ c.if-same_label.false in
    more_costs m c.args.label.now c.args.first m' (view c.args.s.now).fills (view c.siblings.s).fills c.siblings.node so c.read_label.result.now reads m'' (view c.seek.new.s).fills other c.seek.ensures.stays c.seek.ensures.cost

pub siblings-preserved : goal.siblings-preserved
siblings-preserved g c =
    let view = g.S.Sources.view in
    let m = g.W.Walker.means (view c.args.s.now) c.args.walker.now in
    let m' = g.W.Walker.means (view c.siblings.s) c.siblings.walker in
    let m'' = g.W.Walker.means (view c.seek.new.s) c.seek.new.self in
    let so = c.siblings.invariant.sought in
    let reads = c.read_label.ensures (view c.siblings.s) so.stays.ready in
    let other : bytes_eq c.read_label.result.now c.args.label.now ≡ false = sym c.same_label.ensures ∙ c.if-same_label.false in
    let keeps : Keeps (view c.args.s.now) (view c.siblings.s) = g.met.S.Sources.keeps _ _ c.siblings.invariant.came in
    record {
      came = g.met.S.Sources.after _ _ _ c.siblings.invariant.came c.seek.ensures.came;
      kept = g.met.W.Walker.twice _ _ _ _ _ _ c.siblings.invariant.kept c.seek.ensures.kept;
      sought = sought_more m c.args.label.now c.args.first m' (view c.args.s.now).fills (view c.siblings.s).fills c.siblings.node so c.read_label.result.now reads m'' (view c.seek.new.s).fills other c.seek.ensures.stays
          c.seek.ensures.cost (view c.args.s.now).faults (view c.siblings.s).faults (view c.seek.new.s).faults keeps.faults c.in_ok-next.field-0 c.in_ok-next.ensures.found c.in-Node.next c.in-Node.is;
    }

pub returns-in-None-clause-found : goal.returns-in-None-clause-found
returns-in-None-clause-found g c =
    let view = g.S.Sources.view in
    let m = g.W.Walker.means (view c.args.s.now) c.args.walker.now in
    let m' = g.W.Walker.means (view c.siblings.s) c.siblings.walker in
    let m'' = g.W.Walker.means (view c.seek.new.s) c.seek.new.self in
    let so = c.siblings.invariant.sought in
    let reads = c.read_label.ensures (view c.siblings.s) so.stays.ready in
    let other : bytes_eq c.read_label.result.now c.args.label.now ≡ false = sym c.same_label.ensures ∙ c.if-same_label.false in
    let keeps : Keeps (view c.args.s.now) (view c.siblings.s) = g.met.S.Sources.keeps _ _ c.siblings.invariant.came in
    sought_none m c.args.label.now c.args.first m' (view c.args.s.now).fills (view c.siblings.s).fills c.siblings.node so c.read_label.result.now reads m'' (view c.seek.new.s).fills other c.seek.ensures.stays
    c.seek.ensures.cost (view c.args.s.now).faults (view c.siblings.s).faults (view c.seek.new.s).faults keeps.faults c.in_ok-next.field-0 c.in_ok-next.ensures.found c.in-None.is

pub returns-in_err-next-clause-came : goal.returns-in_err-next-clause-came
returns-in_err-next-clause-came g c = g.met.S.Sources.after _ _ _ c.siblings.invariant.came c.seek.ensures.came

pub returns-in_err-next-clause-kept : goal.returns-in_err-next-clause-kept
returns-in_err-next-clause-kept g c = g.met.W.Walker.twice _ _ _ _ _ _ c.siblings.invariant.kept c.seek.ensures.kept

pub returns-in_err-next-clause-stays : goal.returns-in_err-next-clause-stays
returns-in_err-next-clause-stays g c = stays_twice c.siblings.invariant.sought.stays c.seek.ensures.stays

pub returns-in-None-clause-came : goal.returns-in-None-clause-came
returns-in-None-clause-came g c = g.met.S.Sources.after _ _ _ c.siblings.invariant.came c.seek.ensures.came

pub returns-in-None-clause-kept : goal.returns-in-None-clause-kept
returns-in-None-clause-kept g c = g.met.W.Walker.twice _ _ _ _ _ _ c.siblings.invariant.kept c.seek.ensures.kept

pub returns-in-None-clause-stays : goal.returns-in-None-clause-stays
returns-in-None-clause-stays g c = stays_twice c.siblings.invariant.sought.stays c.seek.ensures.stays

pub returns-in-Fault-clause-came : goal.returns-in-Fault-clause-came
returns-in-Fault-clause-came g c = g.met.S.Sources.after _ _ _ c.siblings.invariant.came c.seek.ensures.came

pub returns-in-Fault-clause-kept : goal.returns-in-Fault-clause-kept
returns-in-Fault-clause-kept g c = g.met.W.Walker.twice _ _ _ _ _ _ c.siblings.invariant.kept c.seek.ensures.kept

pub returns-in-Fault-clause-stays : goal.returns-in-Fault-clause-stays
returns-in-Fault-clause-stays g c = stays_twice c.siblings.invariant.sought.stays c.seek.ensures.stays
