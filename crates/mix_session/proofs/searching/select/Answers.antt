use Rattle.std.proofs.lemmas.Result.{IfOk-weaker}
use Rattle.lxp_core.specs.View.{Keeps}
use Rattle.mix_session.proofs.Walking.{stays_twice}
use Rattle.mix_session.proofs.Searches.{start_costs, select_none, select_found, select_costs}
use Rattle.mix_session.proofs.searching.select.Goals as goal

pub returns-in_err-first-clause-cost : goal.returns-in_err-first-clause-cost
returns-in_err-first-clause-cost g c =
    let view = g.S.Sources.view in
    start_costs (g.W.Walker.means (view c.args.s.now) c.args.walker.now) c.args.label.now c.args.n.now (view c.args.s.now).fills (view c.seek.new.s).fills c.seek.ensures.cost

pub returns-in-None-clause-cost : goal.returns-in-None-clause-cost
returns-in-None-clause-cost g c =
    let view = g.S.Sources.view in
    start_costs (g.W.Walker.means (view c.args.s.now) c.args.walker.now) c.args.label.now c.args.n.now (view c.args.s.now).fills (view c.seek.new.s).fills c.seek.ensures.cost

pub returns-in-Fault-clause-cost : goal.returns-in-Fault-clause-cost
returns-in-Fault-clause-cost g c =
    let view = g.S.Sources.view in
    start_costs (g.W.Walker.means (view c.args.s.now) c.args.walker.now) c.args.label.now c.args.n.now (view c.args.s.now).fills (view c.seek.new.s).fills c.seek.ensures.cost

pub returns-in-None-clause-found : goal.returns-in-None-clause-found
returns-in-None-clause-found g c =
    let view = g.S.Sources.view in
    select_none (g.W.Walker.means (view c.args.s.now) c.args.walker.now) (g.W.Walker.means (view c.seek.new.s) c.seek.new.self) c.args.label.now c.args.n.now (view c.args.s.now).faults (view c.seek.new.s).faults
    (view c.args.s.now).fills (view c.seek.new.s).fills c.seek.ensures.stays c.seek.ensures.cost c.in_ok-first.field-0 c.in_ok-first.ensures.found c.in-None.is

pub returns-in-Node-clause-found : goal.returns-in-Node-clause-found
returns-in-Node-clause-found g c =
    let view = g.S.Sources.view in
    let keeps : Keeps (view c.args.s.now) (view c.seek.new.s) = g.met.S.Sources.keeps _ _ c.seek.ensures.came in
    IfOk-weaker c.search.result _ _
    (λ r is. select_found (g.W.Walker.means (view c.args.s.now) c.args.walker.now) (g.W.Walker.means (view c.seek.new.s) c.seek.new.self) c.args.label.now c.args.n.now (view c.args.s.now).faults (view c.seek.new.s).faults
    (view c.args.s.now).fills (view c.seek.new.s).fills c.seek.ensures.stays c.seek.ensures.cost c.in_ok-first.field-0 c.in_ok-first.ensures.found c.in-Node.first c.in-Node.is
    (g.W.Walker.means (view c.search.new.s) c.search.new.walker) (view c.search.new.s).faults c.search.ensures.stays keeps.faults r is) c.search.ensures.found

pub returns-in-Node-clause-cost : goal.returns-in-Node-clause-cost
returns-in-Node-clause-cost g c =
    let view = g.S.Sources.view in
    select_costs (g.W.Walker.means (view c.args.s.now) c.args.walker.now) (g.W.Walker.means (view c.seek.new.s) c.seek.new.self) c.args.label.now c.args.n.now (view c.args.s.now).faults (view c.seek.new.s).faults
    (view c.args.s.now).fills (view c.seek.new.s).fills c.seek.ensures.stays c.seek.ensures.cost c.in_ok-first.field-0 c.in_ok-first.ensures.found c.in-Node.first c.in-Node.is (view c.search.new.s).fills c.search.ensures.cost

pub returns-in-Node-clause-came : goal.returns-in-Node-clause-came
returns-in-Node-clause-came g c = g.met.S.Sources.after _ _ _ c.seek.ensures.came c.search.ensures.came

pub returns-in-Node-clause-kept : goal.returns-in-Node-clause-kept
returns-in-Node-clause-kept g c = g.met.W.Walker.twice _ _ _ _ _ _ c.seek.ensures.kept c.search.ensures.kept

pub returns-in-Node-clause-stays : goal.returns-in-Node-clause-stays
returns-in-Node-clause-stays g c = stays_twice c.seek.ensures.stays c.search.ensures.stays
