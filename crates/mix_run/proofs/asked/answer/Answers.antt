use Rattle.std.proofs.Common.{ap, length, subst, sym}
use Rattle.mix_run.proofs.Opened.{stackable}
use Rattle.mix_reach.specs.Reach.{reaching_in, view_of}
use Rattle.mix_reach.specs.Stores.{stores_in}
use Rattle.plan_core.specs.PlanMade.{plan_value}
use Rattle.mix_place.specs.Placed.{ArePlaced, Placed}
use Rattle.mix_run.specs.Running.{placed}
use Rattle.mix_run.proofs.Opening.{placed_new, stores_new}
use Rattle.mix_run.proofs.StoodFor.{reached_end, stands_itself}
use Rattle.mix_run.proofs.asked.answer.Goals as goal

pub returns-clause-end : goal.returns-clause-end
returns-clause-end g c =
    let stores = stores_in g.T.Tables.view g.R.Fars.view in
    let a = reaching_in g.T.Tables.view g.R.Fars.view c.new-sources.result in
    let b = reaching_in g.T.Tables.view g.R.Fars.view c.answer_over-end.result.1 in
    let place_of = placed c.args.ready in
    let asked = c.args.ready.asked in
    let place = placed_new g.T.Tables.view g.R.Fars.view (placed c.args.ready) c.new.result c.new-sources.result c.new.ensures.docs c.new-sources.ensures.mounted c.new-sources.ensures.sites in
    reached_end (view_of a) (view_of b) place_of.views asked (g.K.Sink.view c.args.out.now) (g.K.Sink.view c.answer_over-end.new.out) c.answer_over-end.result.0 c.requires.placed.0 a b c.answer_over-end.ensures.end
    (subst (λ (p : Placed). ArePlaced c.requires.placed.0 (plan_value asked.plan).ops asked.catalog p) (sym place) c.requires.placed.1) c.new-sources.ensures.fills (stands_itself a b c.answer_over-end.ensures.came) c.hand_back.ensures.most c.hand_back.ensures.most_fills
    (placed c.args.ready) (stores c.args.stores) (stores c.hand_back.result.stores) c.hand_back.result.spent.fills c.hand_back.result.end
    place (stores_new g.T.Tables.view g.R.Fars.view c.args.stores c.new.result c.new-sources.result c.new.ensures.tables c.new-sources.ensures.mounted c.new-sources.ensures.fars) (sym c.hand_back.ensures.stores) c.hand_back.ensures.fills c.hand_back.ensures.end

pub answer_over-end-requires-clause-views : goal.answer_over-end-requires-clause-views
answer_over-end-requires-clause-views g c =
    let asked = c.args.ready.asked in
    let place = placed_new g.T.Tables.view g.R.Fars.view (placed c.args.ready) c.new.result c.new-sources.result c.new.ensures.docs c.new-sources.ensures.mounted c.new-sources.ensures.sites in
    (stackable c.requires.placed.0 (plan_value asked.plan).ops asked.catalog (placed c.args.ready) c.requires.placed.1 (view_of (reaching_in g.T.Tables.view g.R.Fars.view c.new-sources.result)).count (ap (λ (p : Placed). length p.docs) place)).0

pub answer_over-end-requires-clause-number : goal.answer_over-end-requires-clause-number
answer_over-end-requires-clause-number g c =
    let asked = c.args.ready.asked in
    let place = placed_new g.T.Tables.view g.R.Fars.view (placed c.args.ready) c.new.result c.new-sources.result c.new.ensures.docs c.new-sources.ensures.mounted c.new-sources.ensures.sites in
    (stackable c.requires.placed.0 (plan_value asked.plan).ops asked.catalog (placed c.args.ready) c.requires.placed.1 (view_of (reaching_in g.T.Tables.view g.R.Fars.view c.new-sources.result)).count (ap (λ (p : Placed). length p.docs) place)).1
