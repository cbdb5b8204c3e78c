use Rattle.std.proofs.Common.{◌≡◌, ◌∙◌, ◌+◌, ◌-◌, ◌^◌, ◌≤◌, Err, ap, length, sym, subst}
use Rattle.mix_run.proofs.Finishing.{finished_for}
use Rattle.mix_run.proofs.Opened.{stackable}
use Rattle.mix_place.specs.declared.refusal.Stop.TheVariants.{OutOfMemory}
use Rattle.lxp_remote.specs.Remotes as remote
use Rattle.lxp_wire.specs.Stream.{sources_of}
use Rattle.mix_loop.specs.Loops.{looped}
use Rattle.mix_reach.specs.Reach.{reaching_in}
use Rattle.mix_reach.specs.Stores.{KeepsStores, StoresView, stores_in, stores_of}
use Rattle.plan_core.specs.PlanMade.{plan_value}
use Rattle.mix_place.specs.Placed.{ArePlaced, Placed}
use Rattle.mix_run.specs.Running.{all_documents, placed, placed_of}
use Rattle.mix_run.proofs.LinesEnd.{lines_unbegun}
use Rattle.mix_run.proofs.Opening.{placed_new, stores_new}
use Rattle.mix_run.proofs.StoodFor.{end_stood, few_unfilled, reached_end}
use Rattle.mix_run.proofs.looping.answer_looped.Goals as goal

pub returns-in-Ok-clause-end : goal.returns-in-Ok-clause-end
returns-in-Ok-clause-end g c =
    let view = g.T.Tables.view in
    let far = g.R.Fars.view in
    let asked = c.args.ready.asked in
    let r = c.in-Ok.remote in
    let r' = c.answer_over-end.result.1 in
    let a = reaching_in view far c.new-sources.result in
    let mid = reaching_in view far (sources_of r.link.server) in
    let b = reaching_in view far (sources_of r'.link.server) in
    let old = looped view far r.link r.peers.items r.fills in
    let now = looped view far r'.link r'.peers.items r'.fills in
    let came = c.answer_over-end.ensures.came in
    let stand = c.close_loop.ensures.stands a mid old c.in-Ok.ensures.opened came.1 came.0.0 in
    let place = placed_new view far (placed c.args.ready) c.new.result c.new-sources.result c.new.ensures.docs c.new-sources.ensures.mounted c.new-sources.ensures.sites in
    reached_end (remote.view_of old) (remote.view_of now) (placed c.args.ready).views asked (g.K.Sink.view c.args.out.now) (g.K.Sink.view c.answer_over-end.new.out) c.answer_over-end.result.0 c.requires.placed.0 a b c.answer_over-end.ensures.end
    (subst (λ (p : Placed). ArePlaced c.requires.placed.0 (plan_value asked.plan).ops asked.catalog p) (sym place) c.requires.placed.1) c.new-sources.ensures.fills stand
    (subst (λ s. (reaching_in view far s).mounted.tables.pages ≤ 2 ^ 64 - 1) c.close_loop.ensures.sources c.hand_back.ensures.most)
    (subst (λ s. (reaching_in view far s).fills ≤ 2 ^ 64 - 1) c.close_loop.ensures.sources c.hand_back.ensures.most_fills)
    (placed c.args.ready) (stores_in view far c.args.stores) (stores_in view far c.hand_back.result.stores) c.hand_back.result.spent.fills c.hand_back.result.end
    place (stores_new view far c.args.stores c.new.result c.new-sources.result c.new.ensures.tables c.new-sources.ensures.mounted c.new-sources.ensures.fars)
    (sym (c.hand_back.ensures.stores ∙ ap (λ s. stores_of (reaching_in view far s)) c.close_loop.ensures.sources)) (c.hand_back.ensures.fills ∙ ap (λ s. (reaching_in view far s).fills) c.close_loop.ensures.sources) c.hand_back.ensures.end

pub returns-in-Ok-clause-keeps : goal.returns-in-Ok-clause-keeps
returns-in-Ok-clause-keeps g c =
    let view = g.T.Tables.view in
    let far = g.R.Fars.view in
    let r = c.in-Ok.remote in
    let a = reaching_in view far c.new-sources.result in
    let mid = reaching_in view far (sources_of r.link.server) in
    let old = looped view far r.link r.peers.items r.fills in
    let came = c.answer_over-end.ensures.came in
    let stand = c.close_loop.ensures.stands a mid old c.in-Ok.ensures.opened came.1 came.0.0 in
    let are = c.hand_back.ensures.stores ∙ ap (λ s. stores_of (reaching_in view far s)) c.close_loop.ensures.sources in
    let keeps : KeepsStores (stores_of a) (stores_of (reaching_in view far (sources_of c.answer_over-end.result.1.link.server))) = record { tables = stand.came.mounted.tables; fars = stand.came.fars } in
    subst (λ (x : StoresView). KeepsStores x (stores_in view far c.hand_back.result.stores)) (stores_new view far c.args.stores c.new.result c.new-sources.result c.new.ensures.tables c.new-sources.ensures.mounted c.new-sources.ensures.fars)
    (subst (λ (x : StoresView). KeepsStores (stores_of a) x) (sym are) keeps)

pub returns-in-Err-clause-end : goal.returns-in-Err-clause-end
returns-in-Err-clause-end g c =
    let view = g.T.Tables.view in
    let far = g.R.Fars.view in
    let asked = c.args.ready.asked in
    let a = reaching_in view far c.new-sources.result in
    let b = reaching_in view far c.in-Err.kept in
    let before = g.K.Sink.view c.args.out.now in
    let views = (placed c.args.ready).views in
    let none : b.fills ≡ 0 = c.in-Err.ensures.unasked ∙ c.new-sources.ensures.fills in
    let found = finished_for c.plans_are_finished.ensures (plan_value asked.plan) c.requires.over.valid asked.steps.items c.requires.answerable (all_documents (stores_of a) (placed_of a views)) in
    let few : b.mounted.tables.pages ≤ a.mounted.tables.pages + b.fills = few_unfilled a b c.in-Err.ensures.refused none in
    let place = placed_new view far (placed c.args.ready) c.new.result c.new-sources.result c.new.ensures.docs c.new-sources.ensures.mounted c.new-sources.ensures.sites in
    end_stood asked before before (Err OutOfMemory) a b views (lines_unbegun a b views asked found.0 found.1 few c.in-Err.ensures.refused none before) (placed c.args.ready) (stores_in view far c.args.stores)
    (stores_in view far c.hand_back-in-Err.result.stores) c.hand_back-in-Err.result.spent.fills c.hand_back-in-Err.result.end place
    (stores_new view far c.args.stores c.new.result c.new-sources.result c.new.ensures.tables c.new-sources.ensures.mounted c.new-sources.ensures.fars) (sym c.hand_back-in-Err.ensures.stores)
    c.hand_back-in-Err.ensures.fills c.hand_back-in-Err.ensures.end

pub answer_over-end-requires-clause-views : goal.answer_over-end-requires-clause-views
answer_over-end-requires-clause-views g c =
    let view = g.T.Tables.view in
    let far = g.R.Fars.view in
    let asked = c.args.ready.asked in
    let place = placed_new view far (placed c.args.ready) c.new.result c.new-sources.result c.new.ensures.docs c.new-sources.ensures.mounted c.new-sources.ensures.sites in
    let r = c.in-Ok.remote in
    (stackable c.requires.placed.0 (plan_value asked.plan).ops asked.catalog (placed c.args.ready) c.requires.placed.1 (remote.view_of (looped view far r.link r.peers.items r.fills)).count (c.in-Ok.ensures.opened.tells.count ∙ ap (λ (p : Placed). length p.docs) place)).0

pub answer_over-end-requires-clause-number : goal.answer_over-end-requires-clause-number
answer_over-end-requires-clause-number g c =
    let view = g.T.Tables.view in
    let far = g.R.Fars.view in
    let asked = c.args.ready.asked in
    let place = placed_new view far (placed c.args.ready) c.new.result c.new-sources.result c.new.ensures.docs c.new-sources.ensures.mounted c.new-sources.ensures.sites in
    let r = c.in-Ok.remote in
    (stackable c.requires.placed.0 (plan_value asked.plan).ops asked.catalog (placed c.args.ready) c.requires.placed.1 (remote.view_of (looped view far r.link r.peers.items r.fills)).count (c.in-Ok.ensures.opened.tells.count ∙ ap (λ (p : Placed). length p.docs) place)).1
