use Rattle.std.proofs.Common.{◌≤◌, ◌+◌, ◌-◌, ◌^◌, ap, arith, subst, sym}
use Rattle.mix_reach.specs.Reach.{reaching_in}
use Rattle.mix_reach.specs.Stores.{StoresView, stores_in, stores_of}
use Rattle.xmas_read.specs.Results.{names_of_sources}
use Rattle.plan_core.specs.PlanMade.{plan_value}
use Rattle.mix_place.specs.Placed.{ArePlaced, Placed}
use Rattle.mix_run.specs.Running.{placed_of}
use Rattle.mix_run.specs.TalkEnds.{TalkedAlong}
use Rattle.mix_run.specs.Talking.{TalkOver, placed_talk}
use Rattle.mix_run.proofs.Opening.{parts_over, placed_new, stores_new}
use Rattle.mix_run.proofs.talking.talk_ready.Goals as goal

pub returns-clause-end : goal.returns-clause-end
returns-clause-end g c =
    let stores = stores_in g.T.Tables.view g.R.Fars.view in
    let input = g.I.Input.view in
    let sink = g.K.Sink.view in
    let old = reaching_in g.T.Tables.view g.R.Fars.view c.new-sources.result in
    let new = reaching_in g.T.Tables.view g.R.Fars.view c.talk_stacked-end.result.1 in
    let none = c.new-sources.ensures.fills in
    let pages = c.talk_stacked-end.ensures.came.pages in
    let parts = parts_over g.T.Tables.view g.R.Fars.view c.talk_stacked-end.result.1 c.into_parts-mounted.result c.into_tables-tables.result c.into_parts-mounted.ensures c.into_tables-tables.ensures in
    let same = ap (λ (v : StoresView). v.tables.pages) parts in
    let views = (placed_talk c.args.ready).views in
    let most : new.fills ≤ 2 ^ 64 - 1 = omega (arith, c.fills-fills.type_inv, c.fills-fills.ensures) in
    let few : new.mounted.tables.pages ≤ old.mounted.tables.pages + new.fills = omega (arith, none, pages, same) in
    let Along : Placed → StoresView → StoresView → Type 0 = λ place before after.
    TalkedAlong (names_of_sources c.args.ready.basis.catalog) (TalkOver new.fills before after place c.args.ready.basis) (input c.args.streams.now.input) (input c.talk_stacked-end.new.streams.input)
    (sink c.args.streams.now.out) (sink c.talk_stacked-end.new.streams.out) c.talk_stacked-end.result.0 in
    let after : StoresView = stores (record { tables = c.into_tables-tables.result; fars = c.into_parts-mounted.result.1 }) in
    let opened = stores_new g.T.Tables.view g.R.Fars.view c.args.stores c.new.result c.new-sources.result c.new.ensures.tables c.new-sources.ensures.mounted c.new-sources.ensures.fars in
    let place = placed_new g.T.Tables.view g.R.Fars.view (placed_talk c.args.ready) c.new.result c.new-sources.result c.new.ensures.docs c.new-sources.ensures.mounted c.new-sources.ensures.sites in (
      new.fills,
      subst (λ (p : Placed). Along p (stores c.args.stores) after) place
          (subst (λ (before : StoresView). Along (placed_of old views) before after) opened
          (subst (λ (now : StoresView). Along (placed_of old views) (stores_of old) now) (sym parts) (c.talk_stacked-end.ensures.end few most))),
    )

pub talk_stacked-end-requires-clause-placed : goal.talk_stacked-end-requires-clause-placed
talk_stacked-end-requires-clause-placed g c =
    let basis = c.args.ready.basis in
    let place = placed_new g.T.Tables.view g.R.Fars.view (placed_talk c.args.ready) c.new.result c.new-sources.result c.new.ensures.docs c.new-sources.ensures.mounted c.new-sources.ensures.sites in
    (c.requires.placed.0, subst (λ (p : Placed). ArePlaced c.requires.placed.0 (plan_value basis.plan).ops basis.catalog p) (sym place) c.requires.placed.1)
