use Rattle.std.proofs.Common.{◌∙◌, ap, sym}
use Rattle.mix_mount.specs.Mounts.{fills_of}
use Rattle.mix_reach.specs.Reach.{reaching_in}
use Rattle.mix_reach.specs.Stores.{stores_in}
use Rattle.mix_top.specs.Served.{placed}
use Rattle.mix_run.proofs.Opening.{parts_over, placed_new, stores_new}
use Rattle.mix_top.proofs.Served.{served_over}
use Rattle.mix_top.proofs.serving.serve_ready.Goals as goal

pub returns-clause-answered : goal.returns-clause-answered
returns-clause-answered g c =
    let stores = stores_in g.T.Tables.view g.R.Fars.view in
    let input = g.I.Input.view in
    let sink = g.K.Sink.view in
    let old = reaching_in g.T.Tables.view g.R.Fars.view c.new-sources.result in
    let new = reaching_in g.T.Tables.view g.R.Fars.view c.serve_requests-end.result.1 in
    served_over old new (placed c.args.held) (stores c.args.stores) (stores _) (input c.args.streams.now.input)
    (input c.serve_requests-end.new.streams.input) (sink c.args.streams.now.out) (sink c.serve_requests-end.new.streams.out) c.serve_requests-end.result.0
    (placed_new g.T.Tables.view g.R.Fars.view (placed c.args.held) c.new.result c.new-sources.result c.new.ensures.docs c.new-sources.ensures.mounted c.new-sources.ensures.sites)
    (stores_new g.T.Tables.view g.R.Fars.view c.args.stores c.new.result c.new-sources.result c.new.ensures.tables c.new-sources.ensures.mounted c.new-sources.ensures.fars)
    c.new-sources.ensures.fills (ap (λ m. fills_of m) c.new-sources.ensures.mounted ∙ c.new.ensures.fills)
    c.serve_requests-end.ensures.came
    (sym (parts_over g.T.Tables.view g.R.Fars.view c.serve_requests-end.result.1 c.into_parts-mounted.result c.into_tables-tables.result c.into_parts-mounted.ensures c.into_tables-tables.ensures)) c.serve_requests-end.ensures.ends
