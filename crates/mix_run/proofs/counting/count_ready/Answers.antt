use Rattle.std.proofs.Common.{ap, length}
use Rattle.mix_run.proofs.CountedRuns.{AreCounts, counted_done, counted_stopped}
use Rattle.mix_reach.specs.Stores.{stores_in}
use Rattle.mix_run.specs.Running.{placed}
use Rattle.mix_run.specs.declared.counting.Counts.{Counts}
use Rattle.mix_run.proofs.counting.count_ready.Goals as goal

pub returns-clause-done : goal.returns-clause-done
returns-clause-done g c =
    let old = stores_in g.T.Tables.view g.R.Fars.view c.args.stores in
    let new = stores_in g.T.Tables.view g.R.Fars.view c.answer-answered.result.stores in
    let counts : Counts = record { commands = length c.as_slice.result.now; spent = c.answer-answered.result.spent; class = c.in-Ok.class } in
    let are : AreCounts old new c.args.ready.asked counts = record { commands = ap length c.as_slice.ensures.value; pages = c.answer-answered.ensures.pages; class = c.in-Ok.ensures } in
    counted_done old new (placed c.args.ready) c.args.ready.asked counts are (g.K.Sink.view c.args.out.now) (g.K.Sink.view c.answer-answered.new.out) (g.K.Sink.view c.write_counts.new.out)
    c.answer-answered.ensures.count c.answer-answered.result.end c.write_counts.result c.answer-answered.ensures.end c.write_counts.ensures.ok

pub returns-clause-stop : goal.returns-clause-stop
returns-clause-stop g c =
    let old = stores_in g.T.Tables.view g.R.Fars.view c.args.stores in
    let new = stores_in g.T.Tables.view g.R.Fars.view c.answer-answered.result.stores in
    let counts : Counts = record { commands = length c.as_slice.result.now; spent = c.answer-answered.result.spent; class = c.in-Ok.class } in
    let are : AreCounts old new c.args.ready.asked counts = record { commands = ap length c.as_slice.ensures.value; pages = c.answer-answered.ensures.pages; class = c.in-Ok.ensures } in
    counted_stopped old new (placed c.args.ready) c.args.ready.asked counts are (g.K.Sink.view c.args.out.now) (g.K.Sink.view c.answer-answered.new.out) (g.K.Sink.view c.write_counts.new.out)
    c.answer-answered.ensures.count c.answer-answered.result.end c.write_counts.result c.answer-answered.ensures.end c.write_counts.ensures.err
