use Rattle.mix_reach.specs.Stores.{stores_in}
use Rattle.mix_run.specs.Running.{given_by, run_lines}
use Rattle.mix_run.proofs.RunCourse.{run_done, run_stopped, unready_stops}
use Rattle.mix_run.proofs.running.run.Goals as goal

pub returns-in-Ok-clause-done : goal.returns-in-Ok-clause-done
returns-in-Ok-clause-done g c =
    let files = g.F.Files.view in
    let stores = stores_in g.T.Tables.view g.R.Fars.view in
    let sink = g.K.Sink.view in
    run_done c.args.running.now.form (run_lines c.args.running.now.form) (files c.args.files.now) (files c.make_ready.new.files) (stores c.args.stores) (stores c.run_ready.result.1) c.args.running.now.file.now c.args.running.now.catalog.now c.args.running.now.script.now c.in-Ok.ready
    c.in-Ok.ensures.ok c.visited_are_matches.ensures (λ p valid d. c.valid_plans_have_documents.ensures p valid d) (sink c.args.out.now) (sink c.run_ready.new.out) c.run_ready.result.0 c.run_ready.ensures.done

pub returns-in-Ok-clause-stop : goal.returns-in-Ok-clause-stop
returns-in-Ok-clause-stop g c =
    let files = g.F.Files.view in
    let stores = stores_in g.T.Tables.view g.R.Fars.view in
    let sink = g.K.Sink.view in
    run_stopped c.args.running.now.form (run_lines c.args.running.now.form) (files c.args.files.now) (files c.make_ready.new.files) (stores c.args.stores) (stores c.run_ready.result.1) c.args.running.now.file.now c.args.running.now.catalog.now c.args.running.now.script.now c.in-Ok.ready
    c.in-Ok.ensures.ok c.visited_are_matches.ensures (λ p valid d. c.valid_plans_have_documents.ensures p valid d) (sink c.args.out.now) (sink c.run_ready.new.out) c.run_ready.result.0 c.run_ready.ensures.stop

pub returns-in-Err-clause-stop : goal.returns-in-Err-clause-stop
returns-in-Err-clause-stop g c =
    let files = g.F.Files.view in
    unready_stops (given_by c.args.running.now.form) (run_lines c.args.running.now.form) (files c.args.files.now) (files c.make_ready.new.files) (stores_in g.T.Tables.view g.R.Fars.view c.args.stores) c.args.running.now.file.now c.args.running.now.catalog.now c.args.running.now.script.now (g.K.Sink.view c.args.out.now) c.in-Err.stop
    c.in-Err.ensures.err
