use Rattle.std.proofs.Common.{◌≡◌, sym, subst, IfOk, IfErr}
use Rattle.mix_run.specs.declared.running.RunForm.{RunForm}
use Rattle.mix_run.specs.declared.running.RunForm.TheVariants.{Answers, Executed}
use Rattle.mix_reach.specs.Stores.{stores_in}
use Rattle.mix_run.specs.Running.{LinesOver, placed, run_lines}
use Rattle.mix_run.specs.Stops.{IsDoneAs, IsStopFrom}
use Rattle.mix_run.proofs.Forms.{of_either}
use Rattle.mix_run.proofs.RunCourse.{ended_done, ended_stopped}
use Rattle.mix_run.proofs.running.run_ready.Goals as goal

pub returns-in-Answers-clause-done : goal.returns-in-Answers-clause-done
returns-in-Answers-clause-done g c =
    let old = stores_in g.T.Tables.view g.R.Fars.view c.args.stores in
    let new = stores_in g.T.Tables.view g.R.Fars.view c.answer-answered.result.stores in
    let p = placed c.args.ready in
    let asked = c.args.ready.asked in
    let before = g.K.Sink.view c.args.out.now in
    let after = g.K.Sink.view c.answer-answered.new.out in
    let end = c.answer-answered.result.end in
    let done = ended_done old new p asked before after c.answer-answered.result.spent.fills end c.answer-answered.ensures.end in
    of_either (λ form. IfOk end (IsDoneAs (LinesOver (run_lines form) old new p asked before after) before after)) c.args.form Answers Executed c.in-Answers.is done done

pub returns-in-Counts-clause-done : goal.returns-in-Counts-clause-done
returns-in-Counts-clause-done g c =
    let old = stores_in g.T.Tables.view g.R.Fars.view c.args.stores in
    let new = stores_in g.T.Tables.view g.R.Fars.view c.count_ready.result.1 in
    let before = g.K.Sink.view c.args.out.now in
    let after = g.K.Sink.view c.count_ready.new.out in
    subst (λ (form : RunForm). IfOk c.count_ready.result.0 (IsDoneAs (LinesOver (run_lines form) old new (placed c.args.ready) c.args.ready.asked before after) before after)) (sym c.in-Counts.is)
    c.count_ready.ensures.done

pub returns-in-Answers-clause-stop : goal.returns-in-Answers-clause-stop
returns-in-Answers-clause-stop g c =
    let old = stores_in g.T.Tables.view g.R.Fars.view c.args.stores in
    let new = stores_in g.T.Tables.view g.R.Fars.view c.answer-answered.result.stores in
    let p = placed c.args.ready in
    let asked = c.args.ready.asked in
    let before = g.K.Sink.view c.args.out.now in
    let after = g.K.Sink.view c.answer-answered.new.out in
    let end = c.answer-answered.result.end in
    let stopped = ended_stopped old new p asked before after c.answer-answered.result.spent.fills end c.answer-answered.ensures.end in
    of_either (λ form. IfErr end (IsStopFrom (new ≡ old) (LinesOver (run_lines form) old new p asked before after) before after)) c.args.form Answers Executed c.in-Answers.is stopped stopped

pub returns-in-Counts-clause-stop : goal.returns-in-Counts-clause-stop
returns-in-Counts-clause-stop g c =
    let old = stores_in g.T.Tables.view g.R.Fars.view c.args.stores in
    let new = stores_in g.T.Tables.view g.R.Fars.view c.count_ready.result.1 in
    let before = g.K.Sink.view c.args.out.now in
    let after = g.K.Sink.view c.count_ready.new.out in
    subst (λ (form : RunForm). IfErr c.count_ready.result.0 (IsStopFrom (new ≡ old) (LinesOver (run_lines form) old new (placed c.args.ready) c.args.ready.asked before after) before after)) (sym c.in-Counts.is)
    c.count_ready.ensures.stop

pub returns-in-Looped-clause-done : goal.returns-in-Looped-clause-done
returns-in-Looped-clause-done g c =
    let old = stores_in g.T.Tables.view g.R.Fars.view c.args.stores in
    let new = stores_in g.T.Tables.view g.R.Fars.view c.answer_looped-answered.result.stores in
    let p = placed c.args.ready in
    let asked = c.args.ready.asked in
    let before = g.K.Sink.view c.args.out.now in
    let after = g.K.Sink.view c.answer_looped-answered.new.out in
    let end = c.answer_looped-answered.result.end in
    subst (λ (form : RunForm). IfOk end (IsDoneAs (LinesOver (run_lines form) old new p asked before after) before after)) (sym c.in-Looped.is)
    (ended_done old new p asked before after c.answer_looped-answered.result.spent.fills end c.answer_looped-answered.ensures.end)

pub returns-in-Looped-clause-stop : goal.returns-in-Looped-clause-stop
returns-in-Looped-clause-stop g c =
    let old = stores_in g.T.Tables.view g.R.Fars.view c.args.stores in
    let new = stores_in g.T.Tables.view g.R.Fars.view c.answer_looped-answered.result.stores in
    let p = placed c.args.ready in
    let asked = c.args.ready.asked in
    let before = g.K.Sink.view c.args.out.now in
    let after = g.K.Sink.view c.answer_looped-answered.new.out in
    let end = c.answer_looped-answered.result.end in
    subst (λ (form : RunForm). IfErr end (IsStopFrom (new ≡ old) (LinesOver (run_lines form) old new p asked before after) before after)) (sym c.in-Looped.is)
    (ended_stopped old new p asked before after c.answer_looped-answered.result.spent.fills end c.answer_looped-answered.ensures.end)
