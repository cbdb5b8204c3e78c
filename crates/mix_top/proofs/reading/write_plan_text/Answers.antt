use Rattle.std.proofs.Common.{inr, refl, ℕ, List, OnOk, IfErr, subst}
use Rattle.std.proofs.lemmas.Result.{err_from_is_err_and}
use Rattle.mix_io.specs.Contents.{Appends}
use Rattle.mix_top.specs.Course.{Plans}
use Rattle.mix_run.specs.Running.{given_by}
use Rattle.mix_run.specs.Stops.{IsCut}
use Rattle.mix_top.proofs.StopLaws.{plan_stops, written_done, written_stopped}
use Rattle.mix_top.proofs.reading.write_plan_text.Goals as goal

pub returns-in_err-text-clause-stop : goal.returns-in_err-text-clause-stop
returns-in_err-text-clause-stop g c =
    let view = g.F.Files.view in
    let p = err_from_is_err_and c.from_residual.result c.from_residual.ensures.1 in
    rw (p.1, p.2) (plan_stops (given_by c.args.planning.now.form) (view c.args.files.now) (view c.plan_text.new.files) c.args.planning.now.file.now c.args.planning.now.catalog.now (g.K.Sink.view c.args.out.now) _ c.in_err-text.ensures.err)

pub returns-clause-done : goal.returns-clause-done
returns-clause-done g c =
    let view = g.F.Files.view in
    let before = g.K.Sink.view c.args.out.now in
    let after = g.K.Sink.view c.write_lines.new.out in
    written_done (Plans (given_by c.args.planning.now.form) (view c.args.files.now) (view c.plan_text.new.files) c.args.planning.now.file.now c.args.planning.now.catalog.now) before after c.in_ok-text.text.items (inr (refl, c.in_ok-text.ensures.ok)) c.write_lines.result
    (subst (λ (ls : List ℕ). OnOk c.write_lines.result (Appends before.written after.written ls)) c.deref.ensures.value c.write_lines.ensures.ok)

pub returns-clause-stop : goal.returns-clause-stop
returns-clause-stop g c =
    let view = g.F.Files.view in
    let before = g.K.Sink.view c.args.out.now in
    let after = g.K.Sink.view c.write_lines.new.out in
    written_stopped (Plans (given_by c.args.planning.now.form) (view c.args.files.now) (view c.plan_text.new.files) c.args.planning.now.file.now c.args.planning.now.catalog.now) before after c.in_ok-text.text.items (inr (refl, c.in_ok-text.ensures.ok)) c.write_lines.result
    (subst (λ (ls : List ℕ). IfErr c.write_lines.result (IsCut before after ls)) c.deref.ensures.value c.write_lines.ensures.err)
