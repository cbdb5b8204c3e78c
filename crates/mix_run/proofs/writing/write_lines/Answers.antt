use Rattle.std.proofs.Common.{◌≡◌, ◌∙◌, ◌++◌, ℕ, List, ap, subst, arith, append_assoc}
use Rattle.std.proofs.lemmas.List.{take-append-drop}
use Rattle.std.proofs.lemmas.Result.{err_from_is_err_and}
use Rattle.mix_io.proofs.Written.{one_more}
use Rattle.mix_run.specs.Stops.{IsCut}
use Rattle.mix_run.proofs.Lines.{cut_later}
use Rattle.mix_run.proofs.writing.write_lines.Goals as goal

pub returns-in_err-write_line-clause-err : goal.returns-in_err-write_line-clause-err
returns-in_err-write_line-clause-err g c =
    let view = g.K.Sink.view in
    let sofar = c.loop-rest.invariant.done in
    let whole : c.split_at.result.0.now ++ c.split_at.result.1.now ≡ c.loop-rest.rest.now = rw (c.split_at.ensures.front, c.split_at.ensures.back) (take-append-drop c.line_end.result c.loop-rest.rest.now) in
    let p = err_from_is_err_and c.from_residual.result c.from_residual.ensures.1 in
    rw (p.1, p.2) (subst (λ (lines : List ℕ). IsCut (view c.args.out.now) (view c.write_line.new.out) lines c.in_err-write_line.field-0.0) (ap (λ r. sofar.0 ++ r) whole ∙ sofar.2)
    (cut_later (view c.args.out.now) (view c.loop-rest.out) (view c.write_line.new.out) sofar.0 c.split_at.result.0.now c.split_at.result.1.now c.in_err-write_line.field-0.0 sofar.1 c.loop-rest.invariant.count c.in_err-write_line.ensures.err))

pub loop-rest-preserved : goal.loop-rest-preserved
loop-rest-preserved g c =
    let view = g.K.Sink.view in
    let sofar = c.loop-rest.invariant.done in
    let whole : c.split_at.result.0.now ++ c.split_at.result.1.now ≡ c.loop-rest.rest.now = rw (c.split_at.ensures.front, c.split_at.ensures.back) (take-append-drop c.line_end.result c.loop-rest.rest.now) in
    record {
      count = omega (arith, c.loop-rest.invariant.count, c.in_ok-write_line.ensures.count);
      done = (
        sofar.0 ++ c.split_at.result.0.now,
        one_more (view c.args.out.now).written (view c.loop-rest.out).written (view c.write_line.new.out).written sofar.0 c.split_at.result.0.now sofar.1 c.in_ok-write_line.ensures.ok,
        append_assoc sofar.0 c.split_at.result.0.now c.split_at.result.1.now ∙ ap (λ r. sofar.0 ++ r) whole ∙ sofar.2,
      );
    }
