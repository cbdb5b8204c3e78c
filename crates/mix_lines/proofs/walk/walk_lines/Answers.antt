use Rattle.std.proofs.Common.{map, subst, sym}
use Rattle.std.proofs.lemmas.Result.{err_from_is_err_and}
use Rattle.mix_script.specs.Transcript.{IsRight, unnamed}
use Rattle.mix_script.proofs.Namings.{plain_right}
use Rattle.mix_session.specs.Walks.{source_course, source_meaning}
use Rattle.mix_lines.specs.Ends.{Ends}
use Rattle.mix_lines.specs.Heard.{step}
use Rattle.mix_lines.proofs.Ended.{unbegun_ends}
use Rattle.mix_lines.proofs.Letting.{lets_plain}
use Rattle.mix_lines.proofs.Script.{lets_asked, script_ends, steps_of_script}
use Rattle.mix_lines.proofs.Telling.{ends_told}
use Rattle.mix_lines.proofs.walk.walk_lines.Goals as goal

pub returns-in_err-buffer-clause-ends : goal.returns-in_err-buffer-clause-ends
returns-in_err-buffer-clause-ends g c =
    let v = g.S.Sources.view c.args.s.now in
    let p = err_from_is_err_and c.from_residual.result c.from_residual.ensures.1 in
    rw (p.1, p.2) (unbegun_ends (source_course v c.args.number) v c.args.names.now (map step c.args.steps.now) (g.K.Sink.view c.args.out.now))

pub returns-in_err-buffer-clause-inputless : goal.returns-in_err-buffer-clause-inputless
returns-in_err-buffer-clause-inputless g c =
    let p = err_from_is_err_and c.from_residual.result c.from_residual.ensures.1 in
    rw (p.1, p.2) tt

pub returns-in_err-buffer-clause-told : goal.returns-in_err-buffer-clause-told
returns-in_err-buffer-clause-told g c = λ t told one.
    let v = g.S.Sources.view c.args.s.now in
    let course = source_course v c.args.number in
    let right = subst (IsRight course.NamesAt (unnamed t)) (sym (steps_of_script c.args.steps.now)) (plain_right course.NamesAt (unnamed t) c.args.steps.now c.requires.plain) in
    ends_told course v v c.args.names.now (map step c.args.steps.now) (g.K.Sink.view c.args.out.now) (g.K.Sink.view c.args.out.now) _ (returns-in_err-buffer-clause-ends g c) (unnamed t) (told, one) right

pub answer_all-requires-clause-lets : goal.answer_all-requires-clause-lets
answer_all-requires-clause-lets g c = λ r x heard come.
    let course = (source_meaning (g.S.Sources.view c.args.s.now) c.in_ok-buffer.buffer).course in
    lets_asked course c.args.steps.now c.new-requests.result r heard c.new-requests.ensures.steps c.new-requests.ensures.none (lets_plain course c.args.steps.now c.requires.plain) come

pub returns-clause-ends : goal.returns-clause-ends
returns-clause-ends g c =
    let v = g.S.Sources.view c.args.s.now in
    let new = g.S.Sources.view c.answer_all.new.s in
    subst (λ n. Ends (source_course v n) v new c.args.names.now (map step c.args.steps.now) (g.K.Sink.view c.args.out.now) (g.K.Sink.view c.answer_all.new.out) c.answer_all.result) c.in_ok-buffer.ensures.number
    (script_ends (source_meaning v c.in_ok-buffer.buffer).course v new c.args.names.now c.args.steps.now (g.K.Sink.view c.args.out.now) (g.K.Sink.view c.answer_all.new.out) c.new-requests.result
    c.new-requests.ensures.steps c.new-requests.ensures.none c.answer_all.result _ c.answer_all.ensures.answered).0

pub returns-clause-inputless : goal.returns-clause-inputless
returns-clause-inputless g c =
    let v = g.S.Sources.view c.args.s.now in
    (script_ends (source_meaning v c.in_ok-buffer.buffer).course v (g.S.Sources.view c.answer_all.new.s) c.args.names.now c.args.steps.now (g.K.Sink.view c.args.out.now) (g.K.Sink.view c.answer_all.new.out)
    c.new-requests.result c.new-requests.ensures.steps c.new-requests.ensures.none c.answer_all.result _ c.answer_all.ensures.answered).1

pub returns-clause-told : goal.returns-clause-told
returns-clause-told g c = λ t told one.
    let v = g.S.Sources.view c.args.s.now in
    let course = source_course v c.args.number in
    let right = subst (IsRight course.NamesAt (unnamed t)) (sym (steps_of_script c.args.steps.now)) (plain_right course.NamesAt (unnamed t) c.args.steps.now c.requires.plain) in
    ends_told course v (g.S.Sources.view c.answer_all.new.s) c.args.names.now (map step c.args.steps.now) (g.K.Sink.view c.args.out.now) (g.K.Sink.view c.answer_all.new.out) c.answer_all.result (returns-clause-ends g c)
    (unnamed t) (told, one) right
