use Rattle.std.proofs.Common.{subst, sym}
use Rattle.lazy_value.specs.Named.{state_of}
use Rattle.mix_session.specs.Walks.{plan_course}
use Rattle.mix_script.specs.Transcript.{IsRight}
use Rattle.mix_lines.proofs.Script.{lets_asked, script_ends, steps_of_script}
use Rattle.mix_lines.proofs.Telling.{ends_told}
use Rattle.mix_lines.proofs.run.run_lines.Goals as goal

pub answer_all-requires-clause-lets : goal.answer_all-requires-clause-lets
answer_all-requires-clause-lets g c = λ r x heard come.
    let v = g.S.Sources.view c.args.s.now in
    lets_asked (plan_course (state_of v c.args.m)) c.args.steps.now c.new-requests.result r heard c.new-requests.ensures.steps c.new-requests.ensures.none c.requires.lets come

pub returns-clause-ends : goal.returns-clause-ends
returns-clause-ends g c =
    let v = g.S.Sources.view c.args.s.now in
    (script_ends (plan_course (state_of v c.args.m)) v (g.S.Sources.view c.answer_all.new.s) c.args.names.now c.args.steps.now (g.K.Sink.view c.args.out.now) (g.K.Sink.view c.answer_all.new.out) c.new-requests.result
    c.new-requests.ensures.steps c.new-requests.ensures.none c.answer_all.result _ c.answer_all.ensures.answered).0

pub returns-clause-inputless : goal.returns-clause-inputless
returns-clause-inputless g c =
    let v = g.S.Sources.view c.args.s.now in
    (script_ends (plan_course (state_of v c.args.m)) v (g.S.Sources.view c.answer_all.new.s) c.args.names.now c.args.steps.now (g.K.Sink.view c.args.out.now) (g.K.Sink.view c.answer_all.new.out) c.new-requests.result
    c.new-requests.ensures.steps c.new-requests.ensures.none c.answer_all.result _ c.answer_all.ensures.answered).1

pub returns-clause-told : goal.returns-clause-told
returns-clause-told g c = λ f one right.
    let v = g.S.Sources.view c.args.s.now in
    let course = plan_course (state_of v c.args.m) in
    ends_told course v (g.S.Sources.view c.answer_all.new.s) c.args.names.now _ (g.K.Sink.view c.args.out.now) (g.K.Sink.view c.answer_all.new.out) c.answer_all.result (returns-clause-ends g c) f one
    (subst (IsRight course.NamesAt f) (sym (steps_of_script c.args.steps.now)) right)
