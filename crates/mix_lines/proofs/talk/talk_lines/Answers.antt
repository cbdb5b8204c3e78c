use Rattle.std.proofs.lemmas.Result.{err_from_is_err_and}
use Rattle.lazy_value.specs.Named.{state_of}
use Rattle.mix_session.specs.Walks.{plan_course}
use Rattle.mix_lines.specs.Heard.{steps_in}
use Rattle.mix_lines.proofs.Hearing.{heard_ends, heard_rises, talk_unbegun}
use Rattle.mix_lines.proofs.Letting.{lets_any_steps}
use Rattle.mix_lines.proofs.talk.talk_lines.Goals as goal

pub returns-in_err-requests-clause-ends : goal.returns-in_err-requests-clause-ends
returns-in_err-requests-clause-ends g c =
    let v = g.S.Sources.view c.args.s.now in
    let p = err_from_is_err_and c.from_residual.result c.from_residual.ensures.1 in
    rw (p.1, p.2) (talk_unbegun (plan_course (state_of v c.args.m)) v c.args.names.now (g.I.Input.view c.args.streams.now.input) (g.K.Sink.view c.args.streams.now.out))

pub answer_all-requires-clause-lets : goal.answer_all-requires-clause-lets
answer_all-requires-clause-lets g c = λ r x heard come.
    let v = g.S.Sources.view c.args.s.now in
    lets_any_steps (plan_course (state_of v c.args.m)) (steps_in heard) c.requires.lets.0 c.requires.lets.1

pub returns-clause-ends : goal.returns-clause-ends
returns-clause-ends g c =
    let v = g.S.Sources.view c.args.s.now in
    heard_ends g.I.Input.view (plan_course (state_of v c.args.m)) v (g.S.Sources.view c.answer_all.new.s) c.args.names.now c.args.streams.now.input c.answer_all.new.from (g.K.Sink.view c.args.streams.now.out)
    (g.K.Sink.view c.answer_all.new.out) c.in_ok-requests.requests c.answer_all.result c.answer_all.ensures.answered c.in_ok-requests.ensures.page

pub returns-clause-input : goal.returns-clause-input
returns-clause-input g c =
    let v = g.S.Sources.view c.args.s.now in
    heard_rises g.I.Input.view (plan_course (state_of v c.args.m)) v (g.S.Sources.view c.answer_all.new.s) c.args.names.now c.args.streams.now.input c.answer_all.new.from (g.K.Sink.view c.args.streams.now.out)
    (g.K.Sink.view c.answer_all.new.out) c.in_ok-requests.requests c.answer_all.result c.answer_all.ensures.answered
