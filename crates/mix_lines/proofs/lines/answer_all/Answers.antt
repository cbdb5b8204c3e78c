use Rattle.std.proofs.Common.{◌++◌, [], Ok, Err, ap, arith, subst, sym}
use Rattle.std.proofs.lemmas.Result.{err_from_is_err_and}
use Rattle.mix_script.specs.Names.{held}
use Rattle.mix_session.specs.Stepped.{LetsAll}
use Rattle.mix_lines.specs.Answered.{AreAnswered}
use Rattle.mix_lines.specs.Cuts.{of_take}
use Rattle.mix_lines.specs.Heard.{steps_in}
use Rattle.mix_lines.proofs.Answering.{request_cut, request_told}
use Rattle.mix_lines.proofs.Ended.{answered_all, answered_cut, answered_failed}
use Rattle.mix_lines.proofs.Far.{far_start}
use Rattle.mix_lines.proofs.Letting.{lets_all_on, lets_later}
use Rattle.mix_lines.proofs.Telling.{steps_append}
use Rattle.mix_lines.proofs.lines.answer_all.Goals as goal

pub requests-init : goal.requests-init
requests-init g c =
    let v = g.S.Sources.view c.args.s.now in
    let session = c.open-session.ensures in
    record {
      came = g.met.S.Sources.same c.args.s.now;
      count = omega arith;
      ready = c.requires.requests;
      far = (
        [],
        g.met.R.Requests.same c.args.asking.requests c.args.from.now,
        far_start (g.W.Walker.means v c.open-session.result.walker) v (held c.open-session.result.names) c.args.asking.names.now (g.K.Sink.view c.args.out.now).written (session.session v c.requires.ready) session.names,
      );
    }

pub next-requires : goal.next-requires
next-requires g c = c.requests.invariant.ready

pub returns-in_err-next-clause-came : goal.returns-in_err-next-clause-came
returns-in_err-next-clause-came g c = c.requests.invariant.came

pub returns-in_err-next-clause-answered : goal.returns-in_err-next-clause-answered
returns-in_err-next-clause-answered g c =
    let view = g.S.Sources.view in
    let means = g.W.Walker.means in
    let sink = g.K.Sink.view in
    let old = view c.args.s.now in
    let now = view c.requests.s in
    let names = c.args.asking.names.now in
    let come = g.R.Requests.come c.args.asking.requests c.args.from.now in
    let p = err_from_is_err_and c.from_residual.result c.from_residual.ensures.1 in
    let fault = c.in_err-next.field-0.0 in
    let far = c.requests.invariant.far in
    rw (p.1, p.2)
    (subst
    (λ w. AreAnswered come g.R.Requests.moved g.R.Requests.IsReady g.R.Requests.asks (means old w).course old now names c.next.new.from (sink c.args.out.now) (sink c.requests.out) (Err (of_take fault)))
    c.open-session.ensures.walker
    (answered_failed come g.R.Requests.moved g.R.Requests.IsReady g.R.Requests.asks (means old c.open-session.result.walker).course (means now c.requests.session.walker) old now (held c.requests.session.names) names
    (sink c.args.out.now) (sink c.requests.out) c.requests.marked c.requests.requests c.requests.from c.requests.invariant.ready far.0 far.1 far.2 c.next.new.self c.next.new.from fault c.in_err-next.ensures.moved))

pub returns-in_err-next-clause-count : goal.returns-in_err-next-clause-count
returns-in_err-next-clause-count g c = c.requests.invariant.count

pub answer_request-requires-clause-session : goal.answer_request-requires-clause-session
answer_request-requires-clause-session g c = c.requests.invariant.far.2.session

pub answer_request-requires-clause-names : goal.answer_request-requires-clause-names
answer_request-requires-clause-names g c = λ n may.
    c.requires.names n
    (subst (λ w. (g.W.Walker.means (g.S.Sources.view c.args.s.now) w).course.MayFail n) c.open-session.ensures.walker ((c.requests.invariant.far.2.so []).course.may n may))

pub answer_request-requires-clause-lets : goal.answer_request-requires-clause-lets
answer_request-requires-clause-lets g c =
    let means = g.W.Walker.means in
    let view = g.S.Sources.view in
    let far = c.requests.invariant.far in
    let start = (means (view c.args.s.now) c.open-session.result.walker).course in
    let now = (means (view c.requests.s) c.requests.session.walker).course in
    let asks = g.R.Requests.asks c.next.new.self in
    let moved = subst (λ b. g.R.Requests.moved c.requests.requests c.requests.from c.next.new.self c.next.new.from (Ok b)) c.if-branch.true c.in_ok-next.ensures.moved in
    let come = g.met.R.Requests.after c.args.asking.requests c.args.from.now c.requests.requests c.requests.from c.next.new.self c.next.new.from far.0 far.1 c.requests.invariant.ready moved in
    let all : LetsAll start (steps_in (far.0 ++ asks)) =
    subst (λ w. LetsAll (means (view c.args.s.now) w).course (steps_in (far.0 ++ asks))) (sym c.open-session.ensures.walker) (c.requires.lets c.next.new.self c.next.new.from (far.0 ++ asks) come) in
    let last = lets_later start (steps_in far.0) (steps_in asks) (subst (LetsAll start) (steps_append far.0 asks) all) in
    subst (λ h. LetsAll now (steps_in h)) (sym c.current-request.ensures) (lets_all_on start now (far.2.so []).course (steps_in asks) last)

pub returns-in_err-fault-clause-came : goal.returns-in_err-fault-clause-came
returns-in_err-fault-clause-came g c = g.met.S.Sources.after _ _ _ c.requests.invariant.came c.answer_request.ensures.came

pub returns-in_err-fault-clause-answered : goal.returns-in_err-fault-clause-answered
returns-in_err-fault-clause-answered g c =
    let view = g.S.Sources.view in
    let means = g.W.Walker.means in
    let sink = g.K.Sink.view in
    let old = view c.args.s.now in
    let now = view c.requests.s in
    let then = view c.answer_request.new.s in
    let names = c.args.asking.names.now in
    let come = g.R.Requests.come c.args.asking.requests c.args.from.now in
    let p = err_from_is_err_and c.from_residual-in_err-fault.result c.from_residual-in_err-fault.ensures.1 in
    let fault = c.in_err-fault.field-0.0 in
    let far = c.requests.invariant.far in
    let course = (means old c.open-session.result.walker).course in
    let keeps = g.met.S.Sources.keeps _ _ c.answer_request.ensures.came in
    let moved = subst (λ b. g.R.Requests.moved c.requests.requests c.requests.from c.next.new.self c.next.new.from (Ok b)) c.if-branch.true c.in_ok-next.ensures.moved in
    let cut =
    request_cut c.requests.s c.answer_request.new.s c.requests.session c.answer_request.new.session view (λ s session. means (view s) session.walker) (λ session. held session.names) course old names far.0
    (sink c.args.out.now) (sink c.requests.out) (sink c.answer_request.new.out) c.requests.marked far.2 keeps.faults c.current-request.result fault c.in_err-fault.ensures.answered c.requests.invariant.count in
    rw (p.1, p.2)
    (subst (λ w. AreAnswered come g.R.Requests.moved g.R.Requests.IsReady g.R.Requests.asks (means old w).course old then names c.next.new.from (sink c.args.out.now) (sink c.answer_request.new.out) (Err fault))
    c.open-session.ensures.walker
    (answered_cut come g.R.Requests.moved g.R.Requests.IsReady g.R.Requests.asks course (means now c.requests.session.walker) old now (held c.requests.session.names) names (sink c.args.out.now) (sink c.requests.out)
    c.requests.marked c.requests.requests c.requests.from c.requests.invariant.ready far.0 far.1 far.2 c.next.new.self c.next.new.from then (sink c.answer_request.new.out) fault _ moved
    c.current-request.ensures cut.0 cut.1 cut.2))

pub returns-in_err-fault-clause-count : goal.returns-in_err-fault-clause-count
returns-in_err-fault-clause-count g c = omega (arith, c.requests.invariant.count, c.answer_request.ensures.count)

pub requests-smaller : goal.requests-smaller
requests-smaller g c = c.in_ok-next.ensures.less (ap Ok c.if-branch.true)

pub requests-preserved : goal.requests-preserved
requests-preserved g c =
    let view = g.S.Sources.view in
    let means = g.W.Walker.means in
    let sink = g.K.Sink.view in
    let far = c.requests.invariant.far in
    let asks = g.R.Requests.asks c.next.new.self in
    let keeps = g.met.S.Sources.keeps _ _ c.answer_request.ensures.came in
    let moved = subst (λ b. g.R.Requests.moved c.requests.requests c.requests.from c.next.new.self c.next.new.from (Ok b)) c.if-branch.true c.in_ok-next.ensures.moved in
    let told =
    request_told c.requests.s c.answer_request.new.s c.requests.session c.answer_request.new.session view (λ s session. means (view s) session.walker) (λ session. held session.names)
    (means (view c.args.s.now) c.open-session.result.walker).course (view c.args.s.now) c.args.asking.names.now far.0 (sink c.args.out.now) (sink c.requests.out) (sink c.answer_request.new.out) c.requests.marked far.2
    keeps.faults c.current-request.result c.in_ok-fault.fault c.in_ok-fault.ensures.answered in
    record {
      came = g.met.S.Sources.after _ _ _ c.requests.invariant.came c.answer_request.ensures.came;
      count = omega (arith, c.requests.invariant.count, c.answer_request.ensures.count);
      ready = c.in_ok-next.ensures.ready (ap Ok c.if-branch.true);
      far = (
        far.0 ++ asks,
        g.met.R.Requests.after c.args.asking.requests c.args.from.now c.requests.requests c.requests.from c.next.new.self c.next.new.from far.0 far.1 c.requests.invariant.ready moved,
        rw (sym c.current-request.ensures) told,
      );
    }

pub returns-clause-came : goal.returns-clause-came
returns-clause-came g c = c.requests.invariant.came

pub returns-clause-answered : goal.returns-clause-answered
returns-clause-answered g c =
    let view = g.S.Sources.view in
    let means = g.W.Walker.means in
    let sink = g.K.Sink.view in
    let old = view c.args.s.now in
    let now = view c.requests.s in
    let names = c.args.asking.names.now in
    let come = g.R.Requests.come c.args.asking.requests c.args.from.now in
    let far = c.requests.invariant.far in
    subst (λ w. AreAnswered come g.R.Requests.moved g.R.Requests.IsReady g.R.Requests.asks (means old w).course old now names c.next.new.from (sink c.args.out.now) (sink c.requests.out) (Ok c.requests.marked))
    c.open-session.ensures.walker
    (answered_all come g.R.Requests.moved g.R.Requests.IsReady g.R.Requests.asks (means old c.open-session.result.walker).course (means now c.requests.session.walker) old now (held c.requests.session.names) names
    (sink c.args.out.now) (sink c.requests.out) c.requests.marked c.requests.requests c.requests.from c.requests.invariant.ready far.0 far.1 far.2 c.next.new.self c.next.new.from (subst (λ b. g.R.Requests.moved c.requests.requests c.requests.from c.next.new.self c.next.new.from (Ok b)) c.if-branch.false c.in_ok-next.ensures.moved))

pub returns-clause-count : goal.returns-clause-count
returns-clause-count g c = c.requests.invariant.count
