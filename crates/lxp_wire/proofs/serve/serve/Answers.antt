use Rattle.std.proofs.Common.{arith, subst}
use Rattle.std.proofs.lemmas.List.{length-drop}
use Rattle.wire_text.specs.declared.request.RequestRead.TheVariants.{Got}
use Rattle.wire_text.specs.Request.{ReadsRequest}
use Rattle.lxp_wire.proofs.Streams.{serving_starts, serving_more, serving_fills, serving_stops}
use Rattle.lxp_wire.proofs.serve.serve.Goals as goal

pub loop-request-init : goal.loop-request-init
loop-request-init g c =
    let s = c.args.sources.now in
    record { came = g.met.S.Sources.same s; serving = serving_starts (g.S.Sources.view s) c.args.text.now c.args.out.now.items; within = omega arith }

pub returns-in_err-answer-in-Got-clause-fills : goal.returns-in_err-answer-in-Got-clause-fills
returns-in_err-answer-in-Got-clause-fills g c =
    let l = c.loop-request in
    let read = subst (λ x. ReadsRequest x (Got c.in-Got.request c.in-Got.len)) c.split_at.ensures.back c.in-Got.ensures in
    serving_stops (g.S.Sources.view c.args.sources.now) (g.S.Sources.view l.sources) (g.S.Sources.view c.answer.new.sources) c.args.text.now c.args.out.now.items l.out.items l.at c.in-Got.len c.in-Got.request
    l.invariant.serving read.0 read.1 c.answer.ensures.fills

pub loop-request-preserved : goal.loop-request-preserved
loop-request-preserved g c =
    let l = c.loop-request in
    let read = subst (λ x. ReadsRequest x (Got c.in-Got.request c.in-Got.len)) c.split_at.ensures.back c.in-Got.ensures in
    let came = c.in_ok-answer-in-Got.ensures in
    record {
      came = g.met.S.Sources.after c.args.sources.now l.sources c.answer.new.sources l.invariant.came came.came;
      serving = serving_more (g.S.Sources.view c.args.sources.now) (g.S.Sources.view l.sources) (g.S.Sources.view c.answer.new.sources) c.args.text.now c.args.out.now.items l.out.items c.answer.new.out.items l.at c.in-Got.len c.in-Got.request
          l.invariant.serving read.0 read.1 came.answered;
      within = omega (arith, read.0, length-drop l.at c.args.text.now, l.invariant.within);
    }

pub returns-in-More-clause-fills : goal.returns-in-More-clause-fills
returns-in-More-clause-fills g c =
    let l = c.loop-request in
    serving_fills (g.S.Sources.view c.args.sources.now) (g.S.Sources.view l.sources) c.args.text.now c.args.out.now.items l.out.items l.at l.invariant.serving

pub returns-in-BadTag-clause-fills : goal.returns-in-BadTag-clause-fills
returns-in-BadTag-clause-fills g c =
    let l = c.loop-request in
    serving_fills (g.S.Sources.view c.args.sources.now) (g.S.Sources.view l.sources) c.args.text.now c.args.out.now.items l.out.items l.at l.invariant.serving
