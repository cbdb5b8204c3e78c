use Rattle.std.proofs.Common.{◌∙◌, List, ap, inl, inr, refl, subst, sym}
use Rattle.std.proofs.lemmas.Result.{err_from_is_err_and}
use Rattle.plan_core.specs.PlanMade.{plan_value}
use Rattle.plan_core.specs.declared.plan.Plan.{Plan}
use Rattle.lazy_value.specs.Named.{state_of}
use Rattle.plan_core.specs.Plans.{Operator}
use Rattle.plan_evidence.specs.Held.{UsesHeld}
use Rattle.mix_session.specs.Walks.{plan_course}
use Rattle.mix_lines.specs.Talks.{HeardEnds}
use Rattle.mix_run.proofs.talking.talk_over.Goals as goal

pub returns-clause-end : goal.returns-clause-end
returns-clause-end g c =
    let old = g.S.Sources.view c.args.sources.now in
    let new = g.S.Sources.view c.talk_lines.new.s in
    let m = c.in_ok-mediator.mediator in
    inl (record {
      mediator = m;
      ops_are = ap (λ (q : Plan). (plan_value q).ops) c.in_ok-mediator.ensures.plan;
      ends = subst (λ n. HeardEnds (plan_course (state_of old m)) old new n (g.I.Input.view c.args.streams.now.input) (g.I.Input.view c.talk_lines.new.streams.input) (g.K.Sink.view c.args.streams.now.out)
          (g.K.Sink.view c.talk_lines.new.streams.out) c.talk_lines.result) (c.deref.ensures.value ∙ c.in_ok-names.ensures) c.talk_lines.ensures.ends;
    })

pub returns-in_err-names-clause-end : goal.returns-in_err-names-clause-end
returns-in_err-names-clause-end g c =
    let p = err_from_is_err_and c.from_residual.result c.from_residual.ensures.1 in
    inr (rw (p.1, p.2) refl, refl, refl, refl)

pub returns-in_err-mediator-clause-end : goal.returns-in_err-mediator-clause-end
returns-in_err-mediator-clause-end g c =
    let p = err_from_is_err_and c.from_residual-in_err-mediator.result c.from_residual-in_err-mediator.ensures.1 in
    inr (rw (p.1, p.2) refl, refl, refl, refl)

pub talk_lines-requires-clause-lets : goal.talk_lines-requires-clause-lets
talk_lines-requires-clause-lets g c =
    (tt, subst (λ (ops : List Operator). UsesHeld ops) (sym (ap (λ (q : Plan). (plan_value q).ops) c.in_ok-mediator.ensures.plan)) c.requires.uses)
