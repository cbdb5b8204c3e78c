use Rattle.std.proofs.Common.{◌∙◌, List, ap, inl, inr, refl, subst, sym}
use Rattle.std.proofs.lemmas.Result.{err_from_is_err_and}
use Rattle.plan_core.specs.PlanMade.{plan_value}
use Rattle.plan_core.specs.declared.plan.Plan.{Plan}
use Rattle.lazy_value.specs.Named.{state_of}
use Rattle.mix_script.specs.declared.step.Step.{Step}
use Rattle.mix_session.specs.Stepped.{LetsAll}
use Rattle.mix_session.specs.Walks.{plan_course}
use Rattle.xmas_read.specs.Results.{names_of_sources}
use Rattle.mix_run.proofs.Finishing.{lets_all}
use Rattle.mix_run.proofs.LinesEnd.{renamed}
use Rattle.mix_run.proofs.asked.walk.Goals as goal

pub returns-clause-end : goal.returns-clause-end
returns-clause-end g c =
    let old = g.S.Sources.view c.args.sources.now in
    let new = g.S.Sources.view c.run_lines.new.s in
    let asked = c.args.asked in
    let m = c.in_ok-mediator.mediator in
    inl (record {
      mediator = m;
      ops_are = ap (λ (q : Plan). (plan_value q).ops) c.in_ok-mediator.ensures.plan;
      result = c.run_lines.result;
      end_is = c.end_of.ensures;
      ends = renamed (plan_course (state_of old m)) old new (names_of_sources asked.catalog) c.deref-2.result.now asked.steps.items c.deref.result.now (g.K.Sink.view c.args.out.now) (g.K.Sink.view c.run_lines.new.out)
          c.run_lines.result (c.deref-2.ensures.value ∙ c.in_ok-names.ensures) c.deref.ensures.value c.run_lines.ensures.ends;
    })

pub returns-in_err-names-clause-end : goal.returns-in_err-names-clause-end
returns-in_err-names-clause-end g c =
    let p = err_from_is_err_and c.from_residual.result c.from_residual.ensures.1 in
    inr (rw (p.1, p.2) refl, refl, refl)

pub returns-in_err-mediator-clause-end : goal.returns-in_err-mediator-clause-end
returns-in_err-mediator-clause-end g c =
    let p = err_from_is_err_and c.from_residual-in_err-mediator.result c.from_residual-in_err-mediator.ensures.1 in
    inr (rw (p.1, p.2) refl, refl, refl)

pub run_lines-requires-clause-lets : goal.run_lines-requires-clause-lets
run_lines-requires-clause-lets g c =
    let st = state_of (g.S.Sources.view c.args.sources.now) c.in_ok-mediator.mediator in
    let asked = c.args.asked in
    subst (λ (steps : List Step). LetsAll (plan_course st) steps) (sym c.deref.ensures.value)
    (lets_all st (plan_value asked.plan).ops (ap (λ (q : Plan). (plan_value q).ops) c.in_ok-mediator.ensures.plan) asked.steps.items c.requires.answerable)
