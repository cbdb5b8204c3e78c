use Rattle.std.proofs.Common.{◌≡◌, ◌∙◌, IfOk, IfErr, ap, subst, sym}
use Rattle.mix_script.specs.declared.step.Forms.TheVariants.{Plain, WithIds}
use Rattle.plan_core.specs.PlanMade.{plan_value}
use Rattle.plan_core.specs.declared.plan.Plan.{Plan}
use Rattle.mix_run.specs.Running.{IsPlanGiven, given_by}
use Rattle.mix_place.specs.Stops.{IsLoadStop}
use Rattle.mix_run.specs.declared.running.RunForm.{RunForm}
use Rattle.mix_run.proofs.Forms.{of_views}
use Rattle.mix_run.proofs.running.load_given.Goals as goal

pub returns-in-Answers-clause-ok : goal.returns-in-Answers-clause-ok
returns-in-Answers-clause-ok g c =
    of_views (λ form. IfOk c.load_view.result (λ (plan : Plan). IsPlanGiven form (g.F.Files.view c.args.files.now) c.args.path.now c.args.catalog.now (plan_value plan))) c.args.form c.in-Answers.is c.load_view.ensures.ok
    c.load_view.ensures.ok c.load_view.ensures.ok

pub returns-in-Answers-clause-err : goal.returns-in-Answers-clause-err
returns-in-Answers-clause-err g c =
    of_views (λ form. IfErr c.load_view.result (IsLoadStop ((given_by form).IsNone c.args.catalog.now) (g.F.Files.view c.args.files.now) (g.F.Files.view c.load_view.new.files) c.args.path.now)) c.args.form c.in-Answers.is c.load_view.ensures.err
    c.load_view.ensures.err c.load_view.ensures.err

pub returns-in-Executed-clause-ok : goal.returns-in-Executed-clause-ok
returns-in-Executed-clause-ok g c =
    subst (λ (form : RunForm). IfOk c.load_plan.result (λ (plan : Plan). IsPlanGiven form (g.F.Files.view c.args.files.now) c.args.path.now c.args.catalog.now (plan_value plan))) (sym c.in-Executed.is) c.load_plan.ensures.ok

pub returns-in-Executed-clause-err : goal.returns-in-Executed-clause-err
returns-in-Executed-clause-err g c =
    subst (λ (form : RunForm). IfErr c.load_plan.result (IsLoadStop ((given_by form).IsNone c.args.catalog.now) (g.F.Files.view c.args.files.now) (g.F.Files.view c.load_plan.new.files) c.args.path.now)) (sym c.in-Executed.is) c.load_plan.ensures.err

pub returns-in-Answers-clause-uses : goal.returns-in-Answers-clause-uses
returns-in-Answers-clause-uses g c = λ ids. c.load_view.ensures.uses

pub returns-in-Executed-clause-uses : goal.returns-in-Executed-clause-uses
returns-in-Executed-clause-uses g c = λ ids. absurd (let z : Plain ≡ WithIds = sym (ap (λ form. (given_by form).forms) c.in-Executed.is) ∙ ids in cc)
