use Rattle.std.proofs.Common.{ℕ, List, Ok, Err, refl, subst}
use Rattle.plan_core.specs.PlanMade.{plan_value}
use Rattle.plan_read.specs.Results.{Answers}
use Rattle.mix_place.specs.Causes.{IsNoPlan}
use Rattle.mix_place.specs.declared.refusal.FileFault.TheVariants.{Plan}
use Rattle.mix_place.proofs.LoadLaws.{load_stop}
use Rattle.mix_place.proofs.load.load_plan.Goals as goal

pub returns-in-Ok-clause-ok : goal.returns-in-Ok-clause-ok
returns-in-Ok-clause-ok g c =
    let a : Answers c.in_ok-bytes.bytes.items c.args.catalog.now (Ok (plan_value c.in-Ok.plan)) = subst (λ (text : List ℕ). Answers text c.args.catalog.now (Ok (plan_value c.in-Ok.plan))) c.deref.ensures.value c.in-Ok.ensures.answers in
    record { text = c.in_ok-bytes.bytes.items; read = c.in_ok-bytes.ensures.ok; spelled = a.0; valid = a.1 }

pub returns-in-Ok-clause-over : goal.returns-in-Ok-clause-over
returns-in-Ok-clause-over g c = record { valid = c.in-Ok.ensures.answers.1; names = c.in-Ok.ensures.answers.0.of_catalog }

pub returns-clause-err : goal.returns-clause-err
returns-clause-err g c =
    load_stop (IsNoPlan c.args.catalog.now) (g.F.Files.view c.args.files.now) (g.F.Files.view c.load.new.files) c.args.path.now (Plan c.in-Err.fault) _ c.refused.ensures
    (c.in_ok-bytes.bytes.items, c.in_ok-bytes.ensures.ok, (c.in-Err.fault, refl, subst (λ (text : List ℕ). Answers text c.args.catalog.now (Err c.in-Err.fault)) c.deref.ensures.value c.in-Err.ensures.answers))
