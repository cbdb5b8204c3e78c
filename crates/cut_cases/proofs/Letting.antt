-- Steps that a view's plan lets be asked.
use Rattle.std.proofs.Common.{List, [], ◌∷◌}
use Rattle.plan_evidence.specs.Held.{UsesHeld}
use Rattle.lazy_plan.specs.Bench.{BenchState, ops_of}
use Rattle.mix_session.specs.Stepped.{Lets, LetsAll}
use Rattle.mix_session.specs.Walks.{plan_course}
use Rattle.mix_script.specs.declared.step.Act.{Act}
use Rattle.mix_script.specs.declared.step.Act.TheVariants.{Root, Move, Select, Fetch, Print, Id, At}
use Rattle.mix_script.specs.declared.step.Step.{Step}

-- where each operator uses what its inputs hold alone, all steps are let be answered on the plan's course
pub lets_all : (st : BenchState) → UsesHeld (ops_of st) → (steps : List Step) → LetsAll (plan_course st) steps
lets_all st uses [] = tt
lets_all st uses (step ∷ steps) = (of step.act, lets_all st uses steps)
  where
    of : (act : Act) → Lets (plan_course st) act
    of (Root name) = tt
    of (Move way name from) = tt
    of (Select name from label) = tt
    of (Fetch from) = tt
    of (Print from) = tt
    of (Id from) = tt
    of (At name node) = uses
