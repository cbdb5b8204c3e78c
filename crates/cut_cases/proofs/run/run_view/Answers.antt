use Rattle.std.proofs.Common.{List, subst, sym}
use Rattle.lxp_memory.specs.Memory.{memory_view}
use Rattle.lazy_value.specs.Named.{state_of}
use Rattle.mix_script.specs.declared.step.Step.{Step}
use Rattle.mix_session.specs.Stepped.{LetsAll}
use Rattle.mix_session.specs.Walks.{plan_course}
use Rattle.cut_cases.proofs.Letting.{lets_all}
use Rattle.cut_cases.proofs.run.run_view.Goals as goal

pub run_lines-answer-requires-clause-lets : goal.run_lines-answer-requires-clause-lets
run_lines-answer-requires-clause-lets c =
    let st = state_of (memory_view c.in_ok-s.s.sources) c.in_ok-m.m in
    subst (λ (steps : List Step). LetsAll (plan_course st) steps) (sym c.deref.ensures.value) (lets_all st c.in_ok-m.ensures.uses c.in_ok-steps.steps.items)
