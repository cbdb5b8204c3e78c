use Rattle.xmas_read.specs.Results.{names_of_sources}
use Rattle.plan_written.proofs.Plans.{plan_writable, rewritten_writable}
use Rattle.plan_written.proofs.Views.{spelled_is_written}
use Rattle.plan_written.proofs.law.plans_of_views_are_writable.Goals as goal

pub returns : goal.returns
returns c = record {
  made = λ x sources r catalog h short. plan_writable sources r catalog (spelled_is_written x (names_of_sources sources) r h) short;
  rewritten = λ x sources r catalog h short. rewritten_writable c.rewriting_keeps_validity.ensures sources r catalog (spelled_is_written x (names_of_sources sources) r h) short;
}
