use Rattle.std.proofs.Common.{◌≡◌, List, [], ℕ, subst}
use Rattle.mix_script.specs.Transcript.{answer_of, names_after, nothing, unnamed}
use Rattle.mix_script.specs.declared.step.Act.TheVariants.{Root}
use Rattle.mix_load.specs.Visit.{IsOn}
use Rattle.mix_load.proofs.Visiting.{root_held}
use Rattle.mix_load.proofs.visit.Visitor.start.Goals as goal

pub returns-clause-root : goal.returns-clause-root
returns-clause-root c = λ t places on.
    let a = c.in_ok-take.field-0 in
    let after = subst (λ (x : List ℕ). (a ≡ answer_of (unnamed t) places nothing [] (Root x)) × IsOn t (names_after (unnamed t) places [] (Root x) a) c.take.new.self) c.in_ok-name.ensures (c.in_ok-take.ensures.answer t places on) in
    root_held t places c.take.new.self a after.0 after.1
