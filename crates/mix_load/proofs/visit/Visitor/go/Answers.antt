use Rattle.std.proofs.Common.{List, [], ℕ, subst}
use Rattle.mix_script.specs.Transcript.{names_after, unnamed}
use Rattle.mix_script.specs.declared.step.Act.TheVariants.{Move}
use Rattle.mix_load.specs.Visit.{IsOn}
use Rattle.mix_load.proofs.Visiting.{root_stays}
use Rattle.mix_load.proofs.visit.Visitor.go.Goals as goal

pub returns-clause-root : goal.returns-clause-root
returns-clause-root c = λ t h.
    let after = (c.in_ok-take.ensures.answer t h.places h.on).1 in
    let named = subst (λ (x : List ℕ). IsOn t (names_after (unnamed t) h.places [] (Move c.args.way x c.in_ok-from.from) c.in_ok-take.field-0) c.take.new.self) c.in_ok-name.ensures after in
    root_stays t h.places c.take.new.self c.args.way c.in_ok-from.from c.in_ok-take.field-0 h.root named
