use Rattle.std.proofs.Common.{◌≡◌, List, [], ℕ, subst}
use Rattle.bracket_text.specs.Canonical.{canon}
use Rattle.mix_script.specs.Transcript.{answer_of, nothing, unnamed}
use Rattle.mix_script.specs.declared.step.Act.TheVariants.{Print}
use Rattle.mix_load.proofs.Visiting.{root_text}
use Rattle.mix_load.proofs.visit.Visitor.print.Goals as goal

pub returns-clause-text : goal.returns-clause-text
returns-clause-text c = λ t h.
    let a = c.in_ok-answer.answer in
    let of_root = subst (λ (x : List ℕ). a ≡ answer_of (unnamed t) h.places nothing [] (Print x)) c.in_ok-from.ensures (c.in_ok-answer.ensures.answer t h.places h.on).0 in
    c.text_of.ensures (canon t) (root_text t h.places a h.root of_root)
