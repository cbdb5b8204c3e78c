-- Answers as a finished document gives them.
use Rattle.std.specs.Prelude.{◌≡◌, ℕ, List, [], ◌∷◌}
use Rattle.mix_script.specs.Transcript.{Finished, Names, Naming, IsTextFor, answered}
use Rattle.mix_script.specs.Allowed.{note_of}
use Rattle.mix_script.specs.declared.step.Act.{Act}
use Rattle.mix_script.specs.declared.step.Step.{Step}
use Rattle.mix_script.specs.declared.answer.Answer.{Answer}
use Rattle.mix_script.specs.declared.answer.Answer.TheVariants as answer

-- a text that is answered to an act is one of an identifier of the node at the place that the operand's name holds
abbrev pub IsTold : Naming → Names → List ℕ → Act → Answer → Type 0
IsTold NamesAt names client act answer.Node = Unit {0}
IsTold NamesAt names client act answer.None = Unit {0}
IsTold NamesAt names client act (answer.Label l) = Unit {0}
IsTold NamesAt names client act (answer.Text x) = Unit {0}
IsTold NamesAt names client act answer.NoNode = Unit {0}
IsTold NamesAt names client act (answer.Fault s) = Unit {0}
IsTold NamesAt names client act (answer.Id x) = IsTextFor NamesAt names client act x
IsTold NamesAt names client act answer.Foreign = Unit {0}

-- answers to the first of these steps, each of which is that of the document under the note that it shows, and a text of an identifier one of its node
abbrev pub AreOf : Naming → Finished → Names → List Answer → List Step → Type 0
AreOf NamesAt f names [] steps = Unit {0}
AreOf NamesAt f names (a ∷ answers) [] = ⊥
AreOf NamesAt f names (a ∷ answers) (step ∷ steps) =
    (a ≡ (answered f names (note_of a) step).0) × IsTold NamesAt names step.client step.act a
    × AreOf NamesAt f (answered f names (note_of a) step).1 answers steps
