-- The finished documents of plans.
use Rattle.std.specs.Prelude.{◌≡◌, ◌⊎◌, ℕ, true, List}
use Rattle.mix_tree.specs.Forest.{alone}
use Rattle.mix_tree.specs.Nodes.{Documents}
use Rattle.mix_tree.specs.Place.{has_place}
use Rattle.node_text.specs.Node.{NodeValue}
use Rattle.plan_core.specs.Plans.{Operator, PlanValue}
use Rattle.plan_core.specs.Valid.{IsValid}
use Rattle.plan_evidence.specs.Held.{UsesHeld}
use Rattle.plan_evidence.specs.Named.{Names}
use Rattle.mix_script.specs.Steps.{ArePlain}
use Rattle.mix_script.specs.Transcript.{Finished, IsRight, IsTextOf}
use Rattle.mix_script.specs.declared.step.Step.{Step}
use Rattle.mix_run.specs.Question.{IsPlanDocument}

-- steps may be asked of a plan's document: its operators use of their inputs what they hold alone, or no step follows a text
abbrev pub IsAnswerable : List Operator → List Step → Type 0
IsAnswerable ops steps = UsesHeld ops ⊎ ArePlain steps

-- a finished document is that of a plan over documents: its tree is the plan's document, of each text that the steps follow it says the right place, each node has a
-- text, and what texts name are nodes of the tree
pub record IsFinishedOf (docs : Documents) (ops : List Operator) (steps : List Step) (f : Finished) : Type 0 where
  pub document : IsPlanDocument docs ops f.tree
  pub named : IsRight (Names docs ops) f steps
  pub each : (p : List ℕ) → has_place (alone f.tree) p ≡ true → (x : List ℕ) × IsTextOf (Names docs ops) x p
  pub nodes : (node : NodeValue) (p : List ℕ) → Names docs ops node p → has_place (alone f.tree) p ≡ true

-- a plan has a finished document over documents, whatever steps are asked that are of a kind
pub record HasFinished (docs : Documents) (ops : List Operator) (Are : List Step → Type 0) : Type 0 where
  pub finished : Finished
  pub is : (steps : List Step) → Are steps → IsFinishedOf docs ops steps finished

-- over any source documents, a valid plan has a finished document for steps that follow no text, and one for all steps where its operators use of their inputs what
-- they hold alone
abbrev pub PlansAreFinished : Type 0
PlansAreFinished =
    (p : PlanValue) → IsValid p → (docs : Documents) → HasFinished docs p.ops ArePlain × (UsesHeld p.ops → HasFinished docs p.ops (λ steps. Unit {0}))
