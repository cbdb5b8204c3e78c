-- What is asked of a run whose files were all accepted, and over what.
use Rattle.std.specs.Prelude.{◌≡◌, ◌≤◌, ℕ, List, Option, Some}
use Rattle.mix_tree.specs.Forest.{LabelledTree}
use Rattle.mix_tree.specs.Nodes.{Documents}
use Rattle.mix_catalog.specs.declared.source.SourceSpec.{SourceSpec}
use Rattle.mix_script.specs.Transcript.{Finished, IsRight, Naming}
use Rattle.mix_script.specs.declared.step.Step.{Step}
use Rattle.node_text.specs.Node.{NodeValue}
use Rattle.mix_place.specs.Views.{lower_at}
use Rattle.plan_core.specs.Events.{visited}
use Rattle.plan_core.specs.Plans.{Operator, document}
use Rattle.plan_evidence.specs.Named.{Names}
use Rattle.view_stack.specs.Steps.{CostsAtMost}

-- what is asked of a run: sources, the operators of a plan, those of the views among the sources that it reads, steps, the documents of the sources that are no
-- views, the documents of all sources, a tree that is to be the plan's document over them, and the places of its nodes that texts are said to name
pub record Question : Type 0 where
  pub sources : List SourceSpec
  pub ops : List Operator
  pub lower : List (Option (List Operator))
  pub steps : List Step
  pub below : Documents
  pub docs : Documents
  pub tree : LabelledTree
  pub named : NodeValue → Option (List ℕ)

-- a tree is the document of a plan's operators over documents of its sources
abbrev pub IsPlanDocument : Documents → List Operator → LabelledTree → Type 0
IsPlanDocument docs ops t = document (visited docs) ops ≡ Some t

-- which node of the plan's document a text names, by what it says
abbrev pub naming : Question → Naming
naming q = Names q.docs q.ops

-- the finished document of what is asked
abbrev pub finished : Question → Finished
finished q = record { tree = q.tree; named = q.named }

-- each text that the steps follow is said to name the node that it names, if it names one
abbrev pub AreNamed : Question → Type 0
AreNamed q = IsRight (naming q) (finished q) q.steps

-- a step down or right from any node of a view that the plan reads costs at most this number, which is at least one
pub record AreCheap (q : Question) (most : ℕ) : Type 0 where
  pub one : 1 ≤ most
  pub steps : (i : ℕ) (ops : List Operator) → lower_at q.lower i ≡ Some ops → CostsAtMost q.below ops most
