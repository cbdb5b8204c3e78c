-- Which node each text names.
use Rattle.std.specs.Prelude.{ℕ, List, Option, MatchOption}
use Rattle.mix_tree.specs.Nodes.{Documents}
use Rattle.node_text.specs.Node.{NodeValue}
use Rattle.plan_core.specs.Plans.{PlanValue}
use Rattle.plan_core.specs.Valid.{IsValid}
use Rattle.plan_evidence.specs.Held.{UsesHeld}
use Rattle.plan_evidence.specs.Named.{Names}

-- where each operator of a valid plan uses what its inputs hold alone, there is a function that tells of each text the place of the node that it names, and none where
-- it names none
abbrev pub TextsHaveSenses : Type 0
TextsHaveSenses =
    (p : PlanValue) → IsValid p → UsesHeld p.ops → (docs : Documents)
    → (named : NodeValue → Option (List ℕ)) × ((d : NodeValue) → MatchOption (named d) ((place : List ℕ) → Names docs p.ops d place → ⊥) (Names docs p.ops d))
