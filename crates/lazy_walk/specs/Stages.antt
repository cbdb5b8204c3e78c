-- How much of a text leads to a node on its way.
use Rattle.std.specs.Prelude.{◌≡◌, ◌+◌, ◌<◌, ◌≤◌, ℕ, List, length, take}
use Rattle.mix_tree.specs.Nodes.{Documents}
use Rattle.node_text.specs.Node.{NodeValue, node}
use Rattle.plan_core.specs.Plans.{Operator}
use Rattle.plan_evidence.specs.Named.{Names}
use Rattle.lazy_walk.specs.declared.finding.Led.{Led}
use Rattle.lazy_walk.specs.declared.ids.WalkedNode.{WalkedNode}
use Rattle.lazy_walk.specs.declared.stage.Passed.{Passed}
use Rattle.lazy_walk.specs.declared.stage.Stage.{Stage}

-- a text has so many levels and steps, and steps only behind all of its levels
pub record IsStage (d : NodeValue) (stage : Stage) : Type 0 where
  pub levels : stage.levels ≤ length d.levels
  pub steps : stage.steps ≤ length d.inside
  pub below : 0 < stage.steps → stage.levels ≡ length d.levels

-- what a part of a text says: so many of its levels, and so many steps of the place below
abbrev pub part_of : NodeValue → Stage → NodeValue
part_of d stage = node (take stage.levels d.levels) (take stage.steps d.inside)

-- how many levels and steps a part of a text has
abbrev pub size_of : Stage → ℕ
size_of stage = stage.levels + stage.steps

-- how many levels and steps a text has
abbrev pub whole_size : NodeValue → ℕ
whole_size d = length d.levels + length d.inside

-- no part of a text between two others names a node
abbrev pub NamesNoneBetween : Documents → List Operator → NodeValue → Stage → Stage → Type 0
NamesNoneBetween docs ops d from to =
    (part : Stage) → IsStage d part → size_of from < size_of part → size_of part < size_of to → (a : List ℕ) → Names docs ops (part_of d part) a → ⊥

-- so many levels further on
abbrev pub levels_further : Stage → ℕ → Stage
levels_further from count = record { levels = from.levels + count; steps = 0 }

-- one step of the place below further on
abbrev pub step_further : Stage → Stage
step_further from = record { levels = from.levels; steps = from.steps + 1 }

-- a node to which more levels lead, as one on the way
abbrev pub passed_by_levels : Stage → Led → Passed
passed_by_levels from led = record { node = led.node; stage = levels_further from led.count }

-- a node to which one more step leads, as one on the way
abbrev pub passed_by_step : Stage → WalkedNode → Passed
passed_by_step from n = record { node = n; stage = step_further from }
