-- What calls answer, and what they ask.
use Rattle.std.specs.Prelude.{◌≡◌, ◌≤◌, ◌<◌, ℕ, IsTrue, List, Option, Some, MatchOption, Result, IfOk}
use Rattle.lxp_core.specs.declared.fault.WalkFault.{WalkFault}
use Rattle.node_text.specs.Node.{NodeValue}
use Rattle.plan_evidence.specs.Named.{Names}
use Rattle.lazy_plan.specs.Bench.{BenchState, ops_of, documents, told}
use Rattle.lazy_walk.specs.declared.ids.WalkedNode.{WalkedNode}
use Rattle.lazy_walk.specs.declared.stage.Stage.{Stage}
use Rattle.lazy_walk.specs.Finding.{root_height}
use Rattle.lazy_walk.specs.Stages.{IsStage, part_of}
use Rattle.lazy_walk.specs.Walks.{node_height, node_left}
use Rattle.lazy_walk.specs.Places.{HasNoPlace, HasPlace}
use Rattle.lazy_value.specs.declared.ids.MarkedText.{MarkedText}
use Rattle.lazy_value.specs.declared.ids.NodeId.{NodeId}
use Rattle.lazy_value.specs.declared.ids.NodeId.TheVariants.{Walked, Marked}
use Rattle.lazy_value.specs.declared.mediator.Mediator.{Mediator}
use Rattle.lazy_value.specs.Named.{IsNamed, IsNamedAt, NamesAt, named_height, owed, owed_of}

-- a call answers no node, or an identifier of the mediator
abbrev pub GivesNamed : BenchState → Option NodeId → Type 0
GivesNamed st r = MatchOption r (Unit {0}) (IsNamed st)

-- an identifier stands at the place that is asked for, where the plan's document has a node
pub record IsNamedThere (old new : BenchState) (goal : Option (List ℕ)) (n : NodeId) : Type 0 where
  pub place : List ℕ
  pub asked : goal ≡ Some place
  pub has : HasPlace old place
  pub at : IsNamedAt new n place

-- where the sources are told and an identifier stands at place p, a call answers the node at another place, or that there is none
abbrev pub NamedLeadsTo : BenchState → BenchState → NodeId → List ℕ → Option (List ℕ) → Result (Option NodeId) WalkFault → Type 0
NamedLeadsTo old new n p goal result =
    IsNamedAt old n p → IsTrue (told old) → IfOk result (λ r. MatchOption r (HasNoPlace old goal) (IsNamedThere old new goal))

-- over told sources a text names no node, or an identifier stands wherever it names one, and it does
abbrev pub GivesText : BenchState → BenchState → NodeValue → Option NodeId → Type 0
GivesText old new d r =
    MatchOption r (IsTrue (told old) → (p : List ℕ) → Names (documents old) (ops_of old) d p → ⊥)
    (λ n. IsNamed new n × (IsTrue (told old)
    → (p : List ℕ) × Names (documents old) (ops_of old) d p × ((q : List ℕ) → Names (documents old) (ops_of old) d q → IsNamedAt new n q)))

-- an identifier was walked to, below another
abbrev pub IsWalkedBelow : BenchState → BenchState → NodeId → NodeId → Type 0
IsWalkedBelow old new n (Walked m) = node_height new m < named_height old n
IsWalkedBelow old new n (Marked t) = ⊥

-- a call answers no node, or an identifier that was walked to, below another
abbrev pub GivesBelow : BenchState → BenchState → NodeId → Option NodeId → Type 0
GivesBelow old new n r = MatchOption r (Unit {0}) (IsWalkedBelow old new n)

-- an identifier was walked to, to the right of another: it stands no higher, and fewer nodes are to the right of it, where the other was walked to
abbrev pub IsWalkedRight : BenchState → BenchState → NodeId → NodeId → Type 0
IsWalkedRight old new (Walked n) (Walked m) = (node_height new m ≤ node_height old n) × (node_left new m < node_left old n)
IsWalkedRight old new (Marked t) (Walked m) = node_height new m ≤ root_height old
IsWalkedRight old new n (Marked t) = ⊥

-- a call answers no node, or an identifier that was walked to, to the right of another
abbrev pub GivesRight : BenchState → BenchState → NodeId → Option NodeId → Type 0
GivesRight old new n r = MatchOption r (Unit {0}) (IsWalkedRight old new n)

-- where an identifier stands at a place of told sources, nothing more is owed for it after a call that no source failed
abbrev pub IsPaid : BenchState → BenchState → Mediator → NodeId → Result (Option NodeId) WalkFault → Type 0
IsPaid old new m' n result = (p : List ℕ) → IsNamedAt old n p → IsTrue (told old) → IfOk result (λ r. owed new m' n p ≡ 0)

-- where a text names the node at a place of told sources, nothing more is owed for it after a call that no source failed
abbrev pub IsTextPaid : BenchState → BenchState → Mediator → MarkedText → Result (Option WalkedNode) WalkFault → Type 0
IsTextPaid old new m' t result = (p : List ℕ) → NamesAt old t p → IsTrue (told old) → IfOk result (λ r. owed_of new m' t p ≡ 0)

-- WHAT IS SHARED

-- what one text says is a part of what another says: the node that it names lies on the way to the other's, or is that
pub record IsPart (part whole : NodeValue) : Type 0 where
  pub stage : Stage
  pub within : IsStage whole stage
  pub says : part ≡ part_of whole stage

-- an identifier lies on the way of another: both are texts, and what the one says is a part of what the other says
abbrev pub IsOnWay : NodeId → NodeId → Type 0
IsOnWay (Marked x) (Marked t) = IsPart x.value.mark.data t.value.mark.data
IsOnWay (Marked x) (Walked n) = ⊥
IsOnWay (Walked m) n = ⊥

-- over told sources, after a call that no source failed, nothing more is owed for any identifier that lies on the way of one that it was called for
abbrev pub IsShared : BenchState → BenchState → Mediator → NodeId → Result (Option NodeId) WalkFault → Type 0
IsShared old new m' n result = IsTrue (told old) → IfOk result (λ r. (x : NodeId) (q : List ℕ) → IsOnWay x n → IsNamedAt new x q → owed new m' x q ≡ 0)

-- over told sources, after a call that no source failed, nothing more is owed for any text that says a part of what one says that it was called for
abbrev pub IsTextShared : BenchState → BenchState → Mediator → MarkedText → Result (Option WalkedNode) WalkFault → Type 0
IsTextShared old new m' t result =
    IsTrue (told old) → IfOk result (λ r. (x : MarkedText) (q : List ℕ) → IsPart x.mark.data t.mark.data → NamesAt new x q → owed_of new m' x q ≡ 0)
