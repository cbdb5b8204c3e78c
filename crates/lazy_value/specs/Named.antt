-- What identifiers stand for that were walked to or that texts name, and what a walk has found of those.
use Rattle.std.specs.Prelude.{◌≡◌, ◌≤◌, ℕ, cond, IsTrue, List, Option, Some, is_some}
use Rattle.std.specs.BTreeMap.{get}
use Rattle.std.specs.Cmp.Lexicographic.{slice_cmp}
use Rattle.std.specs.Ordering.{nat_cmp}
use Rattle.lxp_core.specs.View.{View}
use Rattle.node_text.specs.Grammar.{Spells}
use Rattle.node_text.specs.Node.{NodeValue}
use Rattle.plan_core.specs.declared.plan.Plan.{Plan}
use Rattle.plan_evidence.specs.Held.{UsesHeld}
use Rattle.plan_evidence.specs.Named.{Names}
use Rattle.lazy_follow.specs.Marks.{IsMark}
use Rattle.lazy_plan.specs.Bench.{BenchState, ops_of, documents, told, KeepsBench}
use Rattle.lazy_walk.specs.declared.ids.WalkedNode.{WalkedNode}
use Rattle.lazy_walk.specs.declared.stage.Stage.{Stage}
use Rattle.lazy_walk.specs.Finding.{root_height, walk_charge}
use Rattle.lazy_walk.specs.Stages.{IsStage, part_of}
use Rattle.lazy_walk.specs.Walks as walks
use Rattle.lazy_walk.specs.Walks.{node_height, node_left}
use Rattle.lazy_walk.specs.Places.{IsNode, IsAt}
use Rattle.lazy_value.specs.declared.ids.MarkedText.{MarkedText}
use Rattle.lazy_value.specs.declared.ids.NodeId.{NodeId}
use Rattle.lazy_value.specs.declared.ids.NodeId.TheVariants.{Walked, Marked}
use Rattle.lazy_value.specs.declared.mediator.Mediator.{Mediator}
use Rattle.lazy_value.specs.Forms.{SpellsRoot}

-- IDENTIFIERS

-- a text that was followed: its mark is there, it is the text of what the mark says, the plan's operators use what their inputs hold alone, and over told
-- sources it names a node
pub record IsMarkedText (st : BenchState) (t : MarkedText) : Type 0 where
  pub mark : IsMark st t.mark
  pub spells : Spells t.text t.mark.data
  pub uses : UsesHeld (ops_of st)
  pub names : IsTrue (told st) → (p : List ℕ) × Names (documents st) (ops_of st) t.mark.data p

-- an identifier is one of the mediator: one that a walk gave, or a text that was followed
abbrev pub IsNamed : BenchState → NodeId → Type 0
IsNamed st (Walked n) = IsNode st n
IsNamed st (Marked t) = IsMarkedText st t.value

-- over told sources a text that was followed names the node at a place
pub record NamesAt (st : BenchState) (t : MarkedText) (p : List ℕ) : Type 0 where
  pub marked : IsMarkedText st t
  pub names : IsTrue (told st) → Names (documents st) (ops_of st) t.mark.data p

-- an identifier stands at a place of the plan's document: a walk led there, or a text names it
abbrev pub IsNamedAt : BenchState → NodeId → List ℕ → Type 0
IsNamedAt st (Walked n) p = IsAt st n p
IsNamedAt st (Marked t) p = NamesAt st t.value p

-- WHAT WALKS FOUND

-- a walk found a node of a text: over told sources the text names a node, and it stands there
pub record IsFoundFor (st : BenchState) (text : List ℕ) (n : WalkedNode) : Type 0 where
  pub says : NodeValue
  pub spells : Spells text says
  pub node : IsNode st n
  pub height : node_height st n ≤ root_height st
  pub names : IsTrue (told st) → (p : List ℕ) × Names (documents st) (ops_of st) says p
  pub place : IsTrue (told st) → (p : List ℕ) → Names (documents st) (ops_of st) says p → IsAt st n p

-- the node that a walk found of a text, if one did
abbrev pub found_for : Mediator → List ℕ → Option WalkedNode
found_for m text = get (slice_cmp nat_cmp) m.found text

-- what walks have found stands where the texts name nodes
abbrev pub AreFound : BenchState → Mediator → Type 0
AreFound st m = (text : List ℕ) (n : WalkedNode) → found_for m text ≡ Some n → IsFoundFor st text n

-- a walk found the node of a text
abbrev pub WasFound : Mediator → List ℕ → Type 0
WasFound m text = IsTrue (is_some (found_for m text))

-- the root was found, for any text that spells it
abbrev pub HasRoot : Mediator → Type 0
HasRoot m = (text : List ℕ) → SpellsRoot text → WasFound m text

-- what a walk found is shared by all texts on whose way it lies: over told sources, where the node of a text was found, so was that of each part of it that
-- names one
abbrev pub AreShared : BenchState → Mediator → Type 0
AreShared st m =
    IsTrue (told st) → (text : List ℕ) (d : NodeValue) → Spells text d → WasFound m text → (stage : Stage) → IsStage d stage
    → (p : List ℕ) → Names (documents st) (ops_of st) (part_of d stage) p → (part : List ℕ) → Spells part (part_of d stage) → WasFound m part

-- STATES

-- the state of a mediator whose sources mean this
abbrev pub state_of : View → Mediator → BenchState
state_of v m = walks.state_of v m.walk

-- the plan of a mediator
abbrev pub plan_of : Mediator → Plan
plan_of m = walks.plan_of m.walk

-- a mediator is sound over sources that mean this
pub record IsMediatorOf (v : View) (m : Mediator) : Type 0 where
  pub walk : walks.IsWalkOf v m.walk
  pub found : AreFound (state_of v m) m
  pub root : HasRoot m
  pub shared : AreShared (state_of v m) m

-- a walk led to an identifier's node
abbrev pub IsWalkedTo : NodeId → Type 0
IsWalkedTo (Walked n) = Unit {0}
IsWalkedTo (Marked t) = ⊥

-- a number of an identifier that no call raises, and that falls with each step to the right from where a walk led
abbrev pub named_left : BenchState → NodeId → ℕ
named_left st (Walked n) = node_left st n
named_left st (Marked t) = 0

-- a height of an identifier that no call raises: of a text, that of the root
abbrev pub named_height : BenchState → NodeId → ℕ
named_height st (Walked n) = node_height st n
named_height st (Marked t) = root_height st

-- each earlier identifier stays one, at the place where it stood, and its numbers did not rise
pub record NamedStay (old new : BenchState) : Type 0 where
  pub named : (n : NodeId) → IsNamed old n → IsNamed new n
  pub place : (n : NodeId) (p : List ℕ) → IsNamedAt old n p → IsNamedAt new n p
  pub left : (n : NodeId) → IsNamed old n → named_left new n ≤ named_left old n
  pub height : (n : NodeId) → IsNamed old n → named_height new n ≤ named_height old n

-- WHAT IS OWED

-- what is still to be asked before a step from a text's node: the walk charge of its place, unless a walk has found it already
abbrev pub owed_of : BenchState → Mediator → MarkedText → List ℕ → ℕ
owed_of st m t p = cond (is_some (found_for m t.text)) 0 (walk_charge (documents st) (ops_of st) p)

-- what is still to be asked before a step from an identifier
abbrev pub owed : BenchState → Mediator → NodeId → List ℕ → ℕ
owed st m (Walked n) p = 0
owed st m (Marked t) p = owed_of st m t.value p

-- no more is owed for any identifier than was
abbrev pub OwesNoMore : BenchState → Mediator → BenchState → Mediator → Type 0
OwesNoMore old m new m' = (n : NodeId) (p : List ℕ) → owed new m' n p ≤ owed old m n p

-- WHAT CALLS LEAVE

-- what a call leaves, whatever it answers: each earlier identifier stays, what a walk found is kept, and no more is owed for any than was
pub record NamedWalked {S : Type 0} (view : S → View) (came_from : S → S → Type 0) (s : S) (m : Mediator) (s' : S) (m' : Mediator) : Type 0 where
  pub came : came_from s s'
  pub mediator : IsMediatorOf (view s') m'
  pub kept : KeepsBench (state_of (view s) m) (state_of (view s') m')
  pub stay : NamedStay (state_of (view s) m) (state_of (view s') m')
  pub found : (text : List ℕ) → WasFound m text → WasFound m' text
  pub owed : OwesNoMore (state_of (view s) m) m (state_of (view s') m') m'
