-- How the node of a text is found: on from the largest part of it that is known.
use Rattle.std.specs.Prelude.{◌≡◌, ◌+◌, ◌≤◌, ◌<◌, ℕ, IsTrue, List, Option, MatchOption, Result, IfOk, is_some}
use Rattle.lxp_core.specs.declared.fault.WalkFault.{WalkFault}
use Rattle.node_text.specs.Grammar.{Spells}
use Rattle.node_text.specs.Node.{NodeValue}
use Rattle.plan_evidence.specs.Named.{Names}
use Rattle.lazy_plan.specs.Bench.{BenchState, ops_of, documents, told, AsksAtMost}
use Rattle.lazy_walk.specs.declared.stage.Stage.{Stage}
use Rattle.lazy_walk.specs.Finding.{walk_charge}
use Rattle.lazy_walk.specs.Stages.{IsStage, part_of, size_of, whole_size}
use Rattle.lazy_value.specs.declared.ids.MarkedText.{MarkedText}
use Rattle.lazy_value.specs.declared.mediator.Mediator.{Mediator}
use Rattle.lazy_value.specs.Named.{NamesAt, WasFound, found_for, owed_of}

-- a part of a text comes before another: it has one step less, or, where there are no steps, one level less
pub record IsBefore (before part : Stage) : Type 0 where
  pub size : size_of before + 1 ≡ size_of part
  pub levels : before.levels ≤ part.levels
  pub steps : before.steps ≤ part.steps
  pub below : 0 < before.steps → before.levels ≡ part.levels

-- a part of a text is known: a walk found the node of a text that spells it
pub record IsKnown (m : Mediator) (d : NodeValue) (part : Stage) : Type 0 where
  pub stage : IsStage d part
  pub text : List ℕ
  pub spells : Spells text (part_of d part)
  pub found : WasFound m text

-- no part of a text that is larger than this one is known, but for the whole text
abbrev pub KnowsNoneAbove : Mediator → NodeValue → Stage → Type 0
KnowsNoneAbove m d from = (part : Stage) → size_of from < size_of part → size_of part < whole_size d → IsKnown m d part → ⊥

-- a part of a text is the largest that is known, beside the text itself
pub record IsLargestKnown (m : Mediator) (d : NodeValue) (part : Stage) : Type 0 where
  pub known : IsKnown m d part
  pub largest : KnowsNoneAbove m d part

-- a call answers no part of a text, or a larger one that is known
abbrev pub GivesKnown : Mediator → NodeValue → Stage → Option Stage → Type 0
GivesKnown m d from r = MatchOption r (Unit {0}) (λ next. IsKnown m d next × (size_of from < size_of next))

-- a part of a text names a node, to which the walk to place q and so many fills more lead
pub record IsNamedFurther (st : BenchState) (d : NodeValue) (q : List ℕ) (most : ℕ) (next : Stage) : Type 0 where
  pub place : List ℕ
  pub names : Names (documents st) (ops_of st) (part_of d next) place
  pub charge : walk_charge (documents st) (ops_of st) q + most ≤ walk_charge (documents st) (ops_of st) place

-- from the node at place q a call finds the next one on the way to the node at place p: what it asks, with what the walk to q costs, is no more than what
-- the walk to p costs
pub record ComesFurther (old new : BenchState) (d : NodeValue) (q p : List ℕ) (result : Result (Option Stage) WalkFault) : Type 0 where
  pub most : ℕ
  pub asks : AsksAtMost old new most
  pub within : (spent : ℕ) → spent ≤ walk_charge (documents old) (ops_of old) q → spent ≤ walk_charge (documents old) (ops_of old) p
      → spent + most ≤ walk_charge (documents old) (ops_of old) p
  pub finds : IfOk result (λ r. MatchOption r ⊥ (IsNamedFurther old d q most))

-- where a part of a text names a node, and the text another, a call finds the next node on the way
abbrev pub ComesOn : BenchState → BenchState → NodeValue → Stage → Result (Option Stage) WalkFault → Type 0
ComesOn old new d from result =
    (q p : List ℕ) → Names (documents old) (ops_of old) (part_of d from) q → Names (documents old) (ops_of old) d p → ComesFurther old new d q p result

-- where a text names the node at a place, a call finds it by what is owed
abbrev pub Finds : BenchState → Mediator → BenchState → Mediator → MarkedText → Result (Unit {0}) WalkFault → Type 0
Finds old m new m' t result =
    (p : List ℕ) → NamesAt old t p
    → AsksAtMost old new (owed_of old m t p)
    × (IsTrue (told old) → IfOk result (λ r. IsTrue (is_some (found_for m' t.text))))
