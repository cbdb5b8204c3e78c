-- Evidence and bindings belong together: no two bindings agree by held keys, right evidence is of one, and each has some.
use Rattle.std.specs.Prelude.{◌⊎◌, ◌<◌, ℕ, suc, List, [], ◌∷◌, length}
use Rattle.mix_base.specs.Events.{Event, skip, bind}
use Rattle.mix_tree.specs.Nodes.{Documents, Node}
use Rattle.plan_core.specs.Beside.{AreApart, EachBinding}
use Rattle.plan_core.specs.Events.{events}
use Rattle.plan_core.specs.Plans.{Operator, PlanValue}
use Rattle.plan_core.specs.TolledRows.{TolledRow}
use Rattle.plan_core.specs.Valid.{IsValid}
use Rattle.plan_evidence.specs.Evidence.{AreRight}
use Rattle.plan_evidence.specs.Held.{held, AreOf, UsesHeld}

-- one of the bindings of events is as is said
abbrev pub SomeBinding : {B : Type 0} → (B → Type 0) → List (Event B) → Type 0
SomeBinding P [] = ⊥
SomeBinding P (skip ∷ es) = SomeBinding P es
SomeBinding P (bind b ∷ es) = P b ⊎ SomeBinding P es

-- a binding of operator n has right evidence
abbrev pub HasEvidence : Documents → List Operator → ℕ → TolledRow → Type 0
HasEvidence docs ops n row = (nodes : ℕ → Node) × AreRight docs ops n nodes × AreOf docs ops n nodes row

-- no two bindings of an operator of a valid plan agree by the keys that it holds, so that evidence is of one binding at most
abbrev pub HeldKeysAreApart : Type 0
HeldKeysAreApart =
    (p : PlanValue) → IsValid p → (docs : Documents) (n : ℕ) → n < length p.ops → AreApart docs (held p.ops n) (events docs p.ops n)

-- where each operator uses what its inputs hold alone, right evidence of an operator of a valid plan, other than the last, is of one of its bindings
abbrev pub EvidenceIsOfBindings : Type 0
EvidenceIsOfBindings =
    (p : PlanValue) → IsValid p → UsesHeld p.ops → (docs : Documents) (n : ℕ) → suc n < length p.ops → (nodes : ℕ → Node)
    → AreRight docs p.ops n nodes → SomeBinding (AreOf docs p.ops n nodes) (events docs p.ops n)

-- each binding of an operator of a valid plan has right evidence
abbrev pub BindingsHaveEvidence : Type 0
BindingsHaveEvidence =
    (p : PlanValue) → IsValid p → (docs : Documents) (n : ℕ) → n < length p.ops → EachBinding (HasEvidence docs p.ops n) (events docs p.ops n)
