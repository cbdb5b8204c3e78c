-- What the places of a position's parts are evidence of.
use Rattle.std.specs.Prelude.{◌≡◌, ℕ, List}
use Rattle.plan_core.specs.Events.{events}
use Rattle.plan_evidence.specs.Evidence.{IsEvidence, evidence_vars, places_of}
use Rattle.plan_evidence.specs.Held.{AreOf}
use Rattle.lazy_binding.specs.declared.parts.Growing.{Growing}
use Rattle.lazy_binding.specs.declared.parts.Walk.{Walk}
use Rattle.lazy_binding.specs.declared.position.Position.{Position}
use Rattle.lazy_binding.specs.Parts.{operators}
use Rattle.lazy_binding.specs.Reading.{InEach, Tells}
use Rattle.lazy_evidence.specs.Below.{nodes_at}
use Rattle.lazy_evidence.specs.Laws.{IsAmong}

-- places are those of the nodes at a position's parts: of each variable that a getDescendants on the way binds, in the order of the operators' numbers
abbrev pub AreOfParts : Growing → Walk → Position → List (List ℕ) → Type 0
AreOfParts g k c places = InEach g k c (λ w. places ≡ places_of (evidence_vars (operators k.fixed.now) k.op) (nodes_at w (operators k.fixed.now) k.op c))

-- over told sources, where the binding of a position is among its operator's events, places are those of right evidence of it: of the nodes at the position's parts
abbrev pub TellsEvidence : Growing → Walk → Position → List (List ℕ) → Type 0
TellsEvidence g k c places = Tells g k c (λ w docs row. IsAmong (events docs (operators k.fixed.now) k.op) row
    → IsEvidence docs (operators k.fixed.now) k.op places (nodes_at w (operators k.fixed.now) k.op c) × AreOf docs (operators k.fixed.now) k.op (nodes_at w (operators k.fixed.now) k.op c) row)
