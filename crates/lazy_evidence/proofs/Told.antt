-- The places of the spots that were noted of a position tell evidence of its binding.
use Rattle.std.proofs.Common.{◌≡◌, ◌<◌, ℕ, List, sym, ◌∙◌, length}
use Rattle.std.specs.Prelude.{IsTrue}
use Rattle.plan_core.specs.PlanMade.{plan_value}
use Rattle.lazy_binding.specs.declared.parts.Growing.{Growing}
use Rattle.lazy_binding.specs.declared.parts.Walk.{Walk}
use Rattle.lazy_binding.specs.declared.position.Position.{Position}
use Rattle.lazy_binding.specs.Cursors.{has_row}
use Rattle.lazy_binding.specs.Parts.{operators, world_of, IsFixed}
use Rattle.lazy_evidence.specs.Noted.{spots_at, places_there}
use Rattle.lazy_evidence.specs.Tells.{AreOfParts, TellsEvidence}
use Rattle.lazy_evidence.proofs.Holds.{positions_have_evidence}
use Rattle.lazy_evidence.proofs.Placed.{places_are}

module _ (g : Growing) (k : Walk) (c : Position) (fixed : IsFixed k.fixed.now) (within : k.op < length (operators k.fixed.now)) (row : IsTrue (has_row c)) (places : List (List ℕ))
    (are : places ≡ places_there g.buffers.items (spots_at (operators k.fixed.now) k.op c)) where
  -- the places of the noted spots are those of the nodes at the position's parts
  pub parts_told : AreOfParts g k c places
  parts_told = λ view bench of. are ∙ places_are (plan_value k.fixed.now.plan) fixed.valid fixed.typed (world_of view g) k.op within c of row

  -- the places of the noted spots are those of right evidence of the position's binding
  pub evidence_told : TellsEvidence g k c places
  evidence_told = λ view bench of told among.
      (let r = positions_have_evidence (plan_value k.fixed.now.plan) fixed.valid (world_of view g) bench told k.op within c of row among in
      (record { right = r.0; written = sym (parts_told view bench of) }, r.1))
