-- How sources after a link are opened, and why they are not.
use Rattle.std.specs.Prelude.{◌≡◌, ℕ, List, [], slice_get, Some, None}
use Rattle.wire_text.specs.declared.request.Request.{Request}
use Rattle.wire_text.specs.declared.request.Request.TheVariants.{Count, Root, Fill}
use Rattle.lxp_wire.specs.Links.{LinkView}
use Rattle.lxp_remote.specs.declared.fault.WireFault.{WireFault}
use Rattle.lxp_remote.specs.declared.peer.Peer.{Peer}
use Rattle.lxp_remote.specs.Causes.{HasCome, asking}

-- of a source that was not filled yet nothing is known but its root, and it never failed
pub record IsUnfilled (p : Peer) : Type 0 where
  pub known : p.known ≡ []
  pub faults : p.faults ≡ 0
  pub last : p.last ≡ None

-- none of these sources was filled yet
abbrev pub AreUnfilled : List Peer → Type 0
AreUnfilled peers = (s : ℕ) (p : Peer) → slice_get peers s ≡ Some p → IsUnfilled p

-- a request asks for no list
abbrev pub IsNoFill : Request → Type 0
IsNoFill Count = Unit {0}
IsNoFill (Root s) = Unit {0}
IsNoFill (Fill s h) = ⊥

-- sources were not opened for a cause that has come with a request for no list
abbrev pub IsRefusedFor : LinkView → LinkView → WireFault → Type 0
IsRefusedFor old new fault = (r : Request) × IsNoFill r × HasCome (asking r 0 (λ h. None)) old new fault
