-- What a fill of one of the sources after a link comes to.
use Rattle.std.specs.Prelude.{◌≡◌, ◌⊎◌, ℕ, ◌+◌, ◌≤◌, true, Option, Some, None, Result, IfOk, OnErr, IsErrOf, slice_get}
use Rattle.std.specs.Global.{Vec}
use Rattle.mix_base.specs.Counts.{HasRisen}
use Rattle.lxp_core.specs.declared.open_tree.HoleId.{HoleId}
use Rattle.lxp_core.specs.declared.open_tree.OpenTree.{OpenTree}
use Rattle.lxp_core.specs.declared.fault.SourceFault.{SourceFault}
use Rattle.lxp_core.specs.declared.fault.SourceFault.TheVariants.{Failed, UnknownHole}
use Rattle.lxp_core.specs.Open.{Open}
use Rattle.lxp_core.specs.Plain.{plain}
use Rattle.wire_text.specs.declared.request.Request.TheVariants.{Fill}
use Rattle.lxp_wire.specs.Links.{LinkView}
use Rattle.lxp_remote.specs.declared.fault.WireFault.{WireFault}
use Rattle.lxp_remote.specs.declared.fault.WireFault.TheVariants.{Link, PeerFailed}
use Rattle.lxp_remote.specs.declared.peer.Peer.{Peer}
use Rattle.lxp_remote.specs.Causes.{HasCome, asking}
use Rattle.lxp_remote.specs.Taken.{IsTaken, HasFailed}
use Rattle.lxp_remote.specs.Remotes.{Remoting, root_in, known_in, faults_in, last_in}

-- a list came for a hole that was known, and was taken
abbrev pub HasTaken : LinkView → LinkView → Option Peer → Option Peer → ℕ → HoleId → Open → Type 0
HasTaken old new before after s h o = (n : ℕ) × (known_in before h ≡ Some n) × IsTaken s h n old new (known_in before) (known_in after) o

-- a source was filled that stands before and after the call for this: it gave a list that came, or it failed and counts that, or all is as before but the link
pub record IsFilled (old new : LinkView) (before after : Option Peer) (s : ℕ) (h : HoleId) (answer : Result (Vec OpenTree) SourceFault) : Type 0 where
  pub fills : old.told ≡ true → new.peer.fills ≤ old.peer.fills + 1
  pub root : root_in after ≡ root_in before
  pub taken : IfOk answer (λ list. HasTaken old new before after s h (plain list.items))
  pub kept : OnErr answer ((i : HoleId) → known_in after i ≡ known_in before i)
  pub failed : IsErrOf answer Failed → HasFailed s h old new (known_in before) (last_in after)
  pub counted : IsErrOf answer Failed → HasRisen (faults_in before) (faults_in after)
  pub unfailed : (IsErrOf answer Failed → ⊥) → (faults_in after ≡ faults_in before) × (last_in after ≡ last_in before)
  pub rises : faults_in before ≤ faults_in after
  pub at_most_one : faults_in after ≤ faults_in before + 1
  pub unknown : IsErrOf answer UnknownHole → known_in before h ≡ None
  pub only_unknown : known_in before h ≡ None → IsErrOf answer UnknownHole

-- the last cause for which a source failed has come in the fill of a hole; over a told link it is the link, or the peer's source failed
abbrev pub NamesCause : Remoting → Remoting → ℕ → HoleId → Type 0
NamesCause old new s h =
    (fault : WireFault) × (n : ℕ) × (last_in (slice_get new.peers s) ≡ Some fault) × (known_in (slice_get old.peers s) h ≡ Some n)
    × HasCome (asking (Fill s h) n (known_in (slice_get old.peers s))) old.link new.link fault
    × (old.link.told ≡ true → (fault ≡ Link) ⊎ ((fault ≡ PeerFailed) × HasRisen (old.link.peer.faults s) (new.link.peer.faults s)))
