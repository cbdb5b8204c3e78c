-- What sources after a link mean.
use Rattle.std.specs.Prelude.{◌≡◌, ◌⊎◌, ℕ, ◌+◌, ◌-◌, ◌<◌, ◌≤◌, ◌^◌, true, ◌&&◌, if◌then◌else◌, List, [], ◌∷◌, length, slice_get, Option, Some, None, is_some, unwrap_or}
use Rattle.mix_tree.specs.Forest.{none}
use Rattle.lxp_core.specs.declared.open_tree.HoleId.{HoleId}
use Rattle.lxp_core.specs.View.{View, Keeps, document}
use Rattle.lxp_wire.specs.Links.{LinkView}
use Rattle.lxp_remote.specs.declared.fault.WireFault.{WireFault}
use Rattle.lxp_remote.specs.declared.peer.Peer.{Peer}
use Rattle.lxp_remote.specs.Learned.{weights}

-- the root of a source; a hole of zeros where there is no source
abbrev pub root_in : Option Peer → HoleId
root_in None = record { words = 0 ∷ 0 ∷ 0 ∷ [] }
root_in (Some p) = p.root.id

-- the weights of the holes that a source is known to have
abbrev pub known_in : Option Peer → HoleId → Option ℕ
known_in None h = None
known_in (Some p) h = weights p.root p.known h

-- how often a source failed
abbrev pub faults_in : Option Peer → ℕ
faults_in None = 0
faults_in (Some p) = p.faults

-- why a source failed last
abbrev pub last_in : Option Peer → Option WireFault
last_in None = None
last_in (Some p) = p.last

-- a state of sources after a link: what the link means, what is kept of each source, and how many fills were asked
pub record Remoting : Type 0 where
  pub link : LinkView
  pub peers : List Peer
  pub fills : ℕ

-- the state of sources after this link
abbrev pub remoting : LinkView → List Peer → ℕ → Remoting
remoting link peers fills = record { link = link; peers = peers; fills = fills }

-- what sources after a link mean as sources: the peer's documents, where the link tells them, and the holes that came
abbrev pub view_of : Remoting → View
view_of r = record {
  count = length r.peers;
  root = λ s. root_in (slice_get r.peers s);
  told = λ s. r.link.told && r.link.peer.told s;
  knows = λ s h. is_some (known_in (slice_get r.peers s) h);
  forest = λ s h. if r.link.told then r.link.peer.forest s h else none;
  weight = λ s h. unwrap_or (known_in (slice_get r.peers s) h) 0;
  forward = λ s. r.link.told && r.link.peer.forward s;
  small = λ s. true;
  fills = r.fills;
  faults = λ s. faults_in (slice_get r.peers s);
}

-- a source is that of this number among others: its root is, and these know each hole that it is known to have, by its weight
pub record IsOfPeer (v : View) (s : ℕ) (p : Peer) : Type 0 where
  pub root : p.root.id ≡ v.root s
  pub known : (h : HoleId) (n : ℕ) → weights p.root p.known h ≡ Some n → (v.knows s h ≡ true) × (n ≡ v.weight s h)

-- each of these sources is that of its number among others
abbrev pub AreOfPeer : View → List Peer → Type 0
AreOfPeer v peers = (s : ℕ) (p : Peer) → slice_get peers s ≡ Some p → IsOfPeer v s p

-- the sources are those that the link tells
pub record Agrees (link : LinkView) (peers : List Peer) : Type 0 where
  pub count : length peers ≡ link.peer.count
  pub each : AreOfPeer link.peer peers

-- the peer was asked no more fills than the sources, or their count stands at its end
abbrev pub AsksFewFills : Remoting → Remoting → Type 0
AsksFewFills old new = (new.link.peer.fills + old.fills ≤ old.link.peer.fills + new.fills) ⊎ (2 ^ 64 - 1 ≤ new.fills)

-- a source failed no more often than the link and the peer's source together, or the count of one of these stands at its end
abbrev pub FailsFewTimes : Remoting → Remoting → ℕ → Type 0
FailsFewTimes old new s =
    let before = faults_in (slice_get old.peers s) in
    let after = faults_in (slice_get new.peers s) in
    (after + old.link.faults + old.link.peer.faults s ≤ before + new.link.faults + new.link.peer.faults s) ⊎ ((2 ^ 64 - 1 ≤ new.link.faults) ⊎ (2 ^ 64 - 1 ≤ new.link.peer.faults s))

-- from the old state came the new one: it keeps what sources keep, and over a told link the peer was asked few fills, and each source failed few times
pub record CameFrom (old new : Remoting) : Type 0 where
  pub keeps : Keeps (view_of old) (view_of new)
  pub fills : old.link.told ≡ true → AsksFewFills old new
  pub faults : old.link.told ≡ true → (s : ℕ) → FailsFewTimes old new s

-- sources tell what the peer tells: its documents, and whether they are forward
pub record Tells (v peer : View) : Type 0 where
  pub count : v.count ≡ peer.count
  pub told : (s : ℕ) → v.told s ≡ peer.told s
  pub documents : (s : ℕ) → s < peer.count → document v s ≡ document peer s
  pub forward : (s : ℕ) → v.forward s ≡ peer.forward s
