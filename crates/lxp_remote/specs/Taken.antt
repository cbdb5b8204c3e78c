-- What a fill of a source after a link comes to.
use Rattle.std.specs.Prelude.{◌≡◌, ◌⊎◌, ℕ, ◌<◌, true, Option, Some}
use Rattle.mix_base.specs.Counts.{HasRisen}
use Rattle.lxp_core.specs.declared.open_tree.HoleId.{HoleId}
use Rattle.lxp_core.specs.Open.{Open}
use Rattle.lxp_core.specs.Small.{IsSmall}
use Rattle.wire_text.specs.declared.request.Request.TheVariants.{Fill}
use Rattle.wire_text.specs.Reply.{list}
use Rattle.wire_text.specs.Wired.{Wired, holes_of, without_weights}
use Rattle.lxp_wire.specs.Answer.{IsAnswer}
use Rattle.lxp_wire.specs.Links.{LinkView}
use Rattle.lxp_remote.specs.declared.fault.WireFault.{WireFault}
use Rattle.lxp_remote.specs.declared.fault.WireFault.TheVariants.{Link, PeerFailed}
use Rattle.lxp_remote.specs.Causes.{HasCome, asking}
use Rattle.lxp_remote.specs.Learned.{Learns}
use Rattle.lxp_remote.specs.Rules.{KeepsRules}

-- a list that came for a hole of this weight: it keeps the rules, its holes were learned, and where the link tells its sources it is theirs
pub record IsTaken (s : ℕ) (h : HoleId) (weight : ℕ) (old new : LinkView) (known known' : HoleId → Option ℕ) (o : Open) : Type 0 where
  pub wired : Wired
  pub same : o ≡ without_weights wired
  pub rules : KeepsRules wired weight
  pub small : IsSmall o
  pub learns : Learns known known' (holes_of wired)
  pub told : old.told ≡ true → IsAnswer old.peer new.peer (Fill s h) (list wired)

-- holes of a source are known by the weights that they have there, this one among them
pub record AreKnownThere (v : LinkView) (s : ℕ) (h : HoleId) (weight : ℕ) (known : HoleId → Option ℕ) : Type 0 where
  pub inside : s < v.peer.count
  pub there : v.peer.knows s h ≡ true
  pub same : weight ≡ v.peer.weight s h
  pub weights : (i : HoleId) (n : ℕ) → known i ≡ Some n → (v.peer.knows s i ≡ true) × (n ≡ v.peer.weight s i)

-- a fill failed for the cause that is named, which has come; over a link that tells its sources it is the link, or the source failed
abbrev pub HasFailed : ℕ → HoleId → LinkView → LinkView → (HoleId → Option ℕ) → Option WireFault → Type 0
HasFailed s h old new known last = (fault : WireFault) × (n : ℕ) × (last ≡ Some fault) × (known h ≡ Some n) × HasCome (asking (Fill s h) n known) old new fault
    × (old.told ≡ true → AreKnownThere old s h n known → (fault ≡ Link) ⊎ ((fault ≡ PeerFailed) × HasRisen (old.peer.faults s) (new.peer.faults s)))
