-- Why a remote source fails, and what a reply shows of it.
use Rattle.std.specs.Prelude.{◌≡◌, ℕ, ◌<◌, ◌≤◌, true, false, List, Option, Some, None}
use Rattle.mix_base.specs.Counts.{HasRisen}
use Rattle.lxp_core.specs.declared.open_tree.HoleId.{HoleId}
use Rattle.lxp_core.specs.Open.{IsApart, IsProgress, is_nil, has_node}
use Rattle.wire_text.specs.declared.request.Request.{Request}
use Rattle.wire_text.specs.declared.request.Request.TheVariants.{Count, Root, Fill}
use Rattle.lxp_remote.specs.declared.fault.Broken.{Broken}
use Rattle.lxp_remote.specs.declared.fault.Broken.TheVariants.{NotAReply, WrongReply, TooDeep, HolesOnly, AdjacentHoles, Weight, WeightChanged}
use Rattle.lxp_remote.specs.declared.fault.WireFault.{WireFault}
use Rattle.lxp_remote.specs.declared.fault.WireFault.TheVariants.{Link, BadFragment, PeerFailed, PeerUnknown, PeerNoSource}
use Rattle.wire_text.specs.Wired.{Wired, without_weights, total_of, holes_of}
use Rattle.wire_text.specs.Reply.{Said, count, root, list, failed, unknown_hole, no_memory, no_source, SpellsReply, IsReplyText, reply_bytes, deep_place}
use Rattle.lxp_remote.specs.Known.{IsChanged}
use Rattle.lxp_wire.specs.Links.{LinkView}

-- a reply with a value, though not one to a request of this form
abbrev pub IsOfAnother : Request → Said → Type 0
IsOfAnother r failed = ⊥
IsOfAnother r unknown_hole = ⊥
IsOfAnother r no_memory = ⊥
IsOfAnother r no_source = ⊥
IsOfAnother Count (count n) = ⊥
IsOfAnother Count (root id weight) = Unit {0}
IsOfAnother Count (list o) = Unit {0}
IsOfAnother (Root s) (count n) = Unit {0}
IsOfAnother (Root s) (root id weight) = ⊥
IsOfAnother (Root s) (list o) = Unit {0}
IsOfAnother (Fill s h) (count n) = Unit {0}
IsOfAnother (Fill s h) (root id weight) = Unit {0}
IsOfAnother (Fill s h) (list o) = ⊥

-- what was asked, what the asked hole weighs, and what the holes are known to weigh
pub record Asked : Type 0 where
  pub request : Request
  pub weight : ℕ
  pub known : HoleId → Option ℕ

-- a request, the weight of the hole that it asks for, and the holes that are known
abbrev pub asking : Request → ℕ → (HoleId → Option ℕ) → Asked
asking r weight known = record { request = r; weight = weight; known = known }

-- the list keeps progress and is no heavier than the hole
abbrev pub IsLightEnough : Asked → Wired → Type 0
IsLightEnough a o = IsProgress (without_weights o) × (total_of o ≤ a.weight)

-- the reply is a list of at most 200 levels with this property
abbrev pub IsListWith : (Wired → Type 0) → List ℕ → Type 0
IsListWith Has x = (o : Wired) × SpellsReply x (list o) × (deep_place 200 o ≡ None) × Has o

-- the reply shows what is broken, and that nothing is that stands before it
abbrev pub ShowsBroken : Asked → Broken → List ℕ → Type 0
ShowsBroken a NotAReply x = IsReplyText x → ⊥
ShowsBroken a WrongReply x = (r : Said) × SpellsReply x r × IsOfAnother a.request r
ShowsBroken a TooDeep x = (o : Wired) × (at : ℕ) × SpellsReply x (list o) × (deep_place 200 o ≡ Some at) × (IsOfAnother a.request (list o) → ⊥)
ShowsBroken a HolesOnly x = IsListWith (λ o. (is_nil (without_weights o) ≡ false) × (has_node (without_weights o) ≡ false)) x
ShowsBroken a AdjacentHoles x = IsListWith (λ o. (is_nil (without_weights o) ≡ false → has_node (without_weights o) ≡ true) × (IsApart (without_weights o) → ⊥)) x
ShowsBroken a Weight x = IsListWith (λ o. IsProgress (without_weights o) × (a.weight < total_of o)) x
ShowsBroken a WeightChanged x = IsListWith (λ o. IsLightEnough a o × IsChanged a.known (holes_of o)) x

-- the last reply shows the cause
abbrev pub Shows : Asked → WireFault → List ℕ → Type 0
Shows a Link x = ⊥
Shows a (BadFragment b) x = ShowsBroken a b x
Shows a PeerFailed x = x ≡ reply_bytes failed
Shows a PeerUnknown x = x ≡ reply_bytes unknown_hole
Shows a PeerNoSource x = x ≡ reply_bytes no_source

-- a cause has come in a call: the link failed, or it gave a reply, and the last one shows the cause
abbrev pub HasCome : Asked → LinkView → LinkView → WireFault → Type 0
HasCome a old new Link = HasRisen old.faults new.faults
HasCome a old new (BadFragment b) = HasRisen old.replies new.replies × Shows a (BadFragment b) new.last
HasCome a old new PeerFailed = HasRisen old.replies new.replies × Shows a PeerFailed new.last
HasCome a old new PeerUnknown = HasRisen old.replies new.replies × Shows a PeerUnknown new.last
HasCome a old new PeerNoSource = HasRisen old.replies new.replies × Shows a PeerNoSource new.last
