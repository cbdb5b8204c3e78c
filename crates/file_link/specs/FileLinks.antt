-- What a link over two files means.
use Rattle.std.specs.Prelude.{◌≡◌, ℕ, ◌<◌, ◌≤◌, Bool, true, false, [], Result, Ok, Err, refl}
use Rattle.std.proofs.Common.{◌∙◌, arith}
use Rattle.std.specs.Global.{Vec}
use Rattle.lxp_wire.specs.declared.link.LinkFault.{LinkFault}
use Rattle.lxp_wire.specs.Links.{LinkView, KeepsLink}
use Rattle.lxp_wire.specs.FixedLinks.{no_sources}
use Rattle.file_link.specs.declared.loss.Loss.{Loss}
use Rattle.file_link.specs.Losses.{breaks, fault_of}
use Rattle.file_link.specs.declared.file_link.State.{State}
use Rattle.file_link.specs.declared.file_link.State.TheVariants.{Closed, Open, Broken}
use Rattle.file_link.specs.declared.file_link.FileLink.{FileLink}

-- no file is open, and the next request opens both
abbrev pub IsClosedState : State → Type 0
IsClosedState Closed = Unit {0}
IsClosedState (Open files) = ⊥
IsClosedState Broken = ⊥

-- no file is open, and none is opened again
abbrev pub IsBrokenState : State → Type 0
IsBrokenState Closed = ⊥
IsBrokenState (Open files) = ⊥
IsBrokenState Broken = Unit {0}

-- both files are open
abbrev pub IsOpenState : State → Type 0
IsOpenState Closed = ⊥
IsOpenState (Open files) = Unit {0}
IsOpenState Broken = ⊥

-- the state after a loss, by whether it breaks the link
abbrev pub IsStateAfter : Bool → State → Type 0
IsStateAfter true state = IsBrokenState state
IsStateAfter false state = IsClosedState state

-- the state that follows from what an exchange came to, and its answer
abbrev pub Settles : Result (Vec ℕ) Loss → State → Result (Vec ℕ) LinkFault → Type 0
Settles (Ok reply) state answer = IsOpenState state × (answer ≡ Ok reply)
Settles (Err loss) state answer = IsStateAfter (breaks loss) state × (answer ≡ Err (fault_of loss))

-- the link's files are closed, and the next request opens them
abbrev pub IsClosed : FileLink → Type 0
IsClosed l = IsClosedState l.state

-- the link is broken for good
abbrev pub IsBroken : FileLink → Type 0
IsBroken l = IsBrokenState l.state

-- a link that was never asked
abbrev pub fresh_view : LinkView
fresh_view = record { faults = 0; replies = 0; last = []; told = false; peer = no_sources }

-- what a link over two files means: it tells no sources
abbrev pub file_link_view : FileLink → LinkView
file_link_view l = record { faults = l.faults; replies = l.given; last = l.last.items; told = false; peer = no_sources }

-- from an old state came a new one: its counts did not fall, and what was broken stayed so and gave no reply
pub record CameFrom (old new : FileLink) : Type 0 where
  pub replies : old.given ≤ new.given
  pub faults : old.faults ≤ new.faults
  pub broken : IsBroken old → IsBroken new × (new.given ≡ old.given)

-- a state came from itself
pub came_same : (a : FileLink) → CameFrom a a
came_same a = record { replies = omega arith; faults = omega arith; broken = λ b. (b, refl) }

-- a state that came from one which came from a third came from that third
pub came_after : (a b c : FileLink) → CameFrom a b → CameFrom b c → CameFrom a c
came_after a b c x y = record {
  replies = omega (arith, x.replies, y.replies);
  faults = omega (arith, x.faults, y.faults);
  broken = λ h. let mid = x.broken h in let end = y.broken mid.0 in (end.0, end.1 ∙ mid.1);
}

-- what came from a state keeps it
pub came_keeps : (a b : FileLink) → CameFrom a b → KeepsLink (file_link_view a) (file_link_view b)
came_keeps a b x = record { told = refl; faults = x.faults; replies = x.replies; peer = λ told. absurd cc }

-- no sources are told
pub none_told : (a : FileLink) (s : ℕ) → (file_link_view a).told ≡ true → s < (file_link_view a).peer.count
    → (file_link_view a).peer.knows s ((file_link_view a).peer.root s) ≡ true
none_told a s told h = absurd cc
