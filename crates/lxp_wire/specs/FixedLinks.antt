-- What a link with fixed replies means.
use Rattle.std.specs.Prelude.{◌≡◌, ℕ, zero, suc, ◌<◌, ◌≤◌, true, false, List, [], ◌∷◌, get_or, map, refl}
use Rattle.std.proofs.Common.{arith}
use Rattle.std.specs.Global.{Vec}
use Rattle.mix_tree.specs.Forest.{none}
use Rattle.lxp_core.specs.View.{View}
use Rattle.lxp_wire.specs.declared.fixed_link.FixedLink.{FixedLink}
use Rattle.lxp_wire.specs.Links.{LinkView, KeepsLink}

-- the replies of a link with fixed ones
abbrev pub replies_of : FixedLink → List (Vec ℕ)
replies_of l = l.replies.items

-- how many replies a link with fixed ones gave
abbrev pub given_of : FixedLink → ℕ
given_of l = l.given

-- how often a link with fixed replies was asked for more
abbrev pub faults_of : FixedLink → ℕ
faults_of l = l.faults

-- no sources
abbrev pub no_sources : View
no_sources = record {
  count = 0;
  root = λ s. record { words = 0 ∷ 0 ∷ 0 ∷ [] };
  told = λ s. false;
  knows = λ s h. false;
  forest = λ s h. none;
  weight = λ s h. 0;
  forward = λ s. false;
  small = λ s. false;
  fills = 0;
  faults = λ s. 0;
}

-- the reply before a place; the empty text before the first one
abbrev pub reply_before : List (List ℕ) → ℕ → List ℕ
reply_before replies zero = []
reply_before replies (suc i) = get_or replies i []

-- what a link with fixed replies means: it tells no sources
abbrev pub fixed_view : FixedLink → LinkView
fixed_view l = record { faults = l.faults; replies = l.given; last = reply_before (map (λ v. v.items) l.replies.items) l.next; told = false; peer = no_sources }

-- from an old state came a new one: its counts did not fall
pub record CameFrom (old new : FixedLink) : Type 0 where
  pub replies : old.given ≤ new.given
  pub faults : old.faults ≤ new.faults

-- a state came from itself
pub came_same : (a : FixedLink) → CameFrom a a
came_same a = record { replies = omega arith; faults = omega arith }

-- a state that came from one which came from a third came from that third
pub came_after : (a b c : FixedLink) → CameFrom a b → CameFrom b c → CameFrom a c
came_after a b c x y = record { replies = omega (arith, x.replies, y.replies); faults = omega (arith, x.faults, y.faults) }

-- what came from a state keeps it
pub came_keeps : (a b : FixedLink) → CameFrom a b → KeepsLink (fixed_view a) (fixed_view b)
came_keeps a b x = record { told = refl; faults = x.faults; replies = x.replies; peer = λ told. absurd cc }

-- no sources are told
pub none_told : (a : FixedLink) (s : ℕ) → (fixed_view a).told ≡ true → s < (fixed_view a).peer.count → (fixed_view a).peer.knows s ((fixed_view a).peer.root s) ≡ true
none_told a s told h = absurd cc
