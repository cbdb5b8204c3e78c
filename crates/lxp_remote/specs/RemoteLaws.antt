-- Sources after a link keep what sources keep, and know their roots.
use Rattle.std.specs.Prelude.{◌≡◌, ℕ, zero, suc, ◌<◌, ◌≤◌, true, List, [], ◌∷◌, length, slice_get, is_some, refl}
use Rattle.std.proofs.Common.{inl, inr, ◌∙◌, arith}
use Rattle.mix_tree.proofs.SameKeys.{bytes_eq-refl}
use Rattle.lxp_core.proofs.Views.{keeps_same, keeps_twice}
use Rattle.lxp_wire.specs.Links.{KeepsLink}
use Rattle.lxp_remote.specs.declared.peer.Peer.{Peer}
use Rattle.lxp_remote.specs.Remotes.{Remoting, view_of, root_in, known_in, AsksFewFills, FailsFewTimes, CameFrom}

-- a state came from itself
pub came_same : (a : Remoting) → CameFrom a a
came_same a = record { keeps = keeps_same (view_of a); fills = λ told. inl (omega arith); faults = λ told s. inl (omega arith) }

-- few fills twice are few fills
few_fills : (a b c : Remoting) → b.fills ≤ c.fills → AsksFewFills a b → AsksFewFills b c → AsksFewFills a c
few_fills a b c h (inr x) y = inr (omega (arith, h, x))
few_fills a b c h (inl x) (inr y) = inr y
few_fills a b c h (inl x) (inl y) = inl (omega (arith, x, y))

-- few faults twice are few faults
few_faults : (a b c : Remoting) (s : ℕ) → b.link.faults ≤ c.link.faults → b.link.peer.faults s ≤ c.link.peer.faults s → FailsFewTimes a b s → FailsFewTimes b c s → FailsFewTimes a c s
few_faults a b c s h k (inr (inl x)) y = inr (inl (omega (arith, h, x)))
few_faults a b c s h k (inr (inr x)) y = inr (inr (omega (arith, k, x)))
few_faults a b c s h k (inl x) (inr y) = inr y
few_faults a b c s h k (inl x) (inl y) = inl (omega (arith, x, y))

-- a state that came from one which came from a third came from that third
pub came_after : (a b c : Remoting) → KeepsLink a.link b.link → KeepsLink b.link c.link → CameFrom a b → CameFrom b c → CameFrom a c
came_after a b c k m x y = record {
  keeps = keeps_twice (view_of a) (view_of b) (view_of c) x.keeps y.keeps;
  fills = λ told. few_fills a b c y.keeps.fills (x.fills told) (y.fills (k.told ∙ told));
  faults = λ told s. few_faults a b c s m.faults ((m.peer (k.told ∙ told)).faults s) (x.faults told s) (y.faults (k.told ∙ told) s);
}

-- each source knows its root
pub root_is_known : (r : Remoting) (s : ℕ) → s < (view_of r).count → (view_of r).knows s ((view_of r).root s) ≡ true
root_is_known r s h = go r.peers s h
  where
    go : (peers : List Peer) (s : ℕ) → s < length peers → is_some (known_in (slice_get peers s) (root_in (slice_get peers s))) ≡ true
    go [] s h = absurd (omega arith)
    go (p ∷ peers) zero h = rw (bytes_eq-refl p.root.id.words) refl
    go (p ∷ peers) (suc s) h = go peers s (omega arith)
