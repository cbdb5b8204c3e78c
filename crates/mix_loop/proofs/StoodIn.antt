-- Sources after a link in memory stand in for those behind it.
use Rattle.std.proofs.Common.{◌≡◌, ◌+◌, ◌-◌, ◌^◌, ◌≤◌, ◌⊎◌, inl, inr, ℕ, List, Some, None, refl, ap, subst, arith, slice_get}
use Rattle.mix_base.specs.Counts.{HasRisenBy}
use Rattle.lxp_core.specs.View.{View}
use Rattle.lxp_remote.specs.Opened.{AreUnfilled}
use Rattle.lxp_remote.specs.Remotes.{CameFrom, FailsFewTimes, Remoting, faults_in, view_of}
use Rattle.lxp_remote.specs.declared.peer.Peer.{Peer}
use Rattle.mix_reach.specs.Reach as reach
use Rattle.mix_reach.specs.Reach.{CameFrom as CameFromReaching, Reaching, came_after, came_keeps}
use Rattle.mix_loop.specs.Loops.{IsOpened, StandIn, TellsReached}

-- of sources none of which was filled yet none ever failed
never_failed : (peers : List Peer) (s : ℕ) → AreUnfilled peers → faults_in (slice_get peers s) ≡ 0
never_failed peers s unfilled =
    elim (slice_get peers s) as (λ p. slice_get peers s ≡ p → faults_in p ≡ 0) [
      | None ↦ λ is. refl
      | Some p ↦ λ is. (unfilled s p is).faults
    ] refl

-- a count that rose by no more than another, from where no failure was counted, rose by so many times only where the other did
risen : (f f' a m b times : ℕ) → f ≡ 0 → a ≤ m → f' + m ≤ f + b → HasRisenBy times f f' → HasRisenBy times a b
risen f f' a m b times none before few h = omega (arith, none, before, few, h)

-- a count that stands at its end has risen by any times
at_end : (a b times : ℕ) → 2 ^ 64 - 1 ≤ b → HasRisenBy times a b
at_end a b times h = omega (arith, h)

-- sources after a link to others stood in for these since they were opened
pub stood_in : (a mid b : Reaching) (old now : Remoting) → IsOpened a mid old → TellsReached now b → CameFrom old now → CameFromReaching mid b → b.fills ≤ 2 ^ 64 - 1
    → StandIn (view_of old) (view_of now) a b
stood_in a mid b old now opened link came later most = record {
  tells = opened.tells;
  came = came_after a mid b opened.came later;
  fills = fills (came.fills opened.link.told);
  faults = λ s times h. each s times (came.faults opened.link.told s) h;
  earlier = λ s. (let none = never_failed old.peers s opened.unfilled in omega (arith, none));
}
  where
    fills : (now.link.peer.fills + old.fills ≤ old.link.peer.fills + now.fills) ⊎ (2 ^ 64 - 1 ≤ now.fills) → b.fills + old.fills ≤ a.fills + now.fills
    fills (inl few) =
        let first = ap (λ (v : View). v.fills) opened.link.peer in
        let last = ap (λ (v : View). v.fills) link.peer in
        omega (arith, few, first, last, opened.unasked)
    fills (inr all) = omega (arith, all, most, opened.fills)

    each : (s times : ℕ) → FailsFewTimes old now s → HasRisenBy times ((view_of old).faults s) ((view_of now).faults s)
        → HasRisenBy times ((reach.view_of a).faults s) ((reach.view_of b).faults s)
    each s times (inl few) h =
        let first = ap (λ (v : View). v.faults s) opened.link.peer in
        let last = ap (λ (v : View). v.faults s) link.peer in
        let none = never_failed old.peers s opened.unfilled in
        let before = (came_keeps a mid opened.came).faults s in
        risen (faults_in (slice_get old.peers s)) (faults_in (slice_get now.peers s)) ((reach.view_of a).faults s) ((reach.view_of mid).faults s) ((reach.view_of b).faults s) times none before
        (omega (arith, few, first, last, opened.link.unfailed, link.unfailed)) h
    each s times (inr (inl all)) h = absurd (omega (arith, all, link.unfailed))
    each s times (inr (inr all)) h =
        at_end ((reach.view_of a).faults s) ((reach.view_of b).faults s) times (subst (λ (n : ℕ). 2 ^ 64 - 1 ≤ n) (ap (λ (v : View). v.faults s) link.peer) all)
