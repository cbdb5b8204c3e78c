use Rattle.std.proofs.Common.{◌≡◌, ◌≤◌, true, length}
use Rattle.lxp_remote.specs.Opened.{AreUnfilled}
use Rattle.lxp_remote.specs.Remotes.{AreOfPeer}
use Rattle.lxp_remote.proofs.roots.ask_roots.Given as goal

abbrev pub invariant-loop-source : goal.invariant-loop-source
invariant-loop-source g l =
    let old = g.L.Link.view l.fn.link in
    let new = g.L.Link.view l.link in record {
      came : g.L.Link.came_from l.fn.link l.link;
      number : length l.peers.items ≡ l.source;
      unfilled : AreUnfilled l.peers.items;
      fills : old.told ≡ true → new.peer.fills ≤ old.peer.fills;
      each : old.told ≡ true → AreOfPeer new.peer l.peers.items;
    }
