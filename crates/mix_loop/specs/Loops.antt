-- What the sources of a view behind a link in memory mean, and what stands in for such sources.
use Rattle.std.specs.Prelude.{◌≡◌, ◌≤◌, ◌+◌, ℕ, true, List}
use Rattle.mix_base.specs.Counts.{HasRisenBy}
use Rattle.table_keep.specs.Views.{TablesView}
use Rattle.lxp_core.specs.View.{View}
use Rattle.lxp_wire.specs.MemLinks.{memory_view}
use Rattle.lxp_wire.specs.Stream.{sources_of}
use Rattle.lxp_wire.specs.declared.mem_link.MemLink.{MemLink}
use Rattle.lxp_remote.specs.Opened.{AreUnfilled}
use Rattle.lxp_remote.specs.Remotes.{Remoting, Tells, remoting, view_of}
use Rattle.lxp_remote.specs.declared.peer.Peer.{Peer}
use Rattle.far_keep.specs.Views.{FarsView}
use Rattle.mix_reach.specs.Reach as reach
use Rattle.mix_reach.specs.Reach.{CameFrom, Reaching, reaching_in}
use Rattle.mix_reach.specs.declared.reached.Reached.{Reached}

-- the state of sources after a link in memory, behind which are sources over tables and other machines of these meanings
abbrev pub looped : {T R : Type 0} → (T → TablesView) → (R → FarsView) → MemLink (Reached T R) → List Peer → ℕ → Remoting
looped view far link peers fills = remoting (memory_view (reach.view_of (reaching_in view far (sources_of link.server))) link.replies link.last) peers fills

-- a link that never fails tells the sources behind it
pub record TellsReached (r : Remoting) (m : Reaching) : Type 0 where
  pub told : r.link.told ≡ true
  pub unfailed : r.link.faults ≡ 0
  pub peer : r.link.peer ≡ reach.view_of m

-- sources after a link to others, which came to a second state, were opened: they tell the documents of these, and no fill was asked
pub record IsOpened (a mid : Reaching) (r : Remoting) : Type 0 where
  pub came : CameFrom a mid
  pub unasked : mid.fills ≡ a.fills
  pub link : TellsReached r mid
  pub tells : Tells (view_of r) (reach.view_of a)
  pub fills : r.fills ≡ 0
  pub unfilled : AreUnfilled r.peers

-- sources that meant the first view before and mean the second after stood in for others: they tell the documents of these, of which no more fills
-- were asked than of them, and which failed each time that they did, and as often before at least
pub record StandIn (old new : View) (a b : Reaching) : Type 0 where
  pub tells : Tells old (reach.view_of a)
  pub came : CameFrom a b
  pub fills : b.fills + old.fills ≤ a.fills + new.fills
  pub faults : (s times : ℕ) → HasRisenBy times (old.faults s) (new.faults s) → HasRisenBy times ((reach.view_of a).faults s) ((reach.view_of b).faults s)
  pub earlier : (s : ℕ) → old.faults s ≤ (reach.view_of a).faults s
