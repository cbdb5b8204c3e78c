-- Why a far source over a line fails.
use Rattle.std.specs.Prelude.{◌≡◌, ℕ, ◌≤◌, true, if◌then◌else◌, Some, slice_get}
use Rattle.lxp_core.specs.declared.open_tree.HoleId.{HoleId}
use Rattle.lxp_core.specs.Open.{Open}
use Rattle.lxp_wire.specs.Links.{LinkView}
use Rattle.lxp_remote.specs.Filled.{HasTaken, NamesCause}
use Rattle.lxp_remote.specs.Opened.{AreUnfilled, IsRefusedFor}
use Rattle.lxp_remote.specs.Remotes as remote
use Rattle.lxp_remote.specs.Remotes.{Remoting, last_in}
use Rattle.far_keep.specs.Names.{is_far_root}
use Rattle.far_links.specs.declared.fault.FarFault.{FarFault}
use Rattle.far_links.specs.declared.fault.FarFault.TheVariants.{Unopened, Wire, NoSource, RootNamed}
use Rattle.far_links.specs.Holes.{names_root}
use Rattle.far_links.specs.Standing.{Standing, undialled, dialled, opened}

-- a fill of a hole of one of the sources after a link failed for this cause: none came that keeps the rules, or one came that names a whole document
abbrev pub FailsOpened : Remoting → Remoting → ℕ → HoleId → FarFault → Type 0
FailsOpened old new s h (Unopened fault) = ⊥
FailsOpened old new s h (Wire fault) = NamesCause old new s h × (last_in (slice_get new.peers s) ≡ Some fault)
FailsOpened old new s h NoSource = ⊥
FailsOpened old new s h RootNamed = (o : Open) × HasTaken old.link new.link (slice_get old.peers s) (slice_get new.peers s) s h o × (names_root o ≡ true)

-- a line comes to this link: the link is new where the line had none
abbrev pub HasLink : Standing → LinkView → Type 0
HasLink undialled v = Unit {0}
HasLink (dialled w) v = w ≡ v
HasLink (opened r) v = ⊥

-- a line comes to these sources: where they were not told before, none was filled yet
abbrev pub HasSources : Standing → Remoting → Type 0
HasSources undialled r = AreUnfilled r.peers
HasSources (dialled v) r = AreUnfilled r.peers
HasSources (opened q) r = q ≡ r

-- the sources over a line were not told for this cause
abbrev pub HasRefused : Standing → Standing → FarFault → Type 0
HasRefused old new (Unopened fault) = (v w : LinkView) × HasLink old v × (new ≡ dialled w) × IsRefusedFor v w fault
HasRefused old new (Wire fault) = ⊥
HasRefused old new NoSource = ⊥
HasRefused old new RootNamed = ⊥

-- the hole that is filled where one is asked: that of a whole document is the root of the source of a number
abbrev pub meant : Remoting → ℕ → HoleId → HoleId
meant r s h = if is_far_root h then (remote.view_of r).root s else h

-- a fill of a hole over a line failed for this cause
abbrev pub HasFailed : Standing → Standing → ℕ → HoleId → FarFault → Type 0
HasFailed old new s h (Unopened fault) = HasRefused old new (Unopened fault)
HasFailed old new s h (Wire fault) = (q r : Remoting) × HasSources old q × (new ≡ opened r) × FailsOpened q r s (meant q s h) (Wire fault)
HasFailed old new s h NoSource = (r : Remoting) × HasSources old r × (new ≡ opened r) × ((remote.view_of r).count ≤ s)
HasFailed old new s h RootNamed = (q r : Remoting) × HasSources old q × (new ≡ opened r) × FailsOpened q r s (meant q s h) RootNamed
