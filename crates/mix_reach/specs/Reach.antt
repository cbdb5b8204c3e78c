-- What mounted documents beside sources of other machines mean as sources.
use Rattle.std.specs.Prelude.{◌≡◌, ◌⊎◌, ℕ, ◌<◌, ◌≤◌, ◌+◌, ◌-◌, ◌*◌, ◌^◌, Bool, true, false, List, get_or, refl}
use Rattle.std.proofs.Common.{inl, inr, sym, subst, ap, ◌∙◌, arith}
use Rattle.lxp_core.specs.declared.open_tree.HoleId.{HoleId}
use Rattle.lxp_core.specs.Fill.{Piecewise, source_of}
use Rattle.lxp_core.specs.View.{View, Keeps}
use Rattle.far_keep.specs.Views.{FarsView, KeepsFars, far_document, far_root}
use Rattle.far_keep.specs.declared.far_source.FarSource.{FarSource}
use Rattle.far_keep.proofs.Views.{fars_after, fars_same}
use Rattle.mix_mount.specs.Mounts as mount
use Rattle.mix_mount.specs.Mounts.{Mounting, mounted_in}
use Rattle.mix_mount.specs.declared.mount.Mount.{Mount}
use Rattle.mix_reach.specs.declared.reached.Reached.{Reached}
use Rattle.mix_reach.specs.declared.site.Site.{Site}
use Rattle.mix_reach.specs.declared.site.Site.TheVariants.{Here, Far}
use Rattle.table_keep.specs.Views.{TablesView}

-- the site of a source's number; `Here` where there are not so many
abbrev pub site_at : List Site → ℕ → Site
site_at sites s = get_or sites s Here

-- the state of sources: what is mounted, where each source is, what the sources of other machines mean, and how many fills were asked in all
pub record Reaching : Type 0 where
  pub mounted : Mounting
  pub sites : List Site
  pub fars : FarsView
  pub fills : ℕ

-- the state of sources, given what their tables and their sources of other machines mean
abbrev pub reaching_in : {T R : Type 0} → (T → TablesView) → (R → FarsView) → Reached T R → Reaching
reaching_in view far r = record { mounted = mounted_in view r.mounted; sites = r.sites.items; fars = far r.fars; fills = r.fills }

-- the hole of a source's whole document, by where it is
abbrev pub root_at : View → ℕ → Site → HoleId
root_at v s Here = v.root s
root_at v s (Far far) = far_root

-- the document of a source, given piece by piece, by where it is
abbrev pub document_at : View → FarsView → ℕ → Site → Piecewise
document_at v fars s Here = source_of v s
document_at v fars s (Far far) = far_document fars far

-- whether a fill of a source's hole asks a page of a table, by where it is: one of another machine asks none here
abbrev pub asks_at : Mounting → ℕ → Site → HoleId → Bool
asks_at m s Here h = mount.asks (mount.mount_at m.docs s) h
asks_at m s (Far far) h = false

-- how many rows a fill of a source asks of tables at most, by where it is
abbrev pub rows_of_fill_at : Mounting → ℕ → Site → ℕ
rows_of_fill_at m s Here = mount.rows_of_fill (mount.mount_at m.docs s)
rows_of_fill_at m s (Far far) = 0

-- what mounted documents beside sources of other machines mean as sources
abbrev pub view_of : Reaching → View
view_of r =
    let v = mount.view_of r.mounted in
    let at : ℕ → Piecewise = λ s. document_at v r.fars s (site_at r.sites s) in
    record {
      count = v.count;
      root = λ s. root_at v s (site_at r.sites s);
      told = λ s. (at s).told;
      knows = λ s. (at s).knows;
      forest = λ s. (at s).forest;
      weight = λ s. (at s).weight;
      forward = λ s. (at s).forward;
      small = λ s. true;
      fills = r.fills;
      faults = λ s. (at s).faults;
    }

-- between two states no more pages were asked than fills, up to the end of the count of fills
abbrev pub AreFewPages : Reaching → Reaching → Type 0
AreFewPages old new = (new.mounted.tables.pages + old.fills ≤ old.mounted.tables.pages + new.fills) ⊎ (2 ^ 64 - 1 ≤ new.fills)

-- between two states no more rows were asked for than as many fills ask for at most, up to the end of the count of fills
abbrev pub AreFewRows : ℕ → Reaching → Reaching → Type 0
AreFewRows most old new = (new.mounted.tables.rows + old.fills * most ≤ old.mounted.tables.rows + new.fills * most) ⊎ (2 ^ 64 - 1 ≤ new.fills)

-- from the old state came the new one: what is mounted came from what was, each source is where it was, other machines keep their documents, no count
-- fell, and no more pages were asked than fills, nor more rows than these ask for
pub record CameFrom (old new : Reaching) : Type 0 where
  pub mounted : mount.CameFrom old.mounted new.mounted
  pub sites : new.sites ≡ old.sites
  pub fars : KeepsFars old.fars new.fars
  pub fills : old.fills ≤ new.fills
  pub pages : AreFewPages old new
  pub rows : AreFewRows (mount.most_rows old.mounted.docs) old new

-- from the old state came another by one fill that isn't counted yet: each source is where it was, and at most one page was asked, of
-- no more rows than a fill asks for
pub record CameUncounted (old new : Reaching) : Type 0 where
  pub mounted : mount.CameFrom old.mounted new.mounted
  pub sites : new.sites ≡ old.sites
  pub fars : KeepsFars old.fars new.fars
  pub fills : new.fills ≡ old.fills
  pub pages : new.mounted.tables.pages ≤ old.mounted.tables.pages + 1
  pub rows : new.mounted.tables.rows ≤ old.mounted.tables.rows + mount.most_rows old.mounted.docs

-- a state came from itself
pub came_same : (a : Reaching) → CameFrom a a
came_same a = record { mounted = mount.came_same a.mounted; sites = refl; fars = fars_same a.fars; fills = omega arith; pages = inl (omega arith); rows = inl (omega arith) }

-- no more pages than fills to a second state and from there to a third are no more from the first to the third
pages_after : (a b c : Reaching) → b.fills ≤ c.fills → AreFewPages a b → AreFewPages b c → AreFewPages a c
pages_after a b c h x (inr y) = inr y
pages_after a b c h (inr x) (inl y) = inr (omega (arith, h, x))
pages_after a b c h (inl x) (inl y) = inl (omega (arith, x, y))

-- no more rows than fills ask for to a second state and from there to a third are no more from the first to the third
rows_after : (most : ℕ) (a b c : Reaching) → b.fills ≤ c.fills → AreFewRows most a b → AreFewRows most b c → AreFewRows most a c
rows_after most a b c h x (inr y) = inr y
rows_after most a b c h (inr x) (inl y) = inr (omega (arith, h, x))
rows_after most a b c h (inl x) (inl y) = inl (omega (arith, x, y))

-- a state that came from one which came from a third came from that third
pub came_after : (a b c : Reaching) → CameFrom a b → CameFrom b c → CameFrom a c
came_after a b c x y = record {
  mounted = mount.came_after a.mounted b.mounted c.mounted x.mounted y.mounted;
  sites = y.sites ∙ x.sites;
  fars = fars_after a.fars b.fars c.fars x.fars y.fars;
  fills = omega (arith, x.fills, y.fills);
  pages = pages_after a b c y.fills x.pages y.pages;
  rows = rows_after (mount.most_rows a.mounted.docs) a b c y.fills x.rows (subst (λ (docs : List Mount). AreFewRows (mount.most_rows docs) b c) x.mounted.docs y.rows);
}

-- what is mounted keeps what calls keep, and so do sources of other machines
module _ (old new : View) (fo fn : FarsView) (keeps : Keeps old new) (fars : KeepsFars fo fn) (s : ℕ) where
  -- the hole of a source's whole document stays
  root_kept : (site : Site) → root_at new s site ≡ root_at old s site
  root_kept Here = keeps.root s
  root_kept (Far far) = refl

  -- a source tells its document exactly where it did before
  told_kept : (site : Site) → (document_at new fn s site).told ≡ (document_at old fo s site).told
  told_kept Here = keeps.told s
  told_kept (Far far) = fars.told far

  -- a source gives no list that begins with a hole exactly where it gave none before
  forward_kept : (site : Site) → (document_at new fn s site).forward ≡ (document_at old fo s site).forward
  forward_kept Here = keeps.forward s
  forward_kept (Far far) = fars.told far

  -- each hole that a source knew it knows
  knows_kept : (h : HoleId) (site : Site) → (document_at old fo s site).knows h ≡ true → (document_at new fn s site).knows h ≡ true
  knows_kept h Here k = keeps.knows s h k
  knows_kept h (Far far) k = fars.knows far h k

  -- each hole that a source knew stands for the same trees
  forest_kept : (h : HoleId) (site : Site) → (document_at old fo s site).knows h ≡ true → (document_at new fn s site).forest h ≡ (document_at old fo s site).forest h
  forest_kept h Here k = keeps.forest s h k
  forest_kept h (Far far) k = fars.forest far h k

  -- each hole that a source knew weighs the same
  weight_kept : (h : HoleId) (site : Site) → (document_at old fo s site).knows h ≡ true → (document_at new fn s site).weight h ≡ (document_at old fo s site).weight h
  weight_kept h Here k = keeps.weight s h k
  weight_kept h (Far far) k = fars.weight far h k

  -- a source's count of faults doesn't fall
  faults_kept : (site : Site) → (document_at old fo s site).faults ≤ (document_at new fn s site).faults
  faults_kept Here = keeps.faults s
  faults_kept (Far far) = fars.faults far

-- a state keeps what every call keeps of each state that it came from
pub came_keeps : (a b : Reaching) → CameFrom a b → Keeps (view_of a) (view_of b)
came_keeps a b x =
    let old = mount.view_of a.mounted in
    let new = mount.view_of b.mounted in
    let keeps = mount.came_keeps a.mounted b.mounted x.mounted in
    record {
      count = keeps.count;
      root = λ s. ap (λ (sites : List Site). root_at new s (site_at sites s)) x.sites ∙ root_kept old new a.fars b.fars keeps x.fars s (site_at a.sites s);
      told = λ s. ap (λ (sites : List Site). (document_at new b.fars s (site_at sites s)).told) x.sites ∙ told_kept old new a.fars b.fars keeps x.fars s (site_at a.sites s);
      forward = λ s. ap (λ (sites : List Site). (document_at new b.fars s (site_at sites s)).forward) x.sites ∙ forward_kept old new a.fars b.fars keeps x.fars s (site_at a.sites s);
      small = λ s. refl;
      knows = λ s h k. ap (λ (sites : List Site). (document_at new b.fars s (site_at sites s)).knows h) x.sites ∙ knows_kept old new a.fars b.fars keeps x.fars s h (site_at a.sites s) k;
      forest = λ s h k. ap (λ (sites : List Site). (document_at new b.fars s (site_at sites s)).forest h) x.sites ∙ forest_kept old new a.fars b.fars keeps x.fars s h (site_at a.sites s) k;
      weight = λ s h k. ap (λ (sites : List Site). (document_at new b.fars s (site_at sites s)).weight h) x.sites ∙ weight_kept old new a.fars b.fars keeps x.fars s h (site_at a.sites s) k;
      fills = x.fills;
      faults = λ s.
          subst (λ (sites : List Site). (document_at old a.fars s (site_at a.sites s)).faults ≤ (document_at new b.fars s (site_at sites s)).faults) (sym x.sites)
          (faults_kept old new a.fars b.fars keeps x.fars s (site_at a.sites s));
    }

-- each source knows the hole of its whole document, where those of other machines do
pub reached_root_known : (a : Reaching) → ((far : FarSource) → a.fars.knows far far_root ≡ true) → (s : ℕ) → s < (view_of a).count → (view_of a).knows s ((view_of a).root s) ≡ true
reached_root_known a far_known s h = known (site_at a.sites s)
  where
    known : (site : Site) → (document_at (mount.view_of a.mounted) a.fars s site).knows (root_at (mount.view_of a.mounted) s site) ≡ true
    known Here = mount.mounted_root_known a.mounted s h
    known (Far far) = far_known far

-- each list that sources answer is small
pub all_small : (a : Reaching) (s : ℕ) → s < (view_of a).count → (view_of a).small s ≡ true
all_small a s h = refl
