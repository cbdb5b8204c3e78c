-- Sources that were mounted: those that a plan reads, or all.
use Rattle.std.specs.Prelude.{set, ◌≡◌, ℕ, Bool, true, false, cond, IsTrue, List, length, Option, Some, None, slice_get, string_bytes}
use Rattle.mix_tree.specs.Forest.{LabelledTree, alone}
use Rattle.mix_io.specs.Views.{FilesView}
use Rattle.mix_catalog.specs.declared.source.SourceSpec.{SourceSpec}
use Rattle.mix_catalog.specs.Grammar.{file_of, is_view}
use Rattle.mix_catalog.specs.Sources.{IsCatalog, base_of}
use Rattle.mix_mount.specs.declared.mount.Mount.{Mount}
use Rattle.mix_mount.specs.declared.mount.Mount.TheVariants.{Absent, Table}
use Rattle.mix_mount.specs.Mounts.{is_told, document, mount_at, table_of, IsGivenBy}
use Rattle.table_keep.specs.Views.{Declared, TablesView}
use Rattle.table_wrap.specs.declared.document.TableDoc.{TableDoc}
use Rattle.far_keep.specs.declared.far_source.FarSource.{FarSource}
use Rattle.mix_reach.specs.Reach.{site_at}
use Rattle.mix_reach.specs.declared.site.Site.{Site}
use Rattle.mix_reach.specs.declared.site.Site.TheVariants.{Here, Far}
use Rattle.table_wrap.specs.Document.{chunk_of, declared_in, declared_of, name_of}
use Rattle.plan_core.specs.Plans.{Operator}
use Rattle.mix_place.specs.declared.refusal.Stop.{Stop}
use Rattle.mix_place.specs.declared.refusal.Stop.TheVariants.{Refused, SinkFailed, OutOfMemory}
use Rattle.mix_place.specs.Chosen.{IsChosenRefused, every}
use Rattle.view_class.specs.Reads.{reads_source}
use Rattle.mix_place.specs.Documents.{StandsFor, StandsForNone, far_in, is_deep, is_file_of, IsDocument}
use Rattle.mix_place.specs.Stops.{IsLoadStop}

-- a mount is the document that a file stands for, whatever tables mean, and gives a number of children at a time, each whole or not
pub record IsMountedFile (Stands : List ℕ → LabelledTree → Type 0) (files : FilesView) (path : List ℕ) (chunk : ℕ) (deep : Bool) (mount : Mount) : Type 0 where
  pub tree : LabelledTree
  pub document_is : IsDocument Stands files path tree
  pub in_memory : table_of mount ≡ None
  pub told : (v : TablesView) → is_told v mount ≡ true
  pub given : (v : TablesView) → document v mount ≡ alone tree
  pub given_by : IsGivenBy mount chunk deep

-- a mount is the document of a source's file, and gives its children as the catalog says
abbrev pub IsMountedSource : FilesView → SourceSpec → Mount → Type 0
IsMountedSource files spec mount = IsMountedFile (StandsFor spec.name spec.kind) files (file_of spec.kind) spec.chunk (is_deep spec.kind) mount

-- sources are those of a catalog that are no views
abbrev pub IsBase : List SourceSpec → Type 0
IsBase sources = (text : List ℕ) × (whole : List SourceSpec) × IsCatalog text whole × (sources ≡ base_of whole)

-- sources are those of a catalog
abbrev pub IsSpelled : List SourceSpec → Type 0
IsSpelled sources = (text : List ℕ) × IsCatalog text sources

-- a mount is the document of a table as the catalog declares it
pub record IsMountedTable (spec : SourceSpec) (mount : Mount) : Type 0 where
  pub doc : TableDoc
  pub is : mount ≡ Table doc
  pub name : name_of doc ≡ spec.name
  pub chunk : chunk_of doc ≡ spec.chunk
  pub declares : declared_in spec.kind ≡ Some (declared_of doc)

-- a mount is the document of a source that is no view: that of its file, or of its table; where the source is of another machine, nothing is mounted
pub record IsMountedSpec (files : FilesView) (spec : SourceSpec) (mount : Mount) : Type 0 where
  pub file : is_file_of spec.kind ≡ true → IsMountedSource files spec mount
  pub table : (d : Declared) → declared_in spec.kind ≡ Some d → IsMountedTable spec mount
  pub far : (far : FarSource) → far_in spec.kind ≡ Some far → mount ≡ Absent
  pub other : is_view spec.kind ≡ false

-- a mount is that of a source by a choice of sources: the source's document where it is chosen, else `Absent`
pub record IsMountFor (files : FilesView) (chosen : ℕ → Bool) (s : ℕ) (spec : SourceSpec) (mount : Mount) : Type 0 where
  pub read : IsTrue (chosen s) → IsMountedSpec files spec mount
  pub unread : chosen s ≡ false → mount ≡ Absent

-- the mount of each source's number is the source's document where the source is chosen, else `Absent`
pub record AreChosenMounted (files : FilesView) (chosen : ℕ → Bool) (sources : List SourceSpec) (docs : List Mount) : Type 0 where
  pub count : length docs ≡ length sources
  pub each : (s : ℕ) (spec : SourceSpec) → slice_get sources s ≡ Some spec → IsMountFor files chosen s spec (mount_at docs s)

-- the mount of each source's number is the source's document where a plan's operators read the source, else `Absent`
abbrev pub AreMounted : FilesView → List Operator → List SourceSpec → List Mount → Type 0
AreMounted files ops sources docs = AreChosenMounted files (reads_source ops) sources docs

-- the mount of each source's number is the source's document
abbrev pub AllAreMounted : FilesView → List SourceSpec → List Mount → Type 0
AllAreMounted files sources docs = AreChosenMounted files every sources docs

-- where a source of a kind is: at another machine, or mounted here
abbrev pub site_by : Option FarSource → Site
site_by None = Here
site_by (Some far) = Far far

-- where each source is: at another machine where it is a chosen source of another machine, else here
abbrev pub AreSites : (ℕ → Bool) → List SourceSpec → List Site → Type 0
AreSites chosen sources sites = (s : ℕ) (spec : SourceSpec) → slice_get sources s ≡ Some spec → site_at sites s ≡ cond (chosen s) (site_by (far_in spec.kind)) Here

-- mounting a source stopped: its file, which is read whole, is refused, or memory ran out
abbrev pub IsSpecStop : FilesView → FilesView → SourceSpec → Stop → Type 0
IsSpecStop old new spec (Refused r) = (is_file_of spec.kind ≡ true) × IsLoadStop (StandsForNone spec.kind) old new (file_of spec.kind) (Refused r)
IsSpecStop old new spec SinkFailed = ⊥
IsSpecStop old new spec OutOfMemory = Unit {0}

-- mounting a source by a choice stopped: the file is refused of a source that is chosen and is such a file, or memory ran out
abbrev pub IsSourceStop : FilesView → FilesView → (ℕ → Bool) → ℕ → SourceSpec → Stop → Type 0
IsSourceStop old new chosen s spec (Refused r) = IsTrue (chosen s) × IsSpecStop old new spec (Refused r)
IsSourceStop old new chosen s spec SinkFailed = ⊥
IsSourceStop old new chosen s spec OutOfMemory = Unit {0}

-- mounting the chosen sources stopped: the file is refused of the first of them whose file is not accepted, or memory ran out
abbrev pub IsMountStop : FilesView → FilesView → (ℕ → Bool) → List SourceSpec → Stop → Type 0
IsMountStop old new chosen sources (Refused r) = IsChosenRefused (λ p. ⊥) old new chosen sources r.status (string_bytes r.line)
IsMountStop old new chosen sources SinkFailed = ⊥
IsMountStop old new chosen sources OutOfMemory = Unit {0}

-- what is mounted for a source where it is chosen, and nothing where it isn't
abbrev pub IsMountWhere : FilesView → Bool → SourceSpec → Option Mount → Type 0
IsMountWhere files chosen spec None = chosen ≡ false
IsMountWhere files chosen spec (Some mount) = (chosen ≡ true) × IsMountedSpec files spec mount

-- mounting a source where it is chosen stopped: its file, which is read whole, is refused, or memory ran out
abbrev pub IsStopWhere : FilesView → FilesView → Bool → SourceSpec → Stop → Type 0
IsStopWhere old new chosen spec stop = (chosen ≡ true) × IsSpecStop old new spec stop

-- mounts with one put at a place, where there is one
abbrev pub put_in : List Mount → ℕ → Option Mount → List Mount
put_in docs s None = docs
put_in docs s (Some mount) = set docs s mount

-- beside what was mounted before, the mount of a source's number is the source's document where it is chosen, else as it was
abbrev pub IsMountBeside : FilesView → (ℕ → Bool) → ℕ → SourceSpec → Mount → Mount → Type 0
IsMountBeside files chosen s spec before after = (IsTrue (chosen s) → IsMountedSpec files spec after) × (chosen s ≡ false → after ≡ before)

-- beside what was mounted before, the mount of each source's number is the source's document where it is chosen, else as it was
pub record AreMountedBeside (files : FilesView) (chosen : ℕ → Bool) (sources : List SourceSpec) (before after : List Mount) : Type 0 where
  pub count : length after ≡ length before
  pub each : (s : ℕ) (spec : SourceSpec) → slice_get sources s ≡ Some spec → IsMountBeside files chosen s spec (mount_at before s) (mount_at after s)
