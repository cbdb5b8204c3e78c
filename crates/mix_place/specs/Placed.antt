-- The sources of a plan that were placed for it, in which order their files are read, and which may be refused.
use Rattle.std.specs.Prelude.{◌≡◌, ◌⊎◌, ◌<◌, ◌+◌, ℕ, Bool, true, IsTrue, List, Option, Some, None, MatchOption, get_or, length, slice_get, string_bytes}
use Rattle.mix_io.specs.Views.{FilesView}
use Rattle.mix_catalog.specs.declared.source.SourceSpec.{SourceSpec}
use Rattle.mix_catalog.specs.Grammar.{file_of}
use Rattle.mix_catalog.specs.Sources.{base_of, views_last}
use Rattle.mix_mount.specs.declared.mount.Mount.{Mount}
use Rattle.mix_reach.specs.declared.site.Site.{Site}
use Rattle.plan_core.specs.declared.plan.Plan.{Plan}
use Rattle.plan_core.specs.PlanMade.{plan_value}
use Rattle.plan_core.specs.Plans.{Operator}
use Rattle.view_class.specs.Reads.{reads_source}
use Rattle.xmas_read.specs.Results.{names_of_sources}
use Rattle.mix_place.specs.Causes.{IsNoRule}
use Rattle.mix_place.specs.Chosen.{AreAccepted, ChosenMayRead, IsChosenRefused}
use Rattle.mix_place.specs.Files.{IsRefusedLast}
use Rattle.mix_place.specs.Mounting.{AreChosenMounted, AreSites}
use Rattle.mix_place.specs.Plans.{IsPlanOver, IsViewPlan}
use Rattle.mix_place.specs.Reading.{IsFileBefore}
use Rattle.mix_place.specs.Stops.{IsLoadStop}
use Rattle.mix_place.specs.Views.{IsLower, adds, lower_at, lower_of, needs}
use Rattle.mix_place.specs.declared.placing.Placement.{Placement}
use Rattle.mix_place.specs.declared.refusal.Stop.{Stop}
use Rattle.mix_place.specs.declared.refusal.Stop.TheVariants.{Refused, SinkFailed, OutOfMemory}

-- the number of the view at a place among the views of a catalog: views stand after the sources that are no views
abbrev pub view_number : List SourceSpec → ℕ → ℕ
view_number sources i = length (base_of sources) + i

-- the view at a place among the views of a catalog is this one, and a plan's operators read it
pub record IsViewRead (ops : List Operator) (sources : List SourceSpec) (i : ℕ) (spec : SourceSpec) : Type 0 where
  pub there : slice_get sources (view_number sources i) ≡ Some spec
  pub read : IsTrue (reads_source ops (view_number sources i))

-- a path is that of the file of a view that a plan's operators read, before a place among the views
abbrev pub IsViewFileBefore : List Operator → List SourceSpec → ℕ → List ℕ → Type 0
IsViewFileBefore ops sources n path = (i : ℕ) × (spec : SourceSpec) × (i < n) × IsViewRead ops sources i spec × (path ≡ file_of spec.kind)

-- of the first views of a catalog those that a plan's operators read were read, and these are their operators
pub record AreLower (files : FilesView) (ops : List Operator) (sources : List SourceSpec) (n : ℕ) (lower : List (Option (List Operator))) : Type 0 where
  pub count : length lower ≡ n
  pub each : (i : ℕ) (spec : SourceSpec) → i < n → slice_get sources (view_number sources i) ≡ Some spec
      → IsLower files (names_of_sources (base_of sources)) spec (reads_source ops (view_number sources i)) (lower_at lower i)

-- all views of a catalog were read that a plan's operators read, and these are their operators
abbrev pub AreAllLower : FilesView → List Operator → List SourceSpec → List (Option (List Operator)) → Type 0
AreAllLower files ops sources lower = AreLower files ops sources (length lower) lower × (view_number sources (length lower) ≡ length sources)

-- a view that is to be read was not: its file is refused, or memory ran out
abbrev pub IsLowerStop : FilesView → FilesView → List (List ℕ) → SourceSpec → Bool → Stop → Type 0
IsLowerStop old new names spec read stop = (read ≡ true) × IsLoadStop (IsNoRule names) old new (file_of spec.kind) stop

-- THE FILES OF VIEWS ALONE

-- the files of views that may be read: each where those of all views before it are accepted that a plan's operators read
abbrev pub ViewsMayRead : FilesView → List Operator → List SourceSpec → List ℕ → Type 0
ViewsMayRead files ops sources path =
    (i : ℕ) × (spec : SourceSpec) × IsViewRead ops sources i spec × (path ≡ file_of spec.kind) × (lower : List (Option (List Operator))) × AreLower files ops sources i lower

-- the file of a view that a plan's operators read is refused, those of all such views before it are accepted, and nothing was read but given files, these and it
pub record AreViewsRefused (Before : List ℕ → Type 0) (old new : FilesView) (ops : List Operator) (sources : List SourceSpec) (status : ℕ) (line : List ℕ) : Type 0 where
  pub place : ℕ
  pub spec : SourceSpec
  pub lower : List (Option (List Operator))
  pub is : IsViewRead ops sources place spec
  pub earlier : AreLower old ops sources place lower
  pub refused : IsRefusedLast (λ p. Before p ⊎ IsViewFileBefore ops sources place p) (IsNoRule (names_of_sources (base_of sources))) old new (file_of spec.kind) status line

-- THE FILES OF ALL SOURCES

-- a path is that of a file that is read whole of a source that a plan's operators or the first views need, or of one of these views
abbrev pub IsFileUpTo : List Operator → List SourceSpec → ℕ → List (Option (List Operator)) → List ℕ → Type 0
IsFileUpTo ops sources n lower path =
    IsFileBefore (needs ops lower) (base_of sources) (length (base_of sources)) path ⊎ IsViewFileBefore ops sources n path

-- the first views of a catalog were read, and the files of all sources are accepted that a plan's operators or these views need
pub record AreReadTo (files : FilesView) (ops : List Operator) (sources : List SourceSpec) (n : ℕ) (lower : List (Option (List Operator))) : Type 0 where
  pub views : AreLower files ops sources n lower
  pub accepted : AreAccepted files (needs ops lower) (base_of sources) (length (base_of sources))

-- the files of a view that may be read, and of the sources that it adds, where all before it are accepted
pub record ViewMayRead (files : FilesView) (ops : List Operator) (sources : List SourceSpec) (path : List ℕ) : Type 0 where
  pub place : ℕ
  pub spec : SourceSpec
  pub lower : List (Option (List Operator))
  pub is : IsViewRead ops sources place spec
  pub earlier : AreReadTo files ops sources place lower
  pub may : (path ≡ file_of spec.kind)
      ⊎ ((view : Option (List Operator)) × IsLower files (names_of_sources (base_of sources)) spec (reads_source ops (view_number sources place)) view
      × ChosenMayRead files (adds ops lower view) (base_of sources) path)

-- the files of sources that may be read for a plan: those of the sources that its operators read and that are no views, in the order of the catalog, and then for
-- each view that they read its own and those of the sources that it adds; each where all before it are accepted
abbrev pub SourceMayRead : FilesView → List Operator → List SourceSpec → List ℕ → Type 0
SourceMayRead files ops sources path = ChosenMayRead files (reads_source ops) (base_of sources) path ⊎ ViewMayRead files ops sources path

-- the file of a view is refused that a plan's operators read, or after it that of a source which the view adds; all before it are accepted, and nothing was read
-- but given files, these and it
pub record IsViewRefused (Before : List ℕ → Type 0) (old new : FilesView) (ops : List Operator) (sources : List SourceSpec) (status : ℕ) (line : List ℕ) : Type 0 where
  pub place : ℕ
  pub spec : SourceSpec
  pub lower : List (Option (List Operator))
  pub is : IsViewRead ops sources place spec
  pub earlier : AreReadTo old ops sources place lower
  pub refused : IsRefusedLast (λ p. Before p ⊎ IsFileUpTo ops sources place lower p) (IsNoRule (names_of_sources (base_of sources))) old new (file_of spec.kind) status line
      ⊎ ((view : Option (List Operator)) × IsLower old (names_of_sources (base_of sources)) spec (reads_source ops (view_number sources place)) view
      × IsChosenRefused (λ p. (Before p ⊎ IsFileUpTo ops sources place lower p) ⊎ (p ≡ file_of spec.kind)) old new (adds ops lower view) (base_of sources) status line)

-- the file of a source that is no view is refused and a plan's operators read it, or that of a view that they read, or of a source that the view adds; all before
-- it are accepted, and nothing was read but given files, these and it
abbrev pub IsSourceRefused : (List ℕ → Type 0) → FilesView → FilesView → List Operator → List SourceSpec → ℕ → List ℕ → Type 0
IsSourceRefused Before old new ops sources status line =
    IsChosenRefused Before old new (reads_source ops) (base_of sources) status line ⊎ IsViewRefused Before old new ops sources status line

-- WHAT WAS PLACED

-- sources that were placed: what is mounted, where each source is that is no view, and the plans of the views
pub record Placed : Type 0 where
  pub docs : List Mount
  pub sites : List Site
  pub views : List (Option Plan)

-- what the code has placed
abbrev pub placed : Placement → Placed
placed p = record { docs = p.docs.items; sites = p.sites.items; views = p.views.items }

-- a view that is not read has no plan, and one that is has the plan of its rule over sources that are no views
abbrev pub IsViewPlaced : FilesView → List SourceSpec → SourceSpec → Option Plan → Type 0
IsViewPlaced files base spec view = MatchOption view (Unit {0}) (λ p. IsViewPlan files (file_of spec.kind) base (plan_value p) × IsPlanOver base (plan_value p))

-- sources are placed as a plan's operators ask: those that they or their views need are mounted, but for other machines' sources, which are reached there; and each
-- view that they read has its plan, and no other has one
pub record ArePlaced (files : FilesView) (ops : List Operator) (sources : List SourceSpec) (p : Placed) : Type 0 where
  pub mounted : AreChosenMounted files (needs ops (lower_of p.views)) (base_of sources) p.docs
  pub sites : AreSites (needs ops (lower_of p.views)) (base_of sources) p.sites
  pub last : views_last sources ≡ true
  pub lower : AreAllLower files ops sources (lower_of p.views)
  pub views : (i : ℕ) (spec : SourceSpec) → slice_get sources (view_number sources i) ≡ Some spec → IsViewPlaced files (base_of sources) spec (get_or p.views i None)

-- placing stopped: the first file that is not accepted is refused, or memory ran out
abbrev pub IsPlaceStop : FilesView → FilesView → List Operator → List SourceSpec → Stop → Type 0
IsPlaceStop old new ops sources (Refused r) = IsSourceRefused (λ p. ⊥) old new ops sources r.status (string_bytes r.line)
IsPlaceStop old new ops sources SinkFailed = ⊥
IsPlaceStop old new ops sources OutOfMemory = Unit {0}

-- reading views stopped: the first file of a view that is not accepted is refused, or memory ran out
abbrev pub IsViewsStop : FilesView → FilesView → List Operator → List SourceSpec → Stop → Type 0
IsViewsStop old new ops sources (Refused r) = AreViewsRefused (λ p. ⊥) old new ops sources r.status (string_bytes r.line)
IsViewsStop old new ops sources SinkFailed = ⊥
IsViewsStop old new ops sources OutOfMemory = Unit {0}
