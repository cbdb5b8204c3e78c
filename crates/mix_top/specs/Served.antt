-- What serving the sources of a catalog comes to.
use Rattle.std.specs.Prelude.{◌≡◌, ◌⊎◌, ℕ, cond, List, [], ◌∷◌, Option, Some, None, Result, Ok, Err, codes, string_bytes}
use Rattle.std.specs.Str.{bytes_eq}
use Rattle.mix_io.specs.Input.{InputView}
use Rattle.mix_io.specs.Views.{FilesView, SinkView}
use Rattle.mix_catalog.specs.declared.source.SourceSpec.{SourceSpec}
use Rattle.mix_reach.specs.Reach.{CameFrom, Reaching, view_of}
use Rattle.mix_reach.specs.Stores.{StoresView}
use Rattle.mix_serve.specs.Ends.{ServingEnds}
use Rattle.mix_serve.specs.declared.fault.ServeFault.{ServeFault}
use Rattle.mix_serve.specs.declared.fault.ServeFault.TheVariants.{InputFailed, SinkFailed, OutOfMemory}
use Rattle.mix_serve.specs.declared.serving.Served.{Served}
use Rattle.mix_serve.specs.declared.serving.Served.TheVariants.{Whole, Broken, TooLong}
use Rattle.mix_place.specs.Causes.{IsNoCatalog}
use Rattle.mix_place.specs.Files.{IsBaseFile, IsRefusedFirst}
use Rattle.mix_place.specs.Chosen.{IsChosenRefused, every, ChosenMayRead}
use Rattle.mix_run.specs.Ends.{Ends}
use Rattle.mix_place.specs.Mounting.{AllAreMounted, AreSites}
use Rattle.mix_place.specs.Placed.{Placed}
use Rattle.mix_run.specs.Outside.{Outside}
use Rattle.mix_top.specs.Texts.{unknown_text}
use Rattle.mix_place.specs.declared.refusal.Stop.{Stop}
use Rattle.mix_place.specs.declared.refusal.Stop.TheVariants as stop
use Rattle.mix_top.specs.declared.serving.Holding.{Holding}

-- the catalog of serving, where command words are those of it
abbrev pub catalog_of : List (List ℕ) → Option (List ℕ)
catalog_of [] = None
catalog_of (word ∷ []) = None
catalog_of (word ∷ a ∷ []) = cond (bytes_eq word (codes "serve")) (Some a) None
catalog_of (word ∷ a ∷ b ∷ words) = None

-- a file of serving is refused, the first in this order: the catalog, and the files of all its sources that are no views
abbrev pub IsServingRefused : FilesView → FilesView → List ℕ → ℕ → List ℕ → Type 0
IsServingRefused old new catalog status line =
    IsRefusedFirst IsNoCatalog old new catalog status line
    ⊎ ((sources : List SourceSpec) × IsBaseFile old catalog sources × IsChosenRefused (λ p. p ≡ catalog) old new every sources status line)

-- serving may read the catalog, and then the files of all its sources that are no views
abbrev pub ServingMayRead : FilesView → List ℕ → List ℕ → Type 0
ServingMayRead files catalog path = (path ≡ catalog) ⊎ ((sources : List SourceSpec) × IsBaseFile files catalog sources × ChosenMayRead files every sources path)

-- given sources are all those of a catalog that are no views, each as the catalog says
abbrev pub AreServed : FilesView → List ℕ → Placed → Type 0
AreServed files catalog place =
    (sources : List SourceSpec) × IsBaseFile files catalog sources × AllAreMounted files sources place.docs × AreSites every sources place.sites

-- what was made ready for serving, as its sources
abbrev pub placed : Holding → Placed
placed h = record { docs = h.docs.items; sites = h.sites.items; views = [] }

-- the files of serving were not all accepted: one is refused, or memory ran out
abbrev pub IsServingStop : FilesView → FilesView → List ℕ → Stop → Type 0
IsServingStop old new catalog (stop.Refused r) = IsServingRefused old new catalog r.status (string_bytes r.line)
IsServingStop old new catalog stop.SinkFailed = ⊥
IsServingStop old new catalog stop.OutOfMemory = Unit {0}

-- the state of sources over stores, of which so many fills were asked, so many of them of what is mounted
abbrev pub reaching : Placed → StoresView → ℕ → ℕ → Reaching
reaching place stores own fills = record {
  mounted = record { docs = place.docs; tables = stores.tables; fills = own };
  sites = place.sites;
  fars = stores.fars;
  fills = fills;
}

-- requests were answered by sources over stores, from no fill on to a number of fills, and that ended; no more pages were asked than fills, nor more rows
-- than these ask for
abbrev pub AreAnswered : Placed → StoresView → StoresView → InputView → InputView → SinkView → SinkView → Result Served ServeFault → Type 0
AreAnswered place before after input input' sink sink' end =
    (own : ℕ) × (fills : ℕ) × CameFrom (reaching place before 0 0) (reaching place after own fills)
    × ServingEnds (view_of (reaching place before 0 0)) (view_of (reaching place after own fills)) input input' sink sink' end

-- the exit status of serving, by how it ended
abbrev pub serving_status : Result Served ServeFault → ℕ
serving_status (Ok Whole) = 0
serving_status (Ok Broken) = 8
serving_status (Ok TooLong) = 9
serving_status (Err SinkFailed) = 5
serving_status (Err OutOfMemory) = 6
serving_status (Err InputFailed) = 10

-- all files were accepted: the requests of an input were answered by all sources of the catalog, and the status says how that ended
pub record HasServed (before after : Outside) (catalog : List ℕ) (input input' : InputView) (sink sink' : SinkView) (status : ℕ) : Type 0 where
  pub place : Placed
  pub are : AreServed before.files catalog place
  pub end : Result Served ServeFault
  pub status_is : status ≡ serving_status end
  pub answered : AreAnswered place before.stores after.stores input input' sink sink' end

-- serving ends: a file is refused, and nothing is taken of the input or asked of stores; or the requests of the input were answered
abbrev pub ServeEnds : Outside → Outside → List ℕ → InputView → InputView → SinkView → SinkView → ℕ → Type 0
ServeEnds before after catalog input input' sink sink' status =
    ((input' ≡ input) × (after.stores ≡ before.stores) × Ends (IsServingRefused before.files after.files catalog) sink sink' status)
    ⊎ HasServed before after catalog input input' sink sink' status

-- words are refused that are of no form: nothing is taken of the input, and files and stores stay as they are
abbrev pub AreRefused : Outside → Outside → InputView → InputView → SinkView → SinkView → ℕ → Type 0
AreRefused before after input input' sink sink' status =
    (input' ≡ input) × (after ≡ before) × Ends (λ s lines. (s ≡ 2) × (lines ≡ unknown_text)) sink sink' status

-- how the call of words ends that are to be those of serving: as serving does, or they are refused
abbrev pub ServeWordsEnd : Option (List ℕ) → Outside → Outside → InputView → InputView → SinkView → SinkView → ℕ → Type 0
ServeWordsEnd (Some catalog) before after input input' sink sink' status = ServeEnds before after catalog input input' sink sink' status
ServeWordsEnd None before after input input' sink sink' status = AreRefused before after input input' sink sink' status

-- the files that a call of words may read that are to be those of serving
abbrev pub ServeWordsMayRead : FilesView → Option (List ℕ) → List ℕ → Type 0
ServeWordsMayRead files (Some catalog) path = ServingMayRead files catalog path
ServeWordsMayRead files None path = ⊥
