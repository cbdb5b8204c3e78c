-- How the files of serving are accepted or refused, one after another, and how serving ends.
use Rattle.std.proofs.Common.{◌≡◌, ◌∙◌, ap, inl, inr, ℕ, List, [], Result, refl, subst, string_bytes}
use Rattle.mix_io.specs.Input.{InputView}
use Rattle.mix_io.specs.Views.{FilesView, KeepsFiles, ReadsOnly, SinkView}
use Rattle.mix_catalog.specs.declared.source.SourceSpec.{SourceSpec}
use Rattle.mix_mount.specs.declared.mount.Mount.{Mount}
use Rattle.mix_reach.specs.Reach.{CameFrom, Reaching, view_of}
use Rattle.mix_reach.specs.Stores.{StoresView, stores_of}
use Rattle.mix_reach.specs.declared.site.Site.{Site}
use Rattle.mix_serve.specs.Ends.{ServingEnds}
use Rattle.mix_serve.specs.declared.fault.ServeFault.{ServeFault}
use Rattle.mix_serve.specs.declared.serving.Served.{Served}
use Rattle.mix_place.specs.Causes.{IsNoCatalog}
use Rattle.mix_place.specs.Files.{IsBaseFile}
use Rattle.mix_place.specs.Chosen.{every, ChosenMayRead}
use Rattle.mix_place.specs.Reading.{ReadsAmong}
use Rattle.mix_place.specs.Mounting.{IsMountStop}
use Rattle.mix_place.specs.Placed.{Placed}
use Rattle.mix_place.specs.Stops.{IsLoadStop}
use Rattle.mix_place.specs.declared.refusal.Stop.{Stop}
use Rattle.mix_place.specs.declared.refusal.Stop.TheVariants.{Refused, SinkFailed, OutOfMemory}
use Rattle.mix_place.proofs.ChosenLaws.{source_may_before}
use Rattle.mix_place.proofs.ReadingLaws.{reads_one, reads_twice, reads_wider}
use Rattle.mix_place.proofs.MountLaws.{IsSteady}
use Rattle.mix_place.proofs.Earlier.{source_refused_after}
use Rattle.mix_run.specs.Running.{placed_of}
use Rattle.mix_top.specs.Served.{AreAnswered, IsServingStop, ServingMayRead, reaching}

-- where the catalog was not accepted, serving stops
pub catalog_stops : (old new : FilesView) (catalog : List ℕ) (stop : Stop) → ReadsOnly catalog old new → IsLoadStop IsNoCatalog old new catalog stop → IsServingStop old new catalog stop
catalog_stops old new catalog (Refused r) only h = inl (h, only)
catalog_stops old new catalog SinkFailed only h = absurd h
catalog_stops old new catalog OutOfMemory only h = tt

-- where the file of a source was not accepted after a catalog that was, serving stops
pub sources_stop : (old mid new : FilesView) (catalog : List ℕ) (sources : List SourceSpec) (stop : Stop) → IsSteady old mid → IsBaseFile old catalog sources
    → ReadsOnly catalog old mid → IsMountStop mid new every sources stop → IsServingStop old new catalog stop
sources_stop old mid new catalog sources (Refused r) steady cat only h =
    inr (sources, cat, source_refused_after (λ p. p ≡ catalog) old mid new every sources r.status (string_bytes r.line) steady only h)
sources_stop old mid new catalog sources SinkFailed steady cat only h = absurd h
sources_stop old mid new catalog sources OutOfMemory steady cat only h = tt

-- where the catalog alone was read, only what serving may read was
pub catalog_read : (old new : FilesView) (catalog : List ℕ) → ReadsOnly catalog old new → ReadsAmong (ServingMayRead old catalog) old new
catalog_read old new catalog only = reads_one (ServingMayRead old catalog) catalog old new (inl refl) only

-- where the catalog was read and then files of its sources, only what serving may read was
pub sources_read : (old mid new : FilesView) (catalog : List ℕ) (sources : List SourceSpec) → IsBaseFile old catalog sources → KeepsFiles old mid
    → ReadsOnly catalog old mid → ReadsAmong (ChosenMayRead mid every sources) mid new → ReadsAmong (ServingMayRead old catalog) old new
sources_read old mid new catalog sources cat keeps only reads =
    let May = ServingMayRead old catalog in
    reads_twice May old mid new (catalog_read old mid catalog only)
    (reads_wider (ChosenMayRead mid every sources) May mid new (λ path h. inr (sources, cat, source_may_before old mid every sources keeps path h)) reads)

-- where sources were served, they were over the stores before and after
pub served_over : (old new : Reaching) (place : Placed) (before after : StoresView) (input input' : InputView) (sink sink' : SinkView) (end : Result Served ServeFault) → placed_of old [] ≡ place → stores_of old ≡ before
    → old.fills ≡ 0 → old.mounted.fills ≡ 0 → CameFrom old new → stores_of new ≡ after → ServingEnds (view_of old) (view_of new) input input' sink sink' end → AreAnswered place before after input input' sink sink' end
served_over old new place before after input input' sink sink' end place_is stores_are none own came then ends =
    let Over : Reaching → Reaching → Type 0 = λ a b. CameFrom a b × ServingEnds (view_of a) (view_of b) input input' sink sink' end in
    let place_stays : placed_of new [] ≡ place = ap (λ (ds : List Mount). record { docs = ds; sites = new.sites; views = [] }) came.mounted.docs
    ∙ ap (λ (ss : List Site). record { docs = old.mounted.docs; sites = ss; views = [] }) came.sites ∙ place_is in
    let b : new ≡ reaching place after new.mounted.fills new.fills = ap (λ (p : Placed). reaching p (stores_of new) new.mounted.fills new.fills) place_stays
    ∙ ap (λ (v : StoresView). reaching place v new.mounted.fills new.fills) then in
    let a : old ≡ reaching place before 0 0 = ap (λ (p : Placed). reaching p (stores_of old) old.mounted.fills old.fills) place_is
    ∙ ap (λ (v : StoresView). reaching place v old.mounted.fills old.fills) stores_are ∙ ap (λ (n : ℕ). reaching place before n old.fills) own ∙ ap (λ (n : ℕ). reaching place before 0 n) none in
    let over = subst (λ (x : Reaching). Over x (reaching place after new.mounted.fills new.fills)) a (subst (λ (x : Reaching). Over old x) b (came, ends)) in
    (new.mounted.fills, new.fills, over.0, over.1)
