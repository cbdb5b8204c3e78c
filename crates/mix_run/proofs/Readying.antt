-- How the files of a talk are accepted or refused, one after another.
use Rattle.std.proofs.Common.{inr, ℕ, List, string_bytes}
use Rattle.mix_io.specs.Views.{FilesView, KeepsFiles, ReadsOnly}
use Rattle.mix_io.proofs.Keeps.{keeps_files_twice}
use Rattle.mix_catalog.specs.declared.source.SourceSpec.{SourceSpec}
use Rattle.plan_core.specs.Plans.{Operator, PlanValue}
use Rattle.mix_place.specs.declared.refusal.Stop.{Stop}
use Rattle.mix_place.specs.declared.refusal.Stop.TheVariants.{Refused, SinkFailed, OutOfMemory}
use Rattle.mix_place.specs.Files.{IsCatalogFile}
use Rattle.mix_run.specs.Runs.{by_view}
use Rattle.mix_place.specs.Placed.{IsPlaceStop, SourceMayRead}
use Rattle.mix_place.specs.Reading.{IsEither, ReadsAmong}
use Rattle.mix_place.specs.Plans.{IsViewPlan}
use Rattle.mix_run.proofs.FilesRead.{reads_catalog, reads_then, reads_view}
use Rattle.mix_place.proofs.PlaceLaws.{place_may_before, place_refused_after}
use Rattle.mix_place.proofs.MountLaws.{IsSteady}
use Rattle.mix_run.proofs.Readiness.{gives_before}
use Rattle.mix_run.specs.Talking.{IsTalkStop}
use Rattle.mix_run.specs.Talks.{TalkMayRead}

-- where the file of a source is refused after a view that is accepted, a talk is not ready
pub sources_unready : (old mid new : FilesView) (view catalog : List ℕ) (sources : List SourceSpec) (ops : List Operator) (stop : Stop) → IsSteady old mid
    → IsCatalogFile old catalog sources → by_view.Gives old view sources ops → ReadsAmong (IsEither catalog view) old mid → IsPlaceStop mid new ops sources stop
    → IsTalkStop old new view catalog stop
sources_unready old mid new view catalog sources ops (Refused r) steady cat gives reads h =
    inr (sources, cat, inr (ops, gives, place_refused_after (IsEither catalog view) old mid new ops sources r.status (string_bytes r.line) steady reads h))
sources_unready old mid new view catalog sources ops SinkFailed steady cat gives reads h = absurd h
sources_unready old mid new view catalog sources ops OutOfMemory steady cat gives reads h = tt

-- where the catalog, then the view and then the sources' files were read, only what a talk may read was
pub sources_read : (old mid late new : FilesView) (view catalog : List ℕ) (sources : List SourceSpec) (p : PlanValue) → IsCatalogFile old catalog sources → IsViewPlan mid view sources p
    → KeepsFiles old mid → KeepsFiles mid late → ReadsOnly catalog old mid → ReadsOnly view mid late → ReadsAmong (SourceMayRead late p.ops sources) late new → ReadsAmong (TalkMayRead old view catalog) old new
sources_read old mid late new view catalog sources p cat plan keeps later first second reads =
    let Sources : List SourceSpec → List Operator → List ℕ → Type 0 = λ sources ops. SourceMayRead old ops sources in
    let one = reads_catalog by_view Sources old view catalog mid first in
    let two = reads_view by_view Sources old view catalog sources cat mid late one second in
    reads_then by_view Sources old view catalog sources cat p.ops (gives_before old mid view sources p keeps plan) late new two (SourceMayRead late p.ops sources)
    (λ path h. place_may_before old late p.ops sources (keeps_files_twice old mid late keeps later) path h) reads
