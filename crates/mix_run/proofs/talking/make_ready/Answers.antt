use Rattle.std.proofs.Common.{◌≡◌, ℕ, List}
use Rattle.std.proofs.lemmas.Result.{err_from_is_err_and}
use Rattle.mix_catalog.specs.declared.source.SourceSpec.{SourceSpec}
use Rattle.plan_core.specs.PlanMade.{plan_value}
use Rattle.plan_core.specs.Plans.{Operator}
use Rattle.mix_io.specs.Views.{FilesView}
use Rattle.mix_io.proofs.Keeps.{keeps_files_twice}
use Rattle.mix_place.specs.Placed.{IsSourceRefused, SourceMayRead}
use Rattle.mix_run.specs.Runs.{by_view}
use Rattle.mix_place.proofs.MountLaws.{is_steady, steady_twice}
use Rattle.mix_run.proofs.FilesRead.{reads_catalog, reads_view}
use Rattle.mix_place.specs.Reading.{IsEither}
use Rattle.mix_place.proofs.ReadingLaws.{reads_more}
use Rattle.mix_run.proofs.Readiness.{gives_before, file_unready}
use Rattle.mix_place.proofs.Earlier.{plan_before}
use Rattle.mix_place.proofs.PlaceLaws.{place_before}
use Rattle.mix_run.proofs.Readying.{sources_read, sources_unready}
use Rattle.mix_run.proofs.talking.make_ready.Goals as goal

-- after a view the files of its sources may be read
abbrev Sources : FilesView → List SourceSpec → List Operator → List ℕ → Type 0
Sources files sources ops = SourceMayRead files ops sources

pub returns-in_err-plan-clause-err : goal.returns-in_err-plan-clause-err
returns-in_err-plan-clause-err g c =
    let view = g.F.Files.view in
    let old = view c.args.files.now in
    let mid = view c.load_catalog.new.files in
    let p = err_from_is_err_and c.from_residual-in_err-plan.result c.from_residual-in_err-plan.ensures.1 in
    rw (p.1, p.2) (file_unready by_view (λ sources ops. IsSourceRefused (IsEither c.args.talking.now.catalog.now c.args.talking.now.view.now) old (view c.load_view.new.files) ops sources) old mid (view c.load_view.new.files) c.args.talking.now.view.now c.args.talking.now.catalog.now c.in_ok-catalog.catalog _
    (is_steady old mid c.in_ok-catalog.ensures.keeps c.in_ok-catalog.ensures.steady) c.in_ok-catalog.ensures.ok c.in_ok-catalog.ensures.others c.in_err-plan.ensures.err c.in_err-plan.ensures.others)

pub returns-in_err-placement-clause-keeps : goal.returns-in_err-placement-clause-keeps
returns-in_err-placement-clause-keeps g c =
    let view = g.F.Files.view in
    let old = view c.args.files.now in
    let mid = view c.load_catalog.new.files in
    let late = view c.load_view.new.files in
    keeps_files_twice old late (view c.place_sources.new.files) (keeps_files_twice old mid late c.in_ok-catalog.ensures.keeps c.in_ok-plan.ensures.keeps) c.in_err-placement.ensures.keeps

pub returns-in_err-placement-clause-err : goal.returns-in_err-placement-clause-err
returns-in_err-placement-clause-err g c =
    let view = g.F.Files.view in
    let old = view c.args.files.now in
    let mid = view c.load_catalog.new.files in
    let late = view c.load_view.new.files in
    let p = err_from_is_err_and c.from_residual-in_err-placement.result c.from_residual-in_err-placement.ensures.1 in
    let one = is_steady old mid c.in_ok-catalog.ensures.keeps c.in_ok-catalog.ensures.steady in
    let two = steady_twice old mid late one (is_steady mid late c.in_ok-plan.ensures.keeps c.in_ok-plan.ensures.steady) in
    rw (p.1, p.2) (sources_unready old late (view c.place_sources.new.files) c.args.talking.now.view.now c.args.talking.now.catalog.now c.in_ok-catalog.catalog (plan_value c.in_ok-plan.plan).ops _ two c.in_ok-catalog.ensures.ok
    (gives_before old mid c.args.talking.now.view.now c.in_ok-catalog.catalog (plan_value c.in_ok-plan.plan) one.keeps c.in_ok-plan.ensures.ok)
    (reads_more (λ p. p ≡ c.args.talking.now.catalog.now) (λ p. p ≡ c.args.talking.now.view.now) old mid late c.in_ok-catalog.ensures.others c.in_ok-plan.ensures.others) c.in_err-placement.ensures.err)

pub returns-clause-ok : goal.returns-clause-ok
returns-clause-ok g c =
    let view = g.F.Files.view in
    let old = view c.args.files.now in
    let mid = view c.load_catalog.new.files in
    let late = view c.load_view.new.files in
    let keeps = keeps_files_twice old mid late c.in_ok-catalog.ensures.keeps c.in_ok-plan.ensures.keeps in
    record {
      catalog_is = c.in_ok-catalog.ensures.ok;
      plan_is = plan_before old mid c.args.talking.now.view.now c.in_ok-catalog.catalog (plan_value c.in_ok-plan.plan) c.in_ok-catalog.ensures.keeps c.in_ok-plan.ensures.ok;
      placed_are = place_before old late (plan_value c.in_ok-plan.plan).ops c.in_ok-catalog.catalog _ keeps c.in_ok-placement.ensures.ok;
      few = c.in_ok-catalog.ensures.few;
      uses = c.in_ok-plan.ensures.uses;
      over = c.in_ok-plan.ensures.over;
    }

pub returns-in_err-catalog-clause-reads : goal.returns-in_err-catalog-clause-reads
returns-in_err-catalog-clause-reads g c =
    let view = g.F.Files.view in
    let old = view c.args.files.now in
    reads_catalog by_view (Sources old) old c.args.talking.now.view.now c.args.talking.now.catalog.now (view c.load_catalog.new.files) c.in_err-catalog.ensures.others

pub returns-in_err-plan-clause-reads : goal.returns-in_err-plan-clause-reads
returns-in_err-plan-clause-reads g c =
    let view = g.F.Files.view in
    let old = view c.args.files.now in
    let mid = view c.load_catalog.new.files in
    let one = reads_catalog by_view (Sources old) old c.args.talking.now.view.now c.args.talking.now.catalog.now mid c.in_ok-catalog.ensures.others in
    reads_view by_view (Sources old) old c.args.talking.now.view.now c.args.talking.now.catalog.now c.in_ok-catalog.catalog c.in_ok-catalog.ensures.ok mid (view c.load_view.new.files) one c.in_err-plan.ensures.others

pub returns-in_err-placement-clause-reads : goal.returns-in_err-placement-clause-reads
returns-in_err-placement-clause-reads g c =
    let view = g.F.Files.view in
    sources_read (view c.args.files.now) (view c.load_catalog.new.files) (view c.load_view.new.files) (view c.place_sources.new.files) c.args.talking.now.view.now c.args.talking.now.catalog.now c.in_ok-catalog.catalog
    (plan_value c.in_ok-plan.plan) c.in_ok-catalog.ensures.ok c.in_ok-plan.ensures.ok c.in_ok-catalog.ensures.keeps c.in_ok-plan.ensures.keeps c.in_ok-catalog.ensures.others c.in_ok-plan.ensures.others c.in_err-placement.ensures.reads

pub returns-clause-reads : goal.returns-clause-reads
returns-clause-reads g c =
    let view = g.F.Files.view in
    sources_read (view c.args.files.now) (view c.load_catalog.new.files) (view c.load_view.new.files) (view c.place_sources.new.files) c.args.talking.now.view.now c.args.talking.now.catalog.now c.in_ok-catalog.catalog
    (plan_value c.in_ok-plan.plan) c.in_ok-catalog.ensures.ok c.in_ok-plan.ensures.ok c.in_ok-catalog.ensures.keeps c.in_ok-plan.ensures.keeps c.in_ok-catalog.ensures.others c.in_ok-plan.ensures.others c.in_ok-placement.ensures.reads

pub place_sources-requires : goal.place_sources-requires
place_sources-requires g c = (c.in_ok-catalog.ensures.ok.text, c.in_ok-catalog.ensures.ok.accepted)
