use Rattle.std.proofs.Common.{◌≡◌, ℕ, List}
use Rattle.mix_catalog.specs.declared.source.SourceSpec.{SourceSpec}
use Rattle.plan_core.specs.Plans.{Operator}
use Rattle.mix_place.specs.Views.{lower_of}
use Rattle.std.proofs.lemmas.Result.{err_from_is_err_and}
use Rattle.plan_core.specs.PlanMade.{plan_value}
use Rattle.mix_io.proofs.Keeps.{keeps_files_twice}
use Rattle.mix_place.specs.Placed.{AreViewsRefused, ViewsMayRead}
use Rattle.mix_place.specs.Reading.{IsEither}
use Rattle.mix_place.proofs.MountLaws.{is_steady, steady_twice}
use Rattle.mix_place.proofs.PlaceLaws.{lower_all_before, views_may_before}
use Rattle.mix_place.proofs.ReadingLaws.{reads_more}
use Rattle.mix_run.specs.Running.{given_by}
use Rattle.mix_run.proofs.FilesRead.{reads_catalog, reads_then, reads_view}
use Rattle.mix_run.proofs.Readiness.{file_unready, given_ops_before, given_plan_before}
use Rattle.mix_top.proofs.StopLaws.{views_unready}
use Rattle.mix_top.proofs.reading.plan_text.Goals as goal

pub returns-in_err-plan-clause-err : goal.returns-in_err-plan-clause-err
returns-in_err-plan-clause-err g c =
    let view = g.F.Files.view in
    let old = view c.args.files.now in
    let p = err_from_is_err_and c.from_residual-in_err-plan.result c.from_residual-in_err-plan.ensures.1 in
    rw (p.1, p.2) (file_unready (given_by c.args.planning.now.form) (λ sources ops. AreViewsRefused (IsEither c.args.planning.now.catalog.now c.args.planning.now.file.now) old (view c.load_given.new.files) ops sources) old (view c.load_catalog.new.files) (view c.load_given.new.files)
    c.args.planning.now.file.now c.args.planning.now.catalog.now c.in_ok-catalog.catalog _
    (is_steady old (view c.load_catalog.new.files) c.in_ok-catalog.ensures.keeps c.in_ok-catalog.ensures.steady) c.in_ok-catalog.ensures.ok c.in_ok-catalog.ensures.others c.in_err-plan.ensures.err c.in_err-plan.ensures.others)

pub returns-in_err-load_views-clause-err : goal.returns-in_err-load_views-clause-err
returns-in_err-load_views-clause-err g c =
    let view = g.F.Files.view in
    let old = view c.args.files.now in
    let form = c.args.planning.now.form in
    let p = err_from_is_err_and c.from_residual-in_err-load_views.result c.from_residual-in_err-load_views.ensures.1 in
    let one = is_steady old (view c.load_catalog.new.files) c.in_ok-catalog.ensures.keeps c.in_ok-catalog.ensures.steady in
    let two = steady_twice old (view c.load_catalog.new.files) (view c.load_given.new.files) one (is_steady (view c.load_catalog.new.files) (view c.load_given.new.files) c.in_ok-plan.ensures.keeps c.in_ok-plan.ensures.steady) in
    rw (p.1, p.2) (views_unready (given_by form) old (view c.load_given.new.files) (view c.load_views.new.files) c.args.planning.now.file.now c.args.planning.now.catalog.now c.in_ok-catalog.catalog (plan_value c.in_ok-plan.plan).ops _ two c.in_ok-catalog.ensures.ok
    (given_ops_before form old (view c.load_catalog.new.files) c.args.planning.now.file.now c.in_ok-catalog.catalog (plan_value c.in_ok-plan.plan) one.keeps c.in_ok-plan.ensures.ok)
    (reads_more (λ p. p ≡ c.args.planning.now.catalog.now) (λ p. p ≡ c.args.planning.now.file.now) old (view c.load_catalog.new.files) (view c.load_given.new.files) c.in_ok-catalog.ensures.others c.in_ok-plan.ensures.others)
    c.in_err-load_views.ensures.err)

pub returns-in_err-catalog-clause-reads : goal.returns-in_err-catalog-clause-reads
returns-in_err-catalog-clause-reads g c =
    let view = g.F.Files.view in
    let old = view c.args.files.now in
    let form = c.args.planning.now.form in
    let given = given_by form in
    let file = c.args.planning.now.file.now in
    let catalog = c.args.planning.now.catalog.now in
    let Then : List SourceSpec → List Operator → List ℕ → Type 0 = λ sources ops. ViewsMayRead old ops sources in
    let mid = view c.load_catalog.new.files in
    reads_catalog given Then old file catalog mid c.in_err-catalog.ensures.others

pub returns-in_err-plan-clause-reads : goal.returns-in_err-plan-clause-reads
returns-in_err-plan-clause-reads g c =
    let view = g.F.Files.view in
    let old = view c.args.files.now in
    let form = c.args.planning.now.form in
    let given = given_by form in
    let file = c.args.planning.now.file.now in
    let catalog = c.args.planning.now.catalog.now in
    let Then : List SourceSpec → List Operator → List ℕ → Type 0 = λ sources ops. ViewsMayRead old ops sources in
    let mid = view c.load_catalog.new.files in
    let sources = c.in_ok-catalog.catalog in
    let one = reads_catalog given Then old file catalog mid c.in_ok-catalog.ensures.others in
    let late = view c.load_given.new.files in
    reads_view given Then old file catalog sources c.in_ok-catalog.ensures.ok mid late one c.in_err-plan.ensures.others

pub returns-in_err-load_views-clause-reads : goal.returns-in_err-load_views-clause-reads
returns-in_err-load_views-clause-reads g c =
    let view = g.F.Files.view in
    let old = view c.args.files.now in
    let form = c.args.planning.now.form in
    let given = given_by form in
    let file = c.args.planning.now.file.now in
    let catalog = c.args.planning.now.catalog.now in
    let Then : List SourceSpec → List Operator → List ℕ → Type 0 = λ sources ops. ViewsMayRead old ops sources in
    let mid = view c.load_catalog.new.files in
    let sources = c.in_ok-catalog.catalog in
    let one = reads_catalog given Then old file catalog mid c.in_ok-catalog.ensures.others in
    let late = view c.load_given.new.files in
    let p = plan_value c.in_ok-plan.plan in
    let two = reads_view given Then old file catalog sources c.in_ok-catalog.ensures.ok mid late one c.in_ok-plan.ensures.others in
    let keeps = keeps_files_twice old mid late c.in_ok-catalog.ensures.keeps c.in_ok-plan.ensures.keeps in
    let gives = given_ops_before form old mid file sources p c.in_ok-catalog.ensures.keeps c.in_ok-plan.ensures.ok in
    let new = view c.load_views.new.files in
    reads_then given Then old file catalog sources c.in_ok-catalog.ensures.ok p.ops gives late new two (ViewsMayRead late p.ops sources) (λ path h. views_may_before old late p.ops sources keeps path h) c.in_err-load_views.ensures.reads

pub returns-in_err-classed_text-clause-reads : goal.returns-in_err-classed_text-clause-reads
returns-in_err-classed_text-clause-reads g c =
    let view = g.F.Files.view in
    let old = view c.args.files.now in
    let form = c.args.planning.now.form in
    let given = given_by form in
    let file = c.args.planning.now.file.now in
    let catalog = c.args.planning.now.catalog.now in
    let Then : List SourceSpec → List Operator → List ℕ → Type 0 = λ sources ops. ViewsMayRead old ops sources in
    let mid = view c.load_catalog.new.files in
    let sources = c.in_ok-catalog.catalog in
    let one = reads_catalog given Then old file catalog mid c.in_ok-catalog.ensures.others in
    let late = view c.load_given.new.files in
    let p = plan_value c.in_ok-plan.plan in
    let two = reads_view given Then old file catalog sources c.in_ok-catalog.ensures.ok mid late one c.in_ok-plan.ensures.others in
    let keeps = keeps_files_twice old mid late c.in_ok-catalog.ensures.keeps c.in_ok-plan.ensures.keeps in
    let gives = given_ops_before form old mid file sources p c.in_ok-catalog.ensures.keeps c.in_ok-plan.ensures.ok in
    let new = view c.load_views.new.files in
    reads_then given Then old file catalog sources c.in_ok-catalog.ensures.ok p.ops gives late new two (ViewsMayRead late p.ops sources) (λ path h. views_may_before old late p.ops sources keeps path h) c.in_ok-load_views.ensures.reads

pub returns-clause-reads : goal.returns-clause-reads
returns-clause-reads g c =
    let view = g.F.Files.view in
    let old = view c.args.files.now in
    let form = c.args.planning.now.form in
    let given = given_by form in
    let file = c.args.planning.now.file.now in
    let catalog = c.args.planning.now.catalog.now in
    let Then : List SourceSpec → List Operator → List ℕ → Type 0 = λ sources ops. ViewsMayRead old ops sources in
    let mid = view c.load_catalog.new.files in
    let sources = c.in_ok-catalog.catalog in
    let one = reads_catalog given Then old file catalog mid c.in_ok-catalog.ensures.others in
    let late = view c.load_given.new.files in
    let p = plan_value c.in_ok-plan.plan in
    let two = reads_view given Then old file catalog sources c.in_ok-catalog.ensures.ok mid late one c.in_ok-plan.ensures.others in
    let keeps = keeps_files_twice old mid late c.in_ok-catalog.ensures.keeps c.in_ok-plan.ensures.keeps in
    let gives = given_ops_before form old mid file sources p c.in_ok-catalog.ensures.keeps c.in_ok-plan.ensures.ok in
    let new = view c.load_views.new.files in
    reads_then given Then old file catalog sources c.in_ok-catalog.ensures.ok p.ops gives late new two (ViewsMayRead late p.ops sources) (λ path h. views_may_before old late p.ops sources keeps path h) c.in_ok-load_views.ensures.reads

pub returns-clause-ok : goal.returns-clause-ok
returns-clause-ok g c =
    let view = g.F.Files.view in
    let old = view c.args.files.now in
    let form = c.args.planning.now.form in
    let given = given_by form in
    let file = c.args.planning.now.file.now in
    let catalog = c.args.planning.now.catalog.now in
    let Then : List SourceSpec → List Operator → List ℕ → Type 0 = λ sources ops. ViewsMayRead old ops sources in
    let mid = view c.load_catalog.new.files in
    let sources = c.in_ok-catalog.catalog in
    let one = reads_catalog given Then old file catalog mid c.in_ok-catalog.ensures.others in
    let late = view c.load_given.new.files in
    let p = plan_value c.in_ok-plan.plan in
    let two = reads_view given Then old file catalog sources c.in_ok-catalog.ensures.ok mid late one c.in_ok-plan.ensures.others in
    let keeps = keeps_files_twice old mid late c.in_ok-catalog.ensures.keeps c.in_ok-plan.ensures.keeps in
    let gives = given_ops_before form old mid file sources p c.in_ok-catalog.ensures.keeps c.in_ok-plan.ensures.ok in
    let new = view c.load_views.new.files in
    record {
      sources = sources;
      catalog_is = c.in_ok-catalog.ensures.ok;
      plan = p;
      plan_is = given_plan_before form old mid file sources p c.in_ok-catalog.ensures.keeps c.in_ok-plan.ensures.ok;
      lower = lower_of c.in_ok-load_views.field-0.items;
      views = (lower_all_before old late p.ops sources _ _ keeps c.in_ok-load_views.ensures.ok.0, c.in_ok-load_views.ensures.ok.1);
      lines_are = c.in_ok-classed_text.ensures;
    }
