use Rattle.std.proofs.Common.{◌≡◌, ◌∙◌}
use Rattle.std.proofs.lemmas.Result.{err_from_is_err_and}
use Rattle.plan_core.specs.PlanMade.{plan_value}
use Rattle.mix_io.proofs.Keeps.{keeps_files_twice}
use Rattle.mix_run.specs.Runs.{IsScriptRefused}
use Rattle.mix_run.specs.Running.{given_by}
use Rattle.mix_place.proofs.MountLaws.{is_steady, steady_twice}
use Rattle.mix_run.proofs.FilesRead.{run_reads_catalog, run_reads_file, run_reads_script, run_reads_sources}
use Rattle.mix_place.specs.Reading.{IsEither}
use Rattle.mix_place.proofs.ReadingLaws.{reads_more}
use Rattle.mix_run.proofs.Finishing.{answerable_by}
use Rattle.mix_run.proofs.Readiness.{given_before, given_ops_before, file_unready, no_script_of, script_of, script_unready, sources_unready}
use Rattle.mix_place.proofs.PlaceLaws.{place_before}
use Rattle.mix_run.proofs.running.make_ready.Goals as goal

pub returns-in_err-plan-clause-err : goal.returns-in_err-plan-clause-err
returns-in_err-plan-clause-err g c =
    let view = g.F.Files.view in
    let p = err_from_is_err_and c.from_residual-in_err-plan.result c.from_residual-in_err-plan.ensures.1 in
    rw (p.1, p.2) (file_unready (given_by c.args.running.now.form) (IsScriptRefused (given_by c.args.running.now.form).forms (IsEither c.args.running.now.catalog.now c.args.running.now.file.now) (view c.args.files.now) (view c.load_given.new.files) c.args.running.now.script.now) (view c.args.files.now) (view c.load_catalog.new.files) (view c.load_given.new.files)
    c.args.running.now.file.now c.args.running.now.catalog.now c.in_ok-catalog.catalog _
    (is_steady (view c.args.files.now) (view c.load_catalog.new.files) c.in_ok-catalog.ensures.keeps c.in_ok-catalog.ensures.steady) c.in_ok-catalog.ensures.ok c.in_ok-catalog.ensures.others c.in_err-plan.ensures.err c.in_err-plan.ensures.others)

pub returns-in_err-steps-clause-err : goal.returns-in_err-steps-clause-err
returns-in_err-steps-clause-err g c =
    let view = g.F.Files.view in
    let p = err_from_is_err_and c.from_residual-in_err-steps.result c.from_residual-in_err-steps.ensures.1 in
    let one = is_steady (view c.args.files.now) (view c.load_catalog.new.files) c.in_ok-catalog.ensures.keeps c.in_ok-catalog.ensures.steady in
    let two = steady_twice (view c.args.files.now) (view c.load_catalog.new.files) (view c.load_given.new.files) one (is_steady (view c.load_catalog.new.files) (view c.load_given.new.files) c.in_ok-plan.ensures.keeps c.in_ok-plan.ensures.steady) in
    rw (p.1, p.2) (script_unready (given_by c.args.running.now.form) (view c.args.files.now) (view c.load_given.new.files) (view c.load_script.new.files) c.args.running.now.file.now c.args.running.now.catalog.now c.args.running.now.script.now c.in_ok-catalog.catalog
    (plan_value c.in_ok-plan.plan).ops _ two c.in_ok-catalog.ensures.ok
    (given_ops_before c.args.running.now.form (view c.args.files.now) (view c.load_catalog.new.files) c.args.running.now.file.now c.in_ok-catalog.catalog (plan_value c.in_ok-plan.plan) one.keeps c.in_ok-plan.ensures.ok)
    (reads_more (λ p. p ≡ c.args.running.now.catalog.now) (λ p. p ≡ c.args.running.now.file.now) (view c.args.files.now) (view c.load_catalog.new.files) (view c.load_given.new.files) c.in_ok-catalog.ensures.others c.in_ok-plan.ensures.others)
    (no_script_of c.args.running.now.form c.forms_of.result c.forms_of.ensures (view c.load_given.new.files) (view c.load_script.new.files) c.args.running.now.script.now _ c.in_err-steps.ensures.err) c.in_err-steps.ensures.others)

pub returns-in_err-placement-clause-keeps : goal.returns-in_err-placement-clause-keeps
returns-in_err-placement-clause-keeps g c =
    let view = g.F.Files.view in
    let one = is_steady (view c.args.files.now) (view c.load_catalog.new.files) c.in_ok-catalog.ensures.keeps c.in_ok-catalog.ensures.steady in
    let two = steady_twice (view c.args.files.now) (view c.load_catalog.new.files) (view c.load_given.new.files) one (is_steady (view c.load_catalog.new.files) (view c.load_given.new.files) c.in_ok-plan.ensures.keeps c.in_ok-plan.ensures.steady) in
    let three = steady_twice (view c.args.files.now) (view c.load_given.new.files) (view c.load_script.new.files) two (is_steady (view c.load_given.new.files) (view c.load_script.new.files) c.in_ok-steps.ensures.keeps c.in_ok-steps.ensures.steady) in
    keeps_files_twice (view c.args.files.now) (view c.load_script.new.files) (view c.place_sources.new.files) three.keeps c.in_err-placement.ensures.keeps

pub returns-in_err-placement-clause-err : goal.returns-in_err-placement-clause-err
returns-in_err-placement-clause-err g c =
    let view = g.F.Files.view in
    let p = err_from_is_err_and c.from_residual-in_err-placement.result c.from_residual-in_err-placement.ensures.1 in
    let one = is_steady (view c.args.files.now) (view c.load_catalog.new.files) c.in_ok-catalog.ensures.keeps c.in_ok-catalog.ensures.steady in
    let two = steady_twice (view c.args.files.now) (view c.load_catalog.new.files) (view c.load_given.new.files) one (is_steady (view c.load_catalog.new.files) (view c.load_given.new.files) c.in_ok-plan.ensures.keeps c.in_ok-plan.ensures.steady) in
    let three = steady_twice (view c.args.files.now) (view c.load_given.new.files) (view c.load_script.new.files) two (is_steady (view c.load_given.new.files) (view c.load_script.new.files) c.in_ok-steps.ensures.keeps c.in_ok-steps.ensures.steady) in
    rw (p.1, p.2) (sources_unready (given_by c.args.running.now.form) (view c.args.files.now) (view c.load_script.new.files) (view c.place_sources.new.files) c.args.running.now.file.now c.args.running.now.catalog.now c.args.running.now.script.now c.in_ok-catalog.catalog
    (plan_value c.in_ok-plan.plan).ops _ three c.in_ok-catalog.ensures.ok
    (given_ops_before c.args.running.now.form (view c.args.files.now) (view c.load_catalog.new.files) c.args.running.now.file.now c.in_ok-catalog.catalog (plan_value c.in_ok-plan.plan) one.keeps c.in_ok-plan.ensures.ok)
    c.in_ok-steps.steps.items (script_of c.args.running.now.form c.forms_of.result c.forms_of.ensures (view c.args.files.now) (view c.load_given.new.files) c.args.running.now.script.now c.in_ok-steps.steps.items two.keeps c.in_ok-steps.ensures.ok)
    (reads_more (IsEither c.args.running.now.catalog.now c.args.running.now.file.now) (λ p. p ≡ c.args.running.now.script.now) (view c.args.files.now) (view c.load_given.new.files) (view c.load_script.new.files)
    (reads_more (λ p. p ≡ c.args.running.now.catalog.now) (λ p. p ≡ c.args.running.now.file.now) (view c.args.files.now) (view c.load_catalog.new.files) (view c.load_given.new.files) c.in_ok-catalog.ensures.others c.in_ok-plan.ensures.others)
    c.in_ok-steps.ensures.others) c.in_err-placement.ensures.err)

pub returns-clause-ok : goal.returns-clause-ok
returns-clause-ok g c =
    let view = g.F.Files.view in
    let one = is_steady (view c.args.files.now) (view c.load_catalog.new.files) c.in_ok-catalog.ensures.keeps c.in_ok-catalog.ensures.steady in
    let two = steady_twice (view c.args.files.now) (view c.load_catalog.new.files) (view c.load_given.new.files) one (is_steady (view c.load_catalog.new.files) (view c.load_given.new.files) c.in_ok-plan.ensures.keeps c.in_ok-plan.ensures.steady) in
    let three = steady_twice (view c.args.files.now) (view c.load_given.new.files) (view c.load_script.new.files) two (is_steady (view c.load_given.new.files) (view c.load_script.new.files) c.in_ok-steps.ensures.keeps c.in_ok-steps.ensures.steady) in
    record {
      catalog_is = c.in_ok-catalog.ensures.ok;
      plan_is = given_before c.args.running.now.form (view c.args.files.now) (view c.load_catalog.new.files) c.args.running.now.file.now c.in_ok-catalog.catalog (plan_value c.in_ok-plan.plan) one.keeps c.in_ok-plan.ensures.ok;
      script_is = script_of c.args.running.now.form c.forms_of.result c.forms_of.ensures (view c.args.files.now) (view c.load_given.new.files) c.args.running.now.script.now c.in_ok-steps.steps.items two.keeps c.in_ok-steps.ensures.ok;
      placed_are = place_before (view c.args.files.now) (view c.load_script.new.files) (plan_value c.in_ok-plan.plan).ops c.in_ok-catalog.catalog _ three.keeps c.in_ok-placement.ensures.ok;
      few = c.in_ok-catalog.ensures.few;
      over = c.in_ok-plan.ensures.over;
      answerable = answerable_by (given_by c.args.running.now.form).forms (plan_value c.in_ok-plan.plan).ops c.in_ok-steps.steps.items c.in_ok-plan.ensures.uses
          (λ plain. c.in_ok-steps.ensures.plain (c.forms_of.ensures ∙ plain));
    }

pub returns-in_err-catalog-clause-reads : goal.returns-in_err-catalog-clause-reads
returns-in_err-catalog-clause-reads g c =
    let view = g.F.Files.view in
    let old = view c.args.files.now in
    run_reads_catalog (given_by c.args.running.now.form) old c.args.running.now.file.now c.args.running.now.catalog.now c.args.running.now.script.now (view c.load_catalog.new.files) c.in_err-catalog.ensures.others

pub returns-in_err-plan-clause-reads : goal.returns-in_err-plan-clause-reads
returns-in_err-plan-clause-reads g c =
    let view = g.F.Files.view in
    let old = view c.args.files.now in
    let one = run_reads_catalog (given_by c.args.running.now.form) old c.args.running.now.file.now c.args.running.now.catalog.now c.args.running.now.script.now (view c.load_catalog.new.files) c.in_ok-catalog.ensures.others in
    run_reads_file (given_by c.args.running.now.form) old c.args.running.now.file.now c.args.running.now.catalog.now c.args.running.now.script.now c.in_ok-catalog.catalog c.in_ok-catalog.ensures.ok (view c.load_catalog.new.files) (view c.load_given.new.files) one c.in_err-plan.ensures.others

pub returns-in_err-steps-clause-reads : goal.returns-in_err-steps-clause-reads
returns-in_err-steps-clause-reads g c =
    let view = g.F.Files.view in
    let old = view c.args.files.now in
    let one = run_reads_catalog (given_by c.args.running.now.form) old c.args.running.now.file.now c.args.running.now.catalog.now c.args.running.now.script.now (view c.load_catalog.new.files) c.in_ok-catalog.ensures.others in
    let gives = given_ops_before c.args.running.now.form old (view c.load_catalog.new.files) c.args.running.now.file.now c.in_ok-catalog.catalog (plan_value c.in_ok-plan.plan) c.in_ok-catalog.ensures.keeps c.in_ok-plan.ensures.ok in
    let two = run_reads_file (given_by c.args.running.now.form) old c.args.running.now.file.now c.args.running.now.catalog.now c.args.running.now.script.now c.in_ok-catalog.catalog c.in_ok-catalog.ensures.ok (view c.load_catalog.new.files) (view c.load_given.new.files) one c.in_ok-plan.ensures.others in
    run_reads_script (given_by c.args.running.now.form) old c.args.running.now.file.now c.args.running.now.catalog.now c.args.running.now.script.now c.in_ok-catalog.catalog c.in_ok-catalog.ensures.ok (plan_value c.in_ok-plan.plan).ops gives
    (view c.load_given.new.files) (view c.load_script.new.files) two c.in_err-steps.ensures.others

pub returns-in_err-placement-clause-reads : goal.returns-in_err-placement-clause-reads
returns-in_err-placement-clause-reads g c =
    let view = g.F.Files.view in
    let old = view c.args.files.now in
    let one = run_reads_catalog (given_by c.args.running.now.form) old c.args.running.now.file.now c.args.running.now.catalog.now c.args.running.now.script.now (view c.load_catalog.new.files) c.in_ok-catalog.ensures.others in
    let gives = given_ops_before c.args.running.now.form old (view c.load_catalog.new.files) c.args.running.now.file.now c.in_ok-catalog.catalog (plan_value c.in_ok-plan.plan) c.in_ok-catalog.ensures.keeps c.in_ok-plan.ensures.ok in
    let keeps = keeps_files_twice old (view c.load_catalog.new.files) (view c.load_given.new.files) c.in_ok-catalog.ensures.keeps c.in_ok-plan.ensures.keeps in
    let two = run_reads_file (given_by c.args.running.now.form) old c.args.running.now.file.now c.args.running.now.catalog.now c.args.running.now.script.now c.in_ok-catalog.catalog c.in_ok-catalog.ensures.ok (view c.load_catalog.new.files) (view c.load_given.new.files) one c.in_ok-plan.ensures.others in
    let three = run_reads_script (given_by c.args.running.now.form) old c.args.running.now.file.now c.args.running.now.catalog.now c.args.running.now.script.now c.in_ok-catalog.catalog c.in_ok-catalog.ensures.ok (plan_value c.in_ok-plan.plan).ops gives
    (view c.load_given.new.files) (view c.load_script.new.files) two c.in_ok-steps.ensures.others in
    run_reads_sources (given_by c.args.running.now.form) old c.args.running.now.file.now c.args.running.now.catalog.now c.args.running.now.script.now c.in_ok-catalog.catalog c.in_ok-catalog.ensures.ok (plan_value c.in_ok-plan.plan).ops gives
    (view c.load_script.new.files) (view c.place_sources.new.files) c.in_ok-steps.steps.items (script_of c.args.running.now.form c.forms_of.result c.forms_of.ensures old (view c.load_given.new.files) c.args.running.now.script.now c.in_ok-steps.steps.items keeps c.in_ok-steps.ensures.ok)
    (keeps_files_twice old (view c.load_given.new.files) (view c.load_script.new.files) keeps c.in_ok-steps.ensures.keeps) three c.in_err-placement.ensures.reads

pub returns-clause-reads : goal.returns-clause-reads
returns-clause-reads g c =
    let view = g.F.Files.view in
    let old = view c.args.files.now in
    let one = run_reads_catalog (given_by c.args.running.now.form) old c.args.running.now.file.now c.args.running.now.catalog.now c.args.running.now.script.now (view c.load_catalog.new.files) c.in_ok-catalog.ensures.others in
    let gives = given_ops_before c.args.running.now.form old (view c.load_catalog.new.files) c.args.running.now.file.now c.in_ok-catalog.catalog (plan_value c.in_ok-plan.plan) c.in_ok-catalog.ensures.keeps c.in_ok-plan.ensures.ok in
    let keeps = keeps_files_twice old (view c.load_catalog.new.files) (view c.load_given.new.files) c.in_ok-catalog.ensures.keeps c.in_ok-plan.ensures.keeps in
    let two = run_reads_file (given_by c.args.running.now.form) old c.args.running.now.file.now c.args.running.now.catalog.now c.args.running.now.script.now c.in_ok-catalog.catalog c.in_ok-catalog.ensures.ok (view c.load_catalog.new.files) (view c.load_given.new.files) one c.in_ok-plan.ensures.others in
    let three = run_reads_script (given_by c.args.running.now.form) old c.args.running.now.file.now c.args.running.now.catalog.now c.args.running.now.script.now c.in_ok-catalog.catalog c.in_ok-catalog.ensures.ok (plan_value c.in_ok-plan.plan).ops gives
    (view c.load_given.new.files) (view c.load_script.new.files) two c.in_ok-steps.ensures.others in
    run_reads_sources (given_by c.args.running.now.form) old c.args.running.now.file.now c.args.running.now.catalog.now c.args.running.now.script.now c.in_ok-catalog.catalog c.in_ok-catalog.ensures.ok (plan_value c.in_ok-plan.plan).ops gives
    (view c.load_script.new.files) (view c.place_sources.new.files) c.in_ok-steps.steps.items (script_of c.args.running.now.form c.forms_of.result c.forms_of.ensures old (view c.load_given.new.files) c.args.running.now.script.now c.in_ok-steps.steps.items keeps c.in_ok-steps.ensures.ok)
    (keeps_files_twice old (view c.load_given.new.files) (view c.load_script.new.files) keeps c.in_ok-steps.ensures.keeps) three c.in_ok-placement.ensures.reads

pub place_sources-requires : goal.place_sources-requires
place_sources-requires g c = (c.in_ok-catalog.ensures.ok.text, c.in_ok-catalog.ensures.ok.accepted)
