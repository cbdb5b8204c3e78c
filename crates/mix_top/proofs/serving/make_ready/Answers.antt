use Rattle.std.proofs.lemmas.Result.{err_from_is_err_and}
use Rattle.mix_io.proofs.Keeps.{keeps_files_twice}
use Rattle.mix_place.specs.Chosen.{every}
use Rattle.mix_place.proofs.MountLaws.{is_steady}
use Rattle.mix_place.proofs.Earlier.{mounts_before}
use Rattle.mix_top.proofs.Served.{catalog_read, catalog_stops, sources_read, sources_stop}
use Rattle.mix_top.proofs.serving.make_ready.Goals as goal

pub returns-in_err-sources-clause-reads : goal.returns-in_err-sources-clause-reads
returns-in_err-sources-clause-reads g c =
    let view = g.F.Files.view in
    catalog_read (view c.args.files.now) (view c.load_base.new.files) c.args.catalog.now c.in_err-sources.ensures.others

pub returns-in_err-sources-clause-err : goal.returns-in_err-sources-clause-err
returns-in_err-sources-clause-err g c =
    let view = g.F.Files.view in
    let p = err_from_is_err_and c.from_residual.result c.from_residual.ensures.1 in
    rw (p.1, p.2) (catalog_stops (view c.args.files.now) (view c.load_base.new.files) c.args.catalog.now _ c.in_err-sources.ensures.others c.in_err-sources.ensures.err)

pub returns-in_err-docs-clause-keeps : goal.returns-in_err-docs-clause-keeps
returns-in_err-docs-clause-keeps g c =
    let view = g.F.Files.view in
    keeps_files_twice (view c.args.files.now) (view c.load_base.new.files) (view c.mount_all.new.files) c.in_ok-sources.ensures.keeps c.in_err-docs.ensures.keeps

pub returns-in_err-docs-clause-reads : goal.returns-in_err-docs-clause-reads
returns-in_err-docs-clause-reads g c =
    let view = g.F.Files.view in
    sources_read (view c.args.files.now) (view c.load_base.new.files) (view c.mount_all.new.files) c.args.catalog.now c.in_ok-sources.sources c.in_ok-sources.ensures.ok c.in_ok-sources.ensures.keeps
    c.in_ok-sources.ensures.others c.in_err-docs.ensures.reads

pub returns-in_err-docs-clause-err : goal.returns-in_err-docs-clause-err
returns-in_err-docs-clause-err g c =
    let view = g.F.Files.view in
    let old = view c.args.files.now in
    let mid = view c.load_base.new.files in
    let p = err_from_is_err_and c.from_residual-in_err-docs.result c.from_residual-in_err-docs.ensures.1 in
    rw (p.1, p.2) (sources_stop old mid (view c.mount_all.new.files) c.args.catalog.now c.in_ok-sources.sources _ (is_steady old mid c.in_ok-sources.ensures.keeps c.in_ok-sources.ensures.steady)
    c.in_ok-sources.ensures.ok c.in_ok-sources.ensures.others c.in_err-docs.ensures.err)

pub returns-clause-reads : goal.returns-clause-reads
returns-clause-reads g c =
    let view = g.F.Files.view in
    sources_read (view c.args.files.now) (view c.load_base.new.files) (view c.mount_all.new.files) c.args.catalog.now c.in_ok-sources.sources c.in_ok-sources.ensures.ok c.in_ok-sources.ensures.keeps
    c.in_ok-sources.ensures.others c.in_ok-docs.ensures.reads

pub returns-clause-ok : goal.returns-clause-ok
returns-clause-ok g c =
    let view = g.F.Files.view in (
      c.in_ok-sources.sources,
      c.in_ok-sources.ensures.ok,
      mounts_before (view c.args.files.now) (view c.load_base.new.files) every c.in_ok-sources.sources c.in_ok-docs.docs.items c.in_ok-sources.ensures.keeps c.in_ok-docs.ensures.ok,
      c.in_ok-sites.ensures,
    )

pub returns-in_err-sites-clause-reads : goal.returns-in_err-sites-clause-reads
returns-in_err-sites-clause-reads g c =
    let view = g.F.Files.view in
    sources_read (view c.args.files.now) (view c.load_base.new.files) (view c.mount_all.new.files) c.args.catalog.now c.in_ok-sources.sources c.in_ok-sources.ensures.ok c.in_ok-sources.ensures.keeps
    c.in_ok-sources.ensures.others c.in_ok-docs.ensures.reads
