use Rattle.std.proofs.Common.{◌≡◌, ◌+◌, ℕ, List, subst, sym, arith, length}
use Rattle.std.proofs.lemmas.Result.{err_from_is_err_and}
use Rattle.plan_core.specs.PlanMade.{plan_value}
use Rattle.mix_mount.specs.declared.mount.Mount.{Mount}
use Rattle.view_class.specs.Reads.{reads_source}
use Rattle.mix_place.specs.Reading.{IsFileBefore, ReadsAmong}
use Rattle.mix_place.proofs.Chunks.{mountable}
use Rattle.mix_place.proofs.MountLaws.{AreMountedTo, steady_twice, mounted_more, all_mounted, mount_stops}
use Rattle.mix_place.proofs.ChosenLaws.{mounted_reads, source_reads}
use Rattle.mix_place.proofs.ReadingLaws.{reads_sources}
use Rattle.mix_place.proofs.mounting.mount_sources.Goals as goal

pub mount_source-requires-clause-chunk : goal.mount_source-requires-clause-chunk
mount_source-requires-clause-chunk g c = (mountable c.args.catalog.now c.loop-s.s c.spec.result.now c.requires c.spec.ensures.spec).0

pub mount_source-requires-clause-other : goal.mount_source-requires-clause-other
mount_source-requires-clause-other g c = (mountable c.args.catalog.now c.loop-s.s c.spec.result.now c.requires c.spec.ensures.spec).1

pub returns-in_err-mount_source-clause-err : goal.returns-in_err-mount_source-clause-err
returns-in_err-mount_source-clause-err g c =
    let view = g.F.Files.view in
    let p = err_from_is_err_and c.from_residual.result c.from_residual.ensures.1 in
    rw (p.1, p.2) (mount_stops (view c.args.files.now) (view c.loop-s.files) (view c.mount_source.new.files) (reads_source (plan_value c.args.plan.now).ops) c.args.catalog.now c.loop-s.s c.loop-s.docs.items c.spec.result.now _
    c.loop-s.invariant.steady c.loop-s.invariant.mounted c.spec.ensures.spec c.loop-s.invariant.reads c.in_err-mount_source.ensures.err c.in_err-mount_source.ensures.reads)

pub loop-s-preserved : goal.loop-s-preserved
loop-s-preserved g c =
    let view = g.F.Files.view in
    record {
      steady = steady_twice (view c.args.files.now) (view c.loop-s.files) (view c.mount_source.new.files) c.loop-s.invariant.steady
          (record { keeps = c.in_ok-mount_source.ensures.keeps; faults = c.in_ok-mount_source.ensures.steady });
      reads = reads_sources (reads_source (plan_value c.args.plan.now).ops) c.args.catalog.now c.loop-s.s c.spec.result.now (view c.args.files.now) (view c.loop-s.files) (view c.mount_source.new.files)
          c.spec.ensures.spec c.loop-s.invariant.reads c.in_ok-mount_source.ensures.reads;
      mounted = subst (λ (docs : List Mount). AreMountedTo (view c.args.files.now) (reads_source (plan_value c.args.plan.now).ops) c.args.catalog.now (c.loop-s.s + 1) docs) (sym c.in_ok-push.ensures.items)
          (mounted_more (view c.args.files.now) (view c.loop-s.files) (reads_source (plan_value c.args.plan.now).ops) c.args.catalog.now c.loop-s.s c.loop-s.docs.items c.spec.result.now c.in_ok-mount_source.field-0
          c.loop-s.invariant.steady.keeps c.loop-s.invariant.mounted c.spec.ensures.spec c.in_ok-mount_source.ensures.ok);
    }

pub returns-clause-ok : goal.returns-clause-ok
returns-clause-ok g c =
    let all : c.loop-s.s ≡ length c.args.catalog.now = (let a = c.loop-s-test.false in let e = c.len-s-end.ensures.len in let w = c.loop-s.auto.s-end in omega (arith, a, e, w)) in
    all_mounted (g.F.Files.view c.args.files.now) (reads_source (plan_value c.args.plan.now).ops) c.args.catalog.now c.loop-s.s c.loop-s.docs.items all c.loop-s.invariant.mounted

pub returns-clause-read : goal.returns-clause-read
returns-clause-read g c =
    let view = g.F.Files.view in
    let all : c.loop-s.s ≡ length c.args.catalog.now = (let a = c.loop-s-test.false in let e = c.len-s-end.ensures.len in let w = c.loop-s.auto.s-end in omega (arith, a, e, w)) in
    subst (λ (n : ℕ). ReadsAmong (IsFileBefore (reads_source (plan_value c.args.plan.now).ops) c.args.catalog.now n) (view c.args.files.now) (view c.loop-s.files)) all c.loop-s.invariant.reads

pub returns-in_err-mount_source-clause-reads : goal.returns-in_err-mount_source-clause-reads
returns-in_err-mount_source-clause-reads g c =
    let view = g.F.Files.view in
    source_reads (view c.args.files.now) (view c.loop-s.files) (view c.mount_source.new.files) (reads_source (plan_value c.args.plan.now).ops) c.args.catalog.now c.loop-s.s c.loop-s.docs.items c.spec.result.now
    c.loop-s.invariant.mounted c.spec.ensures.spec c.loop-s.invariant.reads c.in_err-mount_source.ensures.reads

pub returns-in_err-push-clause-reads : goal.returns-in_err-push-clause-reads
returns-in_err-push-clause-reads g c =
    let view = g.F.Files.view in
    source_reads (view c.args.files.now) (view c.loop-s.files) (view c.mount_source.new.files) (reads_source (plan_value c.args.plan.now).ops) c.args.catalog.now c.loop-s.s c.loop-s.docs.items c.spec.result.now
    c.loop-s.invariant.mounted c.spec.ensures.spec c.loop-s.invariant.reads c.in_ok-mount_source.ensures.reads

pub returns-clause-reads : goal.returns-clause-reads
returns-clause-reads g c =
    let view = g.F.Files.view in
    mounted_reads (view c.args.files.now) (view c.loop-s.files) (reads_source (plan_value c.args.plan.now).ops) c.args.catalog.now c.loop-s.s c.loop-s.docs.items c.loop-s.invariant.mounted c.loop-s.invariant.reads
