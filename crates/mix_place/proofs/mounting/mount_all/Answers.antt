use Rattle.std.proofs.Common.{◌≡◌, ◌+◌, List, subst, sym, arith, length}
use Rattle.std.proofs.lemmas.Result.{err_from_is_err_and}
use Rattle.mix_mount.specs.declared.mount.Mount.{Mount}
use Rattle.mix_place.specs.Chosen.{every}
use Rattle.mix_place.proofs.Chunks.{mountable}
use Rattle.mix_place.proofs.MountLaws.{AreMountedTo, steady_twice, mounted_more, all_mounted, mount_stops, spec_mounted, spec_stops}
use Rattle.mix_place.proofs.ChosenLaws.{mounted_reads, source_reads, whole_reads}
use Rattle.mix_place.proofs.ReadingLaws.{reads_sources}
use Rattle.mix_place.proofs.mounting.mount_all.Goals as goal

pub mount_spec-requires-clause-chunk : goal.mount_spec-requires-clause-chunk
mount_spec-requires-clause-chunk g c = (mountable c.args.catalog.now c.loop-s.s c.spec.result.now c.requires c.spec.ensures.spec).0

pub mount_spec-requires-clause-other : goal.mount_spec-requires-clause-other
mount_spec-requires-clause-other g c = (mountable c.args.catalog.now c.loop-s.s c.spec.result.now c.requires c.spec.ensures.spec).1

pub returns-in_err-mount_spec-clause-err : goal.returns-in_err-mount_spec-clause-err
returns-in_err-mount_spec-clause-err g c =
    let view = g.F.Files.view in
    let p = err_from_is_err_and c.from_residual.result c.from_residual.ensures.1 in
    rw (p.1, p.2) (mount_stops (view c.args.files.now) (view c.loop-s.files) (view c.mount_spec.new.files) every c.args.catalog.now c.loop-s.s c.loop-s.docs.items c.spec.result.now _
    c.loop-s.invariant.steady c.loop-s.invariant.mounted c.spec.ensures.spec c.loop-s.invariant.reads (spec_stops (view c.loop-s.files) (view c.mount_spec.new.files) c.loop-s.s c.spec.result.now _ c.in_err-mount_spec.ensures.err)
    (whole_reads (view c.loop-s.files) (view c.mount_spec.new.files) c.loop-s.s c.spec.result.now c.in_err-mount_spec.ensures.reads))

pub loop-s-preserved : goal.loop-s-preserved
loop-s-preserved g c =
    let view = g.F.Files.view in
    record {
      steady = steady_twice (view c.args.files.now) (view c.loop-s.files) (view c.mount_spec.new.files) c.loop-s.invariant.steady
          (record { keeps = c.in_ok-mount_spec.ensures.keeps; faults = c.in_ok-mount_spec.ensures.steady });
      reads = reads_sources every c.args.catalog.now c.loop-s.s c.spec.result.now (view c.args.files.now) (view c.loop-s.files) (view c.mount_spec.new.files)
          c.spec.ensures.spec c.loop-s.invariant.reads (whole_reads (view c.loop-s.files) (view c.mount_spec.new.files) c.loop-s.s c.spec.result.now c.in_ok-mount_spec.ensures.reads);
      mounted = subst (λ (docs : List Mount). AreMountedTo (view c.args.files.now) every c.args.catalog.now (c.loop-s.s + 1) docs) (sym c.in_ok-push.ensures.items)
          (mounted_more (view c.args.files.now) (view c.loop-s.files) every c.args.catalog.now c.loop-s.s c.loop-s.docs.items c.spec.result.now c.in_ok-mount_spec.field-0
          c.loop-s.invariant.steady.keeps c.loop-s.invariant.mounted c.spec.ensures.spec (spec_mounted (view c.loop-s.files) c.loop-s.s c.spec.result.now c.in_ok-mount_spec.field-0 c.in_ok-mount_spec.ensures.ok));
    }

pub returns-clause-ok : goal.returns-clause-ok
returns-clause-ok g c =
    let all : c.loop-s.s ≡ length c.args.catalog.now = (let a = c.loop-s-test.false in let e = c.len-s-end.ensures.len in let w = c.loop-s.auto.s-end in omega (arith, a, e, w)) in
    all_mounted (g.F.Files.view c.args.files.now) every c.args.catalog.now c.loop-s.s c.loop-s.docs.items all c.loop-s.invariant.mounted

pub returns-clause-few : goal.returns-clause-few
returns-clause-few g c =
    let count = c.loop-s.invariant.mounted.count in
    let few = c.len-s-end.ensures.few in
    let w = c.loop-s.auto.s-end in
    omega (arith, count, few, w)

pub returns-in_err-mount_spec-clause-reads : goal.returns-in_err-mount_spec-clause-reads
returns-in_err-mount_spec-clause-reads g c =
    let view = g.F.Files.view in
    source_reads (view c.args.files.now) (view c.loop-s.files) (view c.mount_spec.new.files) every c.args.catalog.now c.loop-s.s c.loop-s.docs.items c.spec.result.now
    c.loop-s.invariant.mounted c.spec.ensures.spec c.loop-s.invariant.reads (whole_reads (view c.loop-s.files) (view c.mount_spec.new.files) c.loop-s.s c.spec.result.now c.in_err-mount_spec.ensures.reads)

pub returns-in_err-push-clause-reads : goal.returns-in_err-push-clause-reads
returns-in_err-push-clause-reads g c =
    let view = g.F.Files.view in
    source_reads (view c.args.files.now) (view c.loop-s.files) (view c.mount_spec.new.files) every c.args.catalog.now c.loop-s.s c.loop-s.docs.items c.spec.result.now
    c.loop-s.invariant.mounted c.spec.ensures.spec c.loop-s.invariant.reads (whole_reads (view c.loop-s.files) (view c.mount_spec.new.files) c.loop-s.s c.spec.result.now c.in_ok-mount_spec.ensures.reads)

pub returns-clause-reads : goal.returns-clause-reads
returns-clause-reads g c =
    let view = g.F.Files.view in
    mounted_reads (view c.args.files.now) (view c.loop-s.files) every c.args.catalog.now c.loop-s.s c.loop-s.docs.items c.loop-s.invariant.mounted c.loop-s.invariant.reads
