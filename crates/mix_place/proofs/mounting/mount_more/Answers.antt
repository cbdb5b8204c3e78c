use Rattle.std.proofs.Common.{◌≡◌, ◌+◌, ◌<◌, IsTrue, ℕ, Bool, List, Option, refl, subst, sym, arith, length}
use Rattle.std.proofs.lemmas.Result.{err_from_is_err_and}
use Rattle.std.proofs.lemmas.Option.{slice_get_within}
use Rattle.mix_mount.specs.declared.mount.Mount.{Mount}
use Rattle.mix_place.specs.Added.{added_by}
use Rattle.mix_place.specs.Mounting.{IsMountWhere, IsStopWhere}
use Rattle.mix_place.specs.Reading.{IsFileBefore, IsFileFor, IsWholeFile, ReadsAmong}
use Rattle.mix_place.proofs.Chunks.{mountable}
use Rattle.mix_place.proofs.MountLaws.{steady_twice}
use Rattle.mix_place.proofs.Needs.{AreBesideTo, all_beside, beside_more, beside_none}
use Rattle.mix_place.proofs.MoreLaws.{beside_reads, more_reads, more_stops}
use Rattle.mix_place.proofs.ReadingLaws.{reads_sources}
use Rattle.mix_place.proofs.mounting.mount_more.Goals as goal

pub mount_added-requires-clause-chunk : goal.mount_added-requires-clause-chunk
mount_added-requires-clause-chunk g c = (mountable c.args.base.now c.loop-s.s c.spec.result.now c.requires.base c.spec.ensures.spec).0

pub mount_added-requires-clause-other : goal.mount_added-requires-clause-other
mount_added-requires-clause-other g c = (mountable c.args.base.now c.loop-s.s c.spec.result.now c.requires.base c.spec.ensures.spec).1

pub put-requires : goal.put-requires
put-requires g c =
    let w = slice_get_within c.args.base.now c.loop-s.s c.spec.result.now c.spec.ensures.spec in
    let count = c.loop-s.invariant.beside.count in
    let all = c.requires.count in
    omega (arith, w, count, all)

pub returns-in_err-mount-clause-err : goal.returns-in_err-mount-clause-err
returns-in_err-mount-clause-err g c =
    let view = g.F.Files.view in
    let p = err_from_is_err_and c.from_residual.result c.from_residual.ensures.1 in
    rw (p.1, p.2) (more_stops (view c.args.files.now) (view c.loop-s.files) (view c.mount_added.new.files) (added_by c.args.added.now) c.args.base.now c.loop-s.s c.args.docs.now.items c.loop-s.docs.items c.spec.result.now c.is_added.result _
    c.loop-s.invariant.steady c.loop-s.invariant.beside c.spec.ensures.spec c.loop-s.invariant.reads c.is_added.ensures c.in_err-mount.ensures.err c.in_err-mount.ensures.reads)

pub returns-in_err-mount-clause-reads : goal.returns-in_err-mount-clause-reads
returns-in_err-mount-clause-reads g c =
    let view = g.F.Files.view in
    more_reads (view c.args.files.now) (view c.loop-s.files) (view c.mount_added.new.files) (added_by c.args.added.now) c.args.base.now c.loop-s.s c.args.docs.now.items c.loop-s.docs.items c.spec.result.now c.is_added.result
    c.loop-s.invariant.beside c.spec.ensures.spec c.loop-s.invariant.reads c.is_added.ensures c.in_err-mount.ensures.reads

pub loop-s-init : goal.loop-s-init
loop-s-init g c =
    let view = g.F.Files.view in
    record {
      steady = record { keeps = record { told = λ p. refl; furthest = λ p. omega arith; faults = λ p. omega arith }; faults = λ p. refl };
      reads = λ path no. refl;
      beside = beside_none (view c.args.files.now) (added_by c.args.added.now) c.args.base.now c.args.docs.now.items;
    }

pub loop-s-preserved : goal.loop-s-preserved
loop-s-preserved g c =
    let view = g.F.Files.view in
    let chosen = added_by c.args.added.now in
    let w = slice_get_within c.args.base.now c.loop-s.s c.spec.result.now c.spec.ensures.spec in
    let count = c.loop-s.invariant.beside.count in
    let all = c.requires.count in
    let room : c.loop-s.s < length c.loop-s.docs.items = omega (arith, w, count, all) in
    record {
      steady = steady_twice (view c.args.files.now) (view c.loop-s.files) (view c.mount_added.new.files) c.loop-s.invariant.steady
          (record { keeps = c.in_ok-mount.ensures.keeps; faults = c.in_ok-mount.ensures.steady });
      reads = reads_sources chosen c.args.base.now c.loop-s.s c.spec.result.now (view c.args.files.now) (view c.loop-s.files) (view c.mount_added.new.files) c.spec.ensures.spec c.loop-s.invariant.reads
          (subst (λ (b : Bool). ReadsAmong (λ path. IsTrue b × IsWholeFile c.spec.result.now path) (view c.loop-s.files) (view c.mount_added.new.files)) c.is_added.ensures c.in_ok-mount.ensures.reads);
      beside = subst (λ (docs : List Mount). AreBesideTo (view c.args.files.now) chosen c.args.base.now (c.loop-s.s + 1) c.args.docs.now.items docs) (sym c.put.ensures)
          (beside_more (view c.args.files.now) (view c.loop-s.files) chosen c.args.base.now c.loop-s.s c.args.docs.now.items c.loop-s.docs.items c.spec.result.now c.loop-s.invariant.steady.keeps c.loop-s.invariant.beside c.spec.ensures.spec room
          c.in_ok-mount.mount (subst (λ (b : Bool). IsMountWhere (view c.loop-s.files) b c.spec.result.now c.in_ok-mount.mount) c.is_added.ensures c.in_ok-mount.ensures.ok));
    }

pub returns-clause-ok : goal.returns-clause-ok
returns-clause-ok g c =
    let all : c.loop-s.s ≡ length c.args.base.now = (let a = c.loop-s-test.false in let e = c.len-s-end.ensures.len in let w = c.loop-s.auto.s-end in omega (arith, a, e, w)) in
    all_beside (g.F.Files.view c.args.files.now) (added_by c.args.added.now) c.args.base.now c.loop-s.s c.args.docs.now.items c.loop-s.docs.items all c.loop-s.invariant.beside

pub returns-clause-read : goal.returns-clause-read
returns-clause-read g c =
    let view = g.F.Files.view in
    let all : c.loop-s.s ≡ length c.args.base.now = (let a = c.loop-s-test.false in let e = c.len-s-end.ensures.len in let w = c.loop-s.auto.s-end in omega (arith, a, e, w)) in
    subst (λ (n : ℕ). ReadsAmong (IsFileBefore (added_by c.args.added.now) c.args.base.now n) (view c.args.files.now) (view c.loop-s.files)) all c.loop-s.invariant.reads

pub returns-clause-reads : goal.returns-clause-reads
returns-clause-reads g c =
    let view = g.F.Files.view in
    beside_reads (view c.args.files.now) (view c.loop-s.files) (added_by c.args.added.now) c.args.base.now c.loop-s.s c.args.docs.now.items c.loop-s.docs.items c.loop-s.invariant.beside c.loop-s.invariant.reads
