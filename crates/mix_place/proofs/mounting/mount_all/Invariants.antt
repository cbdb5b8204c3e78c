use Rattle.mix_place.proofs.MountLaws.{IsSteady, AreMountedTo}
use Rattle.mix_place.specs.Chosen.{every}
use Rattle.mix_place.specs.Reading.{IsFileBefore, ReadsAmong}
use Rattle.mix_place.proofs.mounting.mount_all.Given as goal

abbrev pub invariant-loop-s : goal.invariant-loop-s
invariant-loop-s g l =
    let view = g.F.Files.view in
    record {
      steady : IsSteady (view l.initial.files) (view l.files);
      reads : ReadsAmong (IsFileBefore every l.catalog l.s) (view l.initial.files) (view l.files);
      mounted : AreMountedTo (view l.initial.files) every l.catalog l.s l.docs.items;
    }
