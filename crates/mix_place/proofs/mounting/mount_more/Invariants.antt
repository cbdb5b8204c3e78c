use Rattle.mix_place.specs.Added.{added_by}
use Rattle.mix_place.specs.Reading.{IsFileBefore, ReadsAmong}
use Rattle.mix_place.proofs.MountLaws.{IsSteady}
use Rattle.mix_place.proofs.Needs.{AreBesideTo}
use Rattle.mix_place.proofs.mounting.mount_more.Given as goal

abbrev pub invariant-loop-s : goal.invariant-loop-s
invariant-loop-s g l =
    let view = g.F.Files.view in
    record {
      steady : IsSteady (view l.initial.files) (view l.files);
      reads : ReadsAmong (IsFileBefore (added_by l.added) l.base l.s) (view l.initial.files) (view l.files);
      beside : AreBesideTo (view l.initial.files) (added_by l.added) l.base l.s l.initial.docs.items l.docs.items;
    }
