use Rattle.plan_core.specs.PlanMade.{plan_value}
use Rattle.view_class.specs.Reads.{reads_source}
use Rattle.mix_place.proofs.MountLaws.{IsSteady, AreMountedTo}
use Rattle.mix_place.specs.Reading.{IsFileBefore, ReadsAmong}
use Rattle.mix_place.proofs.mounting.mount_sources.Given as goal

abbrev pub invariant-loop-s : goal.invariant-loop-s
invariant-loop-s g l =
    let view = g.F.Files.view in
    record {
      steady : IsSteady (view l.initial.files) (view l.files);
      reads : ReadsAmong (IsFileBefore (reads_source (plan_value l.plan).ops) l.catalog l.s) (view l.initial.files) (view l.files);
      mounted : AreMountedTo (view l.initial.files) (reads_source (plan_value l.plan).ops) l.catalog l.s l.docs.items;
    }
