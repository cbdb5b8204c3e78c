-- The lines of the sources so far, and what was read for them.
use Rattle.mix_io.specs.Views.{KeepsFiles}
use Rattle.mix_place.specs.Reading.{IsFileBefore, ReadsAmong}
use Rattle.plan_core.specs.PlanMade.{plan_value}
use Rattle.source_checks.specs.Checks.{SaysSources, moment}
use Rattle.table_keep.specs.Views.{KeepsTables}
use Rattle.view_class.specs.Reads.{reads_source}
use Rattle.source_checks.proofs.sources.check_sources.Given as goal

abbrev pub invariant-loop-s : goal.invariant-loop-s
invariant-loop-s g l =
    let view = g.F.Files.view in
    let table_view = g.T.Tables.view in
    let chosen = reads_source (plan_value l.plan).ops in
    record {
      files : KeepsFiles (view l.initial.files) (view l.files);
      tables : KeepsTables (table_view l.initial.tables) (table_view l.tables);
      reads : ReadsAmong (IsFileBefore chosen l.catalog l.s) (view l.initial.files) (view l.files);
      says : SaysSources chosen l.catalog l.s (moment (view l.initial.files) (table_view l.initial.tables)) (moment (view l.files) (table_view l.tables)) l.lines.items;
    }
