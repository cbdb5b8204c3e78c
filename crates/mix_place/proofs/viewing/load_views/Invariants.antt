use Rattle.std.proofs.Common.{◌≡◌, ◌≤◌, length}
use Rattle.plan_core.specs.PlanMade.{plan_value}
use Rattle.mix_catalog.specs.Sources.{base_of}
use Rattle.mix_place.specs.Placed.{AreLower, IsViewFileBefore, ViewsMayRead, view_number}
use Rattle.mix_place.specs.Reading.{ReadsAmong}
use Rattle.mix_place.specs.Views.{lower_of}
use Rattle.mix_place.proofs.MountLaws.{IsSteady}
use Rattle.mix_place.proofs.viewing.load_views.Given as goal

abbrev pub invariant-loop-n : goal.invariant-loop-n
invariant-loop-n g l =
    let view = g.F.Files.view in
    let ops = (plan_value l.plan).ops in
    record {
      steady : IsSteady (view l.initial.files) (view l.files);
      number : l.n ≡ view_number l.catalog (length l.views.items);
      within : l.n ≤ length l.catalog;
      lower : AreLower (view l.initial.files) ops l.catalog (length l.views.items) (lower_of l.views.items);
      may : ReadsAmong (ViewsMayRead (view l.initial.files) ops l.catalog) (view l.initial.files) (view l.files);
      reads : ReadsAmong (IsViewFileBefore ops l.catalog (length l.views.items)) (view l.initial.files) (view l.files);
    }
