use Rattle.std.proofs.Common.{◌≡◌, ◌≤◌, length}
use Rattle.std.specs.List.{AllByRecursion}
use Rattle.plan_core.specs.PlanMade.{plan_value}
use Rattle.mix_catalog.specs.Sources.{base_of}
use Rattle.mix_place.specs.Mounting.{AreChosenMounted}
use Rattle.mix_place.specs.Placed.{AreLower, IsFileUpTo, SourceMayRead, view_number}
use Rattle.mix_place.specs.Reading.{ReadsAmong}
use Rattle.mix_place.specs.Views.{lower_of, needs}
use Rattle.mix_place.proofs.MountLaws.{IsSteady}
use Rattle.mix_place.proofs.ViewLaws.{ArePlacedTo}
use Rattle.mix_place.proofs.placing.place_sources.Given as goal

abbrev pub invariant-loop-n : goal.invariant-loop-n
invariant-loop-n g l =
    let view = g.F.Files.view in
    let ops = (plan_value l.plan).ops in
    record {
      steady : IsSteady (view l.fn.files) (view l.files);
      number : l.n ≡ view_number l.catalog (length l.views.items);
      within : l.n ≤ length l.catalog;
      lower : AreLower (view l.fn.files) ops l.catalog (length l.views.items) (lower_of l.views.items);
      plans : ArePlacedTo (view l.fn.files) l.catalog l.views.items;
      mounted : AreChosenMounted (view l.fn.files) (needs ops (lower_of l.views.items)) (base_of l.catalog) l.docs.items;
      may : ReadsAmong (SourceMayRead (view l.fn.files) ops l.catalog) (view l.fn.files) (view l.files);
      reads : ReadsAmong (IsFileUpTo ops l.catalog (length l.views.items) (lower_of l.views.items)) (view l.fn.files) (view l.files);
    }
