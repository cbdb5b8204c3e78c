-- Visits below nodes whose trees are laid out so.
use Rattle.mix_tree.specs.Forest.{first_kids}
use Rattle.mix_tree.specs.Place.{trees_at, child_place}
use Rattle.path_auto.specs.Automaton.{machine_of, table_of}
use Rattle.browse_visit.specs.Laid.{VisitsAreAsLaid}
use Rattle.browse_visit.specs.Samples.{sample_labels}
use Rattle.browse_visit.proofs.SampleLaws.{are_samples}
use Rattle.browse_visit.proofs.VisitFits.{below_fits}
use Rattle.browse_visit.proofs.VisitKinds.{below_kinds}

-- visits below nodes with one of some layouts are as their profile says, and the trees below their bindings have the layouts that were found
pub visits_are_as_laid : VisitsAreAsLaid
visits_are_as_laid path gs whole start h = record {
  fits = below_fits (machine_of (table_of path)) (sample_labels (table_of path).labels) (are_samples (table_of path)) gs (child_place start) (first_kids (trees_at whole start)) h;
  kinds = below_kinds (machine_of (table_of path)) (sample_labels (table_of path).labels) (are_samples (table_of path)) whole gs start h;
}
