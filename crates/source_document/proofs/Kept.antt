-- Fills over tables that keep what every call keeps.
use Rattle.std.proofs.Common.{◌∙◌, ap}
use Rattle.mix_tree.specs.Forest.{Forest}
use Rattle.lxp_core.specs.declared.open_tree.HoleId.{HoleId}
use Rattle.lxp_core.specs.Fill.{Answers}
use Rattle.lxp_core.specs.Open.{Open, closed}
use Rattle.table_keep.specs.Views.{TablesView, KeepsTables}
use Rattle.source_document.specs.Meaning.{IsKept, Meaning, over}

-- what answers a fill over tables answers it over what these become
pub answers_kept : (m : Meaning) (old new : TablesView) (h : HoleId) (o : Open) → IsKept m → KeepsTables old new → Answers (over m old) (over m old) h o → Answers (over m old) (over m new) h o
answers_kept m old new h o kept k a = record {
  closes = λ told. ap (λ (f : HoleId → Forest). closed f o) (kept.forest old new k) ∙ a.closes told;
  progress = a.progress;
  known = a.known;
  lighter = a.lighter;
  forward = a.forward;
  small = a.small;
}
