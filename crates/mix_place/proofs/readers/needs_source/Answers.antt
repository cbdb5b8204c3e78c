use Rattle.std.proofs.Common.{◌∙◌, ap, sym, ◌||◌}
use Rattle.plan_core.specs.PlanMade.{plan_value}
use Rattle.view_class.specs.Reads.{reads_source}
use Rattle.std.specs.List.{list_any}
use Rattle.mix_place.specs.Views.{lower_of, reads_lower}
use Rattle.mix_place.proofs.Needs.{any_lower}
use Rattle.mix_place.proofs.readers.needs_source.Goals as goal

pub returns-else-reads_source : goal.returns-else-reads_source
returns-else-reads_source c =
    c.any_reads.ensures ∙ sym (any_lower c.args.s c.args.views.now) ∙ ap (λ b. b || list_any (reads_lower c.args.s) (lower_of c.args.views.now)) (sym (sym c.reads_source.ensures ∙ c.if-reads_source.false))
