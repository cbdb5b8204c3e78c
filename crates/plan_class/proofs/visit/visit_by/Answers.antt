use Rattle.std.proofs.Common.{ap, ◌∙◌}
use Rattle.path_auto.specs.Automaton.{machine_of}
use Rattle.browse_visit.specs.declared.shape.Shape.{Shape}
use Rattle.plan_class.specs.Known.{visit_in}
use Rattle.plan_class.proofs.visit.visit_by.Goals as goal

pub returns : goal.returns
returns c = c.visit_in.ensures ∙ ap (λ (s : Shape). visit_in (machine_of c.args.automaton.now) c.args.labels.now s c.args.start) c.shape_at-shape.ensures
