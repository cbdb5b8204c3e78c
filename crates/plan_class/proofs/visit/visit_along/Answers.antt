use Rattle.std.proofs.Common.{ℕ, List, ap, ◌∙◌}
use Rattle.path_auto.specs.Automaton.{Table, machine_of, table_of}
use Rattle.browse_visit.specs.Samples.{sample_labels}
use Rattle.browse_visit.specs.Shapes.{shape_at}
use Rattle.plan_class.specs.Known.{visit_in}
use Rattle.plan_class.proofs.visit.visit_along.Goals as goal

pub returns : goal.returns
returns c =
    let start = c.args.start in
    c.visit_by.ensures
    ∙ ap (λ (ls : List (List ℕ)). visit_in (machine_of c.in_ok-automaton.automaton) ls (shape_at c.args.shapes.now start.source) start) (c.deref.ensures.value ∙ c.in_ok-labels.ensures)
    ∙ ap (λ (t : Table). visit_in (machine_of t) (sample_labels (table_of c.args.path.now).labels) (shape_at c.args.shapes.now start.source) start) c.in_ok-automaton.ensures.table
