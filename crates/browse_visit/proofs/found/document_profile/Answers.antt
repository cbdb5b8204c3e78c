use Rattle.std.proofs.Common.{ℕ, ap, ◌∙◌}
use Rattle.path_auto.specs.Automaton.{machine_of}
use Rattle.browse_profile.specs.declared.profile.Profile.{Profile}
use Rattle.browse_visit.specs.declared.shape.Sort.TheVariants.{Root}
use Rattle.browse_profile.specs.Profiles.{one_skip, in_turn}
use Rattle.browse_visit.specs.Shapes.{sort_layout}
use Rattle.browse_visit.specs.Visits.{tree_profile, visit_profile}
use Rattle.browse_visit.proofs.found.document_profile.Goals as goal

pub returns : goal.returns
returns c =
    c.in_turn.ensures
    ∙ ap (in_turn c.tree_profile-root.result) c.one_skip.ensures
    ∙ ap (λ (p : Profile). in_turn p one_skip)
    (c.tree_profile-root.ensures
    ∙ ap (λ (p : Profile). tree_profile (machine_of c.args.automaton.now) c.name_step-below.result p) c.root_profile.ensures
    ∙ ap (λ (q : ℕ). tree_profile (machine_of c.args.automaton.now) q (visit_profile (machine_of c.args.automaton.now) c.args.labels.now q (sort_layout c.args.shape.now Root))) c.name_step-below.ensures)
