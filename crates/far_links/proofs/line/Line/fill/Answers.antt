use Rattle.std.proofs.Common.{◌∙◌, sym}
use Rattle.lxp_core.specs.Plain.{plain}
use Rattle.far_links.specs.Lines.{standing}
use Rattle.far_links.proofs.Failures.{err_more, fails_same, known_lighter, ok_both, ok_more, root_lighter}
use Rattle.far_links.proofs.Standings.{all_known}
use Rattle.far_links.proofs.line.Line.fill.Goals as goal

pub returns-then-is_far_root-clause-known : goal.returns-then-is_far_root-clause-known
returns-then-is_far_root-clause-known g c =
    ok_more c.fill_root.result _ _ (λ list k. all_known (standing g.L.Link.view c.fill_root.new.self.state) c.args.number (plain list.items) k) c.fill_root.ensures.known

pub returns-then-is_far_root-clause-lighter : goal.returns-then-is_far_root-clause-lighter
returns-then-is_far_root-clause-lighter g c =
    let view = g.L.Link.view in
    ok_both c.fill_root.result _ _ _
    (λ list below light. root_lighter (standing view c.args.self.now.state) (standing view c.fill_root.new.self.state) c.args.number c.args.hole (plain list.items)
    (sym c.is_far_root.ensures ∙ c.if-is_far_root.true) below light)
    c.fill_root.ensures.below c.fill_root.ensures.lighter

pub returns-then-is_far_root-clause-failed : goal.returns-then-is_far_root-clause-failed
returns-then-is_far_root-clause-failed g c =
    let view = g.L.Link.view in
    err_more c.fill_root.result _ _
    (λ e p cause is. fails_same (standing view c.args.self.now.state) (standing view c.fill_root.new.self.state) c.args.number c.args.hole
    (sym c.is_far_root.ensures ∙ c.if-is_far_root.true) cause (p cause is))
    c.fill_root.ensures.failed

pub returns-else-is_far_root-clause-known : goal.returns-else-is_far_root-clause-known
returns-else-is_far_root-clause-known g c =
    ok_more c.fill_known.result _ _ (λ list k. all_known (standing g.L.Link.view c.fill_known.new.self.state) c.args.number (plain list.items) k) c.fill_known.ensures.known

pub returns-else-is_far_root-clause-lighter : goal.returns-else-is_far_root-clause-lighter
returns-else-is_far_root-clause-lighter g c =
    let view = g.L.Link.view in
    ok_both c.fill_known.result _ _ _
    (λ list below light. known_lighter (standing view c.args.self.now.state) (standing view c.fill_known.new.self.state) c.args.number c.args.hole (plain list.items)
    (sym c.is_far_root.ensures ∙ c.if-is_far_root.false) below light)
    c.fill_known.ensures.below c.fill_known.ensures.lighter
