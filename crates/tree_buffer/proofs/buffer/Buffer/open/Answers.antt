use Rattle.std.proofs.Common.{◌≡◌, refl, ap, subst, sym, ◌∙◌}
use Rattle.lxp_core.specs.Open.{nil, hole}
use Rattle.lxp_core.specs.Plain.{stacked}
use Rattle.lxp_core.proofs.Plains.{put-hole}
use Rattle.tree_buffer.specs.Entries.{nodes}
use Rattle.tree_buffer.specs.Sourced.{Sourced}
use Rattle.tree_buffer.proofs.Calls.{sources_from}
use Rattle.tree_buffer.proofs.Start.{start, sourced_start}
use Rattle.tree_buffer.proofs.buffer.Buffer.open.Goals as goal

pub returns-clause-sources : goal.returns-clause-sources
returns-clause-sources g c =
    let v = g.S.Sources.view c.args.s.now in
    let n = c.args.number in
    let list : stacked c.push.new.self.items nil ≡ hole (v.root n) nil =
    ap (λ xs. stacked xs nil) (rw c.new-rest.ensures.items at c.in_ok-push.ensures.items) ∙ put-hole c.get_root-root.result nil ∙ ap (λ h. hole h nil) c.get_root-root.ensures in
    let whole = rw c.new-entries.ensures.items at c.in_ok-push-2.ensures.items in
    let made : nodes c.push-2.new.self.items ≡ start v n = ap nodes whole ∙ rw (c.in_ok-label.ensures, list) refl in
    sources_from _ _ (subst (Sourced v n) (sym made) (sourced_start v n c.requires (g.met.S.Sources.root_known _ _ c.requires)))
