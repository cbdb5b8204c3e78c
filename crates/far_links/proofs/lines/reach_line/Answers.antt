use Rattle.std.proofs.Common.{arith, length, ◌≡◌, ◌∙◌, inl, inr, ap, sym, [], ◌∷◌, ◌++◌}
use Rattle.std.specs.Prelude.{Some}
use Rattle.far_links.specs.Lines.{joins, line_place, standing, standing_in, standing_of}
use Rattle.far_links.proofs.Finding.{find_push, first_is, none_of, place_push}
use Rattle.far_links.proofs.Same.{both_same}
use Rattle.far_links.proofs.lines.reach_line.Goals as goal

pub returns-clause-place : goal.returns-clause-place
returns-clause-place g c =
    let far = c.args.far.now in
    let line = c.in_ok-new.field-0 in
    ap (λ xs. line_place xs far) c.in_ok-push.ensures.items
    ∙ place_push (joins far) c.args.lines.now.items line (sym (none_of _ c.in_default.not-Some) ∙ c.find_line.ensures ∙ ap (λ xs. line_place xs far) c.deref.ensures.value)
    (both_same line.replies line.requests far.replies far.requests c.in_ok-new.ensures.joins.0 c.in_ok-new.ensures.joins.1)
    ∙ ap Some (let long : length c.args.lines.now.items ≡ c.len-place.result = omega (arith, c.args.lines.now.ok.0, c.len-place.ensures) in long)

pub returns-clause-kept : goal.returns-clause-kept
returns-clause-kept g c = λ other.
    let view = g.L.Link.view in
    ap (λ xs. standing_of view xs other) c.in_ok-push.ensures.items
    ∙ ap (standing_in view) (first_is (joins other) (c.args.lines.now.items ++ c.in_ok-new.field-0 ∷ []))
    ∙ elim (find_push (joins other) c.args.lines.now.items c.in_ok-new.field-0) [
      | inl here ↦ ap (standing_in view) here.0 ∙ ap (standing view) c.in_ok-new.ensures.state ∙ sym (ap (standing_in view) here.1)
      | inr same ↦ ap (standing_in view) same
    ]
    ∙ sym (ap (standing_in view) (first_is (joins other) c.args.lines.now.items))
