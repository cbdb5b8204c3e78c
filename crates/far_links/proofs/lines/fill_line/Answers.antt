use Rattle.std.proofs.Common.{◌≡◌, ◌≤◌, ◌∙◌, inl, inr, false, set, ap, subst, sym}
use Rattle.std.specs.Prelude.{◌&&◌, IfOk, IfErr}
use Rattle.std.specs.Str.{bytes_eq}
use Rattle.lxp_core.specs.Open.{AllHoles, weight_of}
use Rattle.lxp_core.specs.Plain.{plain}
use Rattle.far_keep.specs.declared.far_source.FarSource.{FarSource}
use Rattle.far_links.specs.declared.fault.FarFault.{FarFault}
use Rattle.far_links.specs.declared.fault.Refusal.TheVariants.{Fault}
use Rattle.far_links.specs.Failing.{HasFailed}
use Rattle.far_links.specs.Lines.{joins, standing, standing_in, standing_of}
use Rattle.far_links.specs.Standing.{KeepsLine, knows, weight}
use Rattle.far_links.proofs.Finding.{found_so, put_there, there}
use Rattle.far_links.proofs.Standings.{line_same}
use Rattle.far_links.proofs.lines.fill_line.Goals as goal

-- texts that are two others are the same as two further ones exactly where those are
alike : (a b x y p q : _) → a ≡ x → b ≡ y → (bytes_eq a p && bytes_eq b q) ≡ (bytes_eq x p && bytes_eq y q)
alike a b x y p q e f = ap (λ t. bytes_eq t p && bytes_eq b q) e ∙ ap (λ t. bytes_eq x p && bytes_eq t q) f

pub returns-clause-keeps : goal.returns-clause-keeps
returns-clause-keeps g c = λ other.
    let view = g.L.Link.view in
    let mid = c.reach_line.new.lines.items in
    let far = c.args.far.now in
    let i = c.in_ok-place.place in
    let x = c.index_mut.result.now in
    let y = c.fill.new.self in
    let files = c.fill.ensures.files in
    let same = λ (o : FarSource). alike y.replies y.requests x.replies x.requests o.replies o.requests files.0 files.1 in
    subst (λ v. KeepsLine v (standing_of view (set mid i y) other)) (c.in_ok-place.ensures.kept other)
    (elim (found_so (joins far) mid i x y c.in_ok-place.ensures.place c.index_mut.ensures.value (same far) (joins other) (same other)) [
      | inl both ↦ subst (λ v. KeepsLine v (standing_of view (set mid i y) other)) (sym (ap (standing_in view) both.0))
          (subst (KeepsLine (standing view x.state)) (sym (ap (standing_in view) both.1)) c.fill.ensures.keeps)
      | inr kept ↦ subst (KeepsLine (standing_of view mid other)) (sym (ap (standing_in view) kept)) (line_same (standing_of view mid other))
    ])

pub returns-clause-known : goal.returns-clause-known
returns-clause-known g c =
    let view = g.L.Link.view in
    let far = c.args.far.now in
    let x = c.index_mut.result.now in
    let y = c.fill.new.self in
    let same = alike y.replies y.requests x.replies x.requests far.replies far.requests c.fill.ensures.files.0 c.fill.ensures.files.1 in
    let stands = ap (standing_in view) (put_there (joins far) c.reach_line.new.lines.items c.in_ok-place.place x y c.in_ok-place.ensures.place c.index_mut.ensures.value same) in
    subst (λ v. IfOk c.fill.result (λ list. AllHoles (knows v far.number) (plain list.items))) (sym stands) c.fill.ensures.known

pub returns-clause-lighter : goal.returns-clause-lighter
returns-clause-lighter g c =
    let view = g.L.Link.view in
    let far = c.args.far.now in
    let mid = c.reach_line.new.lines.items in
    let x = c.index_mut.result.now in
    let y = c.fill.new.self in
    let same = alike y.replies y.requests x.replies x.requests far.replies far.requests c.fill.ensures.files.0 c.fill.ensures.files.1 in
    let stood = sym (c.in_ok-place.ensures.kept far) ∙ ap (standing_in view) (there (joins far) mid c.in_ok-place.place x y c.in_ok-place.ensures.place c.index_mut.ensures.value same) in
    let stands = ap (standing_in view) (put_there (joins far) mid c.in_ok-place.place x y c.in_ok-place.ensures.place c.index_mut.ensures.value same) in
    subst (λ v. IfOk c.fill.result (λ list. weight_of (weight (standing_of view (set mid c.in_ok-place.place y) far) far.number) (plain list.items) ≤ weight v far.number c.args.hole)) (sym stood)
    (subst (λ v. IfOk c.fill.result (λ list. weight_of (weight v far.number) (plain list.items) ≤ weight (standing view x.state) far.number c.args.hole)) (sym stands) c.fill.ensures.lighter)

pub returns-clause-failed : goal.returns-clause-failed
returns-clause-failed g c =
    let view = g.L.Link.view in
    let far = c.args.far.now in
    let mid = c.reach_line.new.lines.items in
    let x = c.index_mut.result.now in
    let y = c.fill.new.self in
    let same = alike y.replies y.requests x.replies x.requests far.replies far.requests c.fill.ensures.files.0 c.fill.ensures.files.1 in
    let stood = sym (c.in_ok-place.ensures.kept far) ∙ ap (standing_in view) (there (joins far) mid c.in_ok-place.place x y c.in_ok-place.ensures.place c.index_mut.ensures.value same) in
    let stands = ap (standing_in view) (put_there (joins far) mid c.in_ok-place.place x y c.in_ok-place.ensures.place c.index_mut.ensures.value same) in
    subst (λ v. IfErr c.fill.result (λ e. (cause : FarFault) → e ≡ Fault cause → HasFailed v (standing_of view (set mid c.in_ok-place.place y) far) far.number c.args.hole cause)) (sym stood)
    (subst (λ v. IfErr c.fill.result (λ e. (cause : FarFault) → e ≡ Fault cause → HasFailed (standing view x.state) v far.number c.args.hole cause)) (sym stands) c.fill.ensures.failed)

pub returns-clause-unknown : goal.returns-clause-unknown
returns-clause-unknown g c = λ e.
    let view = g.L.Link.view in
    let far = c.args.far.now in
    let x = c.index_mut.result.now in
    let y = c.fill.new.self in
    let same = alike y.replies y.requests x.replies x.requests far.replies far.requests c.fill.ensures.files.0 c.fill.ensures.files.1 in
    let stood = sym (c.in_ok-place.ensures.kept far) ∙ ap (standing_in view) (there (joins far) c.reach_line.new.lines.items c.in_ok-place.place x y c.in_ok-place.ensures.place c.index_mut.ensures.value same) in
    subst (λ v. knows v far.number c.args.hole ≡ false) (sym stood) (c.fill.ensures.unknown e)

pub returns-clause-only_unknown : goal.returns-clause-only_unknown
returns-clause-only_unknown g c = λ e.
    let view = g.L.Link.view in
    let far = c.args.far.now in
    let x = c.index_mut.result.now in
    let y = c.fill.new.self in
    let same = alike y.replies y.requests x.replies x.requests far.replies far.requests c.fill.ensures.files.0 c.fill.ensures.files.1 in
    let stood = sym (c.in_ok-place.ensures.kept far) ∙ ap (standing_in view) (there (joins far) c.reach_line.new.lines.items c.in_ok-place.place x y c.in_ok-place.ensures.place c.index_mut.ensures.value same) in
    c.fill.ensures.only_unknown (subst (λ v. knows v far.number c.args.hole ≡ false) stood e)
