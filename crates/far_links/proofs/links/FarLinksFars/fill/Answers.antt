use Rattle.std.proofs.Common.{rules, ◌≤◌, ◌∙◌, inl, inr, set, ap, subst, sym, arith}
use Rattle.std.proofs.lemmas.Bool.{false≢true}
use Rattle.mix_base.specs.Counts.{HasRisen}
use Rattle.far_keep.specs.declared.far_source.FarSource.{FarSource}
use Rattle.far_keep.specs.Names.{is_same}
use Rattle.far_links.specs.Asked.{faults_in, faults_of, is_of, last_in}
use Rattle.far_links.specs.Lines.{standing_of}
use Rattle.far_links.proofs.Finding.{first_is, found_passes, found_so, passes_there, put_there, there}
use Rattle.far_links.proofs.Same.{same_is}
use Rattle.far_links.proofs.Standings.{fars_kept}
use Rattle.far_links.proofs.links.FarLinksFars.fill.Goals as goal

pub returns-in-Err-Fault-clause-keeps : goal.returns-in-Err-Fault-clause-keeps
returns-in-Err-Fault-clause-keeps g c =
    let mid = c.note_asked.new.asked.items in
    let i = c.in_ok-place.place in
    let x = c.index_mut.result.now in
    let y = c.count.new.self in
    let same = λ (o : FarSource). ap (λ f. is_same f o) c.count.ensures.far in
    let rises = λ (other : FarSource). subst (λ n. n ≤ faults_of (set mid i y) other) (c.in_ok-place.ensures.faults other)
    (elim (found_so (is_of c.args.far.now) mid i x y c.in_ok-place.ensures.place c.index_mut.ensures.value (same c.args.far.now) (is_of other) (same other)) [
      | inl both ↦ omega (arith, ap faults_in both.0, ap faults_in both.1, c.count.ensures.rises)
      | inr kept ↦ omega (arith, ap faults_in kept)
    ]) in
    fars_kept (standing_of g.L.Link.view c.args.self.now.lines.items) (standing_of g.L.Link.view c.fill_line.new.lines.items)
    (faults_of c.args.self.now.asked.items) (faults_of (set mid i y)) c.fill_line.ensures.keeps rises

pub returns-in-Err-Fault-clause-refused : goal.returns-in-Err-Fault-clause-refused
returns-in-Err-Fault-clause-refused g c =
    let mid = c.note_asked.new.asked.items in
    let far = c.args.far.now in
    let i = c.in_ok-place.place in
    let x = c.index_mut.result.now in
    let y = c.count.new.self in
    let same = ap (λ f. is_same f far) c.count.ensures.far in
    let before = sym (c.in_ok-place.ensures.faults far) ∙ ap faults_in (there (is_of far) mid i x y c.in_ok-place.ensures.place c.index_mut.ensures.value same) in
    let after = ap faults_in (put_there (is_of far) mid i x y c.in_ok-place.ensures.place c.index_mut.ensures.value same) in
    record {
      failed = λ e. subst (λ n. HasRisen n (faults_of (set mid i y) far)) (sym before) (subst (HasRisen x.faults) (sym after) c.count.ensures.faults);
      unknown = λ e. cc e;
      only_unknown = λ e. search rules;
    }

pub returns-in-Err-Fault-clause-named : goal.returns-in-Err-Fault-clause-named
returns-in-Err-Fault-clause-named g c = λ e.
    let mid = c.note_asked.new.asked.items in
    let far = c.args.far.now in
    let x = c.index_mut.result.now in
    let y = c.count.new.self in
    let same = ap (λ f. is_same f far) c.count.ensures.far in (
      c.in-Err-Fault.fault,
      ap last_in (put_there (is_of far) mid c.in_ok-place.place x y c.in_ok-place.ensures.place c.index_mut.ensures.value same) ∙ c.count.ensures.last,
      c.in-Err-Fault.ensures.failed c.in-Err-Fault.fault c.in-Err-Fault.field-0-is,
    )

pub returns-in-Err-Fault-clause-others : goal.returns-in-Err-Fault-clause-others
returns-in-Err-Fault-clause-others g c = λ other differs.
    let mid = c.note_asked.new.asked.items in
    let far = c.args.far.now in
    let i = c.in_ok-place.place in
    let x = c.index_mut.result.now in
    let y = c.count.new.self in
    let same = λ (o : FarSource). ap (λ f. is_same f o) c.count.ensures.far in
    let name = same_is x.far far (passes_there (is_of far) mid i x y c.in_ok-place.ensures.place c.index_mut.ensures.value (same far)) in
    elim (found_so (is_of far) mid i x y c.in_ok-place.ensures.place c.index_mut.ensures.value (same far) (is_of other) (same other)) [
      | inl both ↦ absurd (false≢true (sym (ap (λ f. is_same f other) name ∙ differs) ∙ found_passes (is_of other) mid x (sym (first_is (is_of other) mid) ∙ both.0)))
      | inr kept ↦ (ap faults_in kept ∙ c.in_ok-place.ensures.faults other, ap last_in kept ∙ c.in_ok-place.ensures.last other)
    ]
