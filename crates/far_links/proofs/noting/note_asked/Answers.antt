use Rattle.std.proofs.Common.{arith, length, ◌≡◌, ◌∙◌, inl, inr, ap, sym, [], ◌∷◌, ◌++◌}
use Rattle.std.specs.Prelude.{Some}
use Rattle.far_keep.specs.Names.{is_same}
use Rattle.far_links.specs.Asked.{asked_place, faults_in, faults_of, is_of, last_in, last_of}
use Rattle.far_links.proofs.Finding.{find_push, first_is, none_of, place_push}
use Rattle.far_links.proofs.Same.{same_self}
use Rattle.far_links.proofs.noting.note_asked.Goals as goal

pub returns-clause-place : goal.returns-clause-place
returns-clause-place c =
    ap (λ xs. asked_place xs c.args.far.now) c.in_ok-push.ensures.items
    ∙ place_push (is_of c.args.far.now) c.args.asked.now.items c.in_ok-new.field-0 (sym (none_of _ c.in_default.not-Some) ∙ c.find_asked.ensures ∙ ap (λ xs. asked_place xs c.args.far.now) c.deref.ensures.value)
    (ap (λ far. is_same far c.args.far.now) c.in_ok-new.ensures.far ∙ same_self c.args.far.now)
    ∙ ap Some (let long : length c.args.asked.now.items ≡ c.len-place.result = omega (arith, c.args.asked.now.ok.0, c.len-place.ensures) in long)

pub returns-clause-faults : goal.returns-clause-faults
returns-clause-faults c = λ other.
    ap (λ xs. faults_of xs other) c.in_ok-push.ensures.items
    ∙ ap faults_in (first_is (is_of other) (c.args.asked.now.items ++ c.in_ok-new.field-0 ∷ []))
    ∙ elim (find_push (is_of other) c.args.asked.now.items c.in_ok-new.field-0) [
      | inl here ↦ ap faults_in here.0 ∙ c.in_ok-new.ensures.faults ∙ sym (ap faults_in here.1)
      | inr same ↦ ap faults_in same
    ]
    ∙ sym (ap faults_in (first_is (is_of other) c.args.asked.now.items))

pub returns-clause-last : goal.returns-clause-last
returns-clause-last c = λ other.
    ap (λ xs. last_of xs other) c.in_ok-push.ensures.items
    ∙ ap last_in (first_is (is_of other) (c.args.asked.now.items ++ c.in_ok-new.field-0 ∷ []))
    ∙ elim (find_push (is_of other) c.args.asked.now.items c.in_ok-new.field-0) [
      | inl here ↦ ap last_in here.0 ∙ c.in_ok-new.ensures.last ∙ sym (ap last_in here.1)
      | inr same ↦ ap last_in same
    ]
    ∙ sym (ap last_in (first_is (is_of other) c.args.asked.now.items))
