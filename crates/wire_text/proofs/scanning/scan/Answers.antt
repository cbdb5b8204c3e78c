use Rattle.std.proofs.Common.{◌≡◌, ◌<◌, ◌⊎◌, inl, inr, ◌∷◌, [], length, arith, ap, subst, sym, ◌∙◌}
use Rattle.std.proofs.lemmas.List.{nil_from_length}
use Rattle.std.proofs.lemmas.Bool.{cases_lt}
use Rattle.wire_text.specs.Reading.{IsCutOff, Judges, unexpected}
use Rattle.wire_text.specs.Heads.{JudgesText}
use Rattle.wire_text.specs.Reply.{IsReplyText}
use Rattle.wire_text.specs.Sized.{IsNumberText, IsHoleText, IsNothing, IsListText}
use Rattle.wire_text.proofs.Scans.{bytes_part, sized, led}
use Rattle.wire_text.proofs.Tags.{count_leads, root_leads, list_follows, bare_leads, other_tag, no_reply, sized_number, sized_hole, sized_nothing}
use Rattle.wire_text.proofs.scanning.scan.Goals as goal

pub returns-in_default : goal.returns-in_default
returns-in_default c = subst (IsCutOff IsReplyText) (sym (nil_from_length c.args.text.now c.in_default.ensures.cases)) no_reply

pub returns-in-128 : goal.returns-in-128
returns-in-128 c =
    let rest = c.in-Some.rest.now in
    let text : c.args.text.now ≡ 128 ∷ rest = c.in-Some.ensures.cases.0 ∙ ap (λ b. b ∷ rest) c.in-128.is in
    let fits = bytes_part (128 ∷ []) rest c.args.text.now text (λ i. omega (arith, c.type_inv.text i)) in
    subst (λ t. JudgesText IsReplyText t c.scan_sized.result) (sym text) (led IsReplyText IsNumberText (128 ∷ []) rest c.scan_sized.result count_leads (sized IsNumberText 4 rest c.scan_sized.result sized_number fits c.scan_sized.ensures))

pub returns-in-129 : goal.returns-in-129
returns-in-129 c =
    let rest = c.in-Some.rest.now in
    let text : c.args.text.now ≡ 129 ∷ rest = c.in-Some.ensures.cases.0 ∙ ap (λ b. b ∷ rest) c.in-129.is in
    let fits = bytes_part (129 ∷ []) rest c.args.text.now text (λ i. omega (arith, c.type_inv.text i)) in
    subst (λ t. JudgesText IsReplyText t c.scan_sized-in-129.result) (sym text) (led IsReplyText IsHoleText (129 ∷ []) rest c.scan_sized-in-129.result root_leads (sized IsHoleText 40 rest c.scan_sized-in-129.result sized_hole fits c.scan_sized-in-129.ensures))

pub returns-in-130 : goal.returns-in-130
returns-in-130 c =
    let rest = c.in-Some.rest.now in
    let text : c.args.text.now ≡ 130 ∷ rest = c.in-Some.ensures.cases.0 ∙ ap (λ b. b ∷ rest) c.in-130.is in
    let fits = bytes_part (130 ∷ []) rest c.args.text.now text (λ i. omega (arith, c.type_inv.text i)) in
    subst (λ t. JudgesText IsReplyText t c.scan_list.result) (sym text) (led IsReplyText IsListText (130 ∷ []) rest c.scan_list.result list_follows c.scan_list.ensures)

pub returns-in-131-to-134 : goal.returns-in-131-to-134
returns-in-131-to-134 c =
    let rest = c.in-Some.rest.now in
    let tag = c.in-Some.tag.now in
    let result = c.scan_sized-in-131-to-134.result in
    let text : c.args.text.now ≡ tag ∷ rest = c.in-Some.ensures.cases.0 in
    let fits = bytes_part (tag ∷ []) rest c.args.text.now text (λ i. omega (arith, c.type_inv.text i)) in
    subst (λ t. JudgesText IsReplyText t result) (sym text)
    (led IsReplyText IsNothing (tag ∷ []) rest result (bare_leads tag (omega arith) (omega arith)) (sized IsNothing 0 rest result sized_nothing fits c.scan_sized-in-131-to-134.ensures))

pub returns-in_default-tag : goal.returns-in_default-tag
returns-in_default-tag c =
    let tag = c.in-Some.tag.now in
    let other : (tag < 0x80) ⊎ (0x86 < tag) = elim (cases_lt tag 0x80) [ inl p ↦ inl p | inr q ↦ inr (omega arith) ] in
    subst (λ t. Judges IsReplyText t (unexpected (length t))) (sym c.in-Some.ensures.cases.0) (other_tag tag c.in-Some.rest.now other)

pub returns-in_default-tag-2 : goal.returns-in_default-tag-2
returns-in_default-tag-2 c =
    let tag = c.in-Some.tag.now in
    let other : (tag < 0x80) ⊎ (0x86 < tag) = elim (cases_lt tag 0x80) [ inl p ↦ inl p | inr q ↦ inr (omega arith) ] in
    subst (λ t. Judges IsReplyText t (unexpected (length t))) (sym c.in-Some.ensures.cases.0) (other_tag tag c.in-Some.rest.now other)
