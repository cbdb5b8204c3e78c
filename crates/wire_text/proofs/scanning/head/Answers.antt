use Rattle.std.proofs.Common.{◌≡◌, ◌+◌, [], ◌∷◌, length, arith, ap, subst, sym, ◌∙◌}
use Rattle.std.proofs.lemmas.List.{nil_from_length}
use Rattle.wire_text.specs.Reading.{IsCutOff, Judges, unexpected}
use Rattle.wire_text.specs.Heads.{IsTreesText, IsHead}
use Rattle.wire_text.proofs.Judged.{stuck_empty, stuck_len, stuck_hole, stuck_tag}
use Rattle.wire_text.proofs.Scans.{bytes_part, head_from_kids, head_of_hole}
use Rattle.wire_text.proofs.scanning.head.Goals as goal

pub returns-in_default : goal.returns-in_default
returns-in_default c = λ n. subst (IsCutOff (IsTreesText (n + 1))) (sym (nil_from_length c.args.text.now c.in_default.ensures.cases)) (stuck_empty n)

pub returns-in-Some-u32_at : goal.returns-in-Some-u32_at
returns-in-Some-u32_at c =
    let rest = c.in-Some.rest.now in
    let text : c.args.text.now ≡ 0 ∷ rest = c.in-Some.ensures.cases.0 ∙ ap (λ b. b ∷ rest) c.in-0.is in
    head_from_kids c.args.text.now rest c.in-Some-u32_at.after.now c.in-Some-u32_at.len c.kids_after.result text c.in-Some-u32_at.ensures.number c.in-Some-u32_at.ensures.fits c.kids_after.ensures

pub returns-in-None : goal.returns-in-None
returns-in-None c = λ n.
    let rest = c.in-Some.rest.now in
    let text : c.args.text.now ≡ 0 ∷ rest = c.in-Some.ensures.cases.0 ∙ ap (λ b. b ∷ rest) c.in-0.is in
    subst (IsCutOff (IsTreesText (n + 1))) (sym text)
    (stuck_len rest n (bytes_part (0 ∷ []) rest c.args.text.now text (λ i. omega (arith, c.type_inv.text i))) c.in-None.ensures.number)

pub returns-in-1 : goal.returns-in-1
returns-in-1 c = λ n.
    let rest = c.in-Some.rest.now in
    let text : c.args.text.now ≡ 1 ∷ rest = c.in-Some.ensures.cases.0 ∙ ap (λ b. b ∷ rest) c.in-1.is in
    subst (IsCutOff (IsTreesText (n + 1))) (sym text)
    (stuck_hole rest n (bytes_part (1 ∷ []) rest c.args.text.now text (λ i. omega (arith, c.type_inv.text i))) c.if-rest-lt40.true)

pub returns-in-1-2 : goal.returns-in-1-2
returns-in-1-2 c =
    let rest = c.in-Some.rest.now in
    let text : c.args.text.now ≡ 1 ∷ rest = c.in-Some.ensures.cases.0 ∙ ap (λ b. b ∷ rest) c.in-1.is in
    subst (IsHead c.args.text.now 0) (sym c.split_at.ensures.back)
    (head_of_hole c.args.text.now rest text (bytes_part (1 ∷ []) rest c.args.text.now text (λ i. omega (arith, c.type_inv.text i))) c.if-rest-lt40.false)

pub returns-in_default-tag : goal.returns-in_default-tag
returns-in_default-tag c = λ n.
    let rest = c.in-Some.rest.now in
    subst (λ t. Judges (IsTreesText (n + 1)) t (unexpected (length t))) (sym c.in-Some.ensures.cases.0) (stuck_tag c.in-Some.tag.now rest n (omega arith))
