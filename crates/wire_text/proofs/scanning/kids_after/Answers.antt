use Rattle.std.proofs.Common.{◌≡◌, ◌<◌, ◌^◌, ◌+◌, ◌-◌, ◌∷◌, ◌++◌, append_assoc, length, take, drop, arith, ap, subst, sym, ◌∙◌}
use Rattle.std.proofs.lemmas.List.{take-append-drop, length-take}
use Rattle.wire_text.specs.Bytes.{u32_bytes, label_bytes}
use Rattle.wire_text.specs.Reading.{IsCutOff}
use Rattle.wire_text.specs.Heads.{IsTreesText}
use Rattle.wire_text.proofs.Widths.{bytes_after}
use Rattle.wire_text.proofs.Judged.{stuck_kids, stuck_label, stuck_byte}
use Rattle.wire_text.proofs.scanning.kids_after.Goals as goal

pub returns-in-Some : goal.returns-in-Some
returns-in-Some c =
    let x = c.args.text.now in
    let n = c.args.len in (
      take n x,
      (c.in-Whole.ensures.1, omega (arith, c.in-Whole.ensures.0, length-take n x)),
      c.in-Some.ensures.fits,
      sym (take-append-drop n x) ∙ ap (λ r. take n x ++ r) (sym c.split_at.ensures.back ∙ c.in-Some.ensures.number),
    )

pub returns-in-None : goal.returns-in-None
returns-in-None c = λ m.
    let x = c.args.text.now in
    let n = c.args.len in
    let len : length (take n x) ≡ n = omega (arith, c.in-Whole.ensures.0, length-take n x) in
    let short : length (drop n x) < 4 = omega (arith, c.in-None.ensures.number, ap length c.split_at.ensures.back) in
    let few : length (take n x) < 2 ^ 32 = omega (arith, len, c.ranges.len.fits) in
    let text : label_bytes (take n x) ++ drop n x ≡ u32_bytes n ++ x =
    append_assoc (u32_bytes (length (take n x))) (take n x) (drop n x) ∙ ap (λ r. u32_bytes (length (take n x)) ++ r) (take-append-drop n x) ∙ ap (λ k. u32_bytes k ++ x) len in
    subst (λ y. IsCutOff (IsTreesText (m + 1)) (0 ∷ y)) text
    (stuck_kids (take n x) (drop n x) m c.in-Whole.ensures.1 few (bytes_after n x (λ i. omega (arith, c.type_inv.text i))) short)

pub returns-in-Wrong : goal.returns-in-Wrong
returns-in-Wrong c = λ m.
    let e = c.in-Wrong.ensures in
    stuck_byte c.args.len c.in-Wrong.at c.args.text.now e.2.0 m (length c.args.text.now - c.in-Wrong.at) (omega (arith, c.ranges.len.fits)) e.0 e.1 (omega (arith, e.0)) e.2.1 e.3

pub returns-in-Cut : goal.returns-in-Cut
returns-in-Cut c = λ m.
    let e = c.in-Cut.ensures in
    stuck_label c.args.len c.args.text.now e.1.0 m (omega (arith, c.ranges.len.fits)) e.1.1
