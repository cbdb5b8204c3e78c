use Rattle.std.proofs.Common.{◌≡◌, [], ◌∷◌, ◌++◌, ap, sym, ◌∙◌}
use Rattle.mix_base.proofs.Lists.{append_nil}
use Rattle.wire_text.specs.Reply.{count, root, reply_bytes, deep_place_in}
use Rattle.wire_text.proofs.Told.{replies_apart}
use Rattle.wire_text.proofs.building.build.Goals as goal

pub returns-in-Some-u32_at : goal.returns-in-Some-u32_at
returns-in-Some-u32_at c = λ r spelled.
    let number = c.in-Some-u32_at in
    let text : c.args.text.now ≡ reply_bytes (count number.n) ++ _ =
    c.in-Some.ensures.cases.0 ∙ ap (λ b. b ∷ c.in-Some.rest.now) c.in-128.is ∙ ap (λ x. 0x80 ∷ x) number.ensures.number in
    let same = replies_apart (count number.n) r _ [] number.ensures.fits spelled.0 (sym text ∙ spelled.1 ∙ sym (append_nil (reply_bytes r))) in
    (same.0, sym (ap (deep_place_in 200) same.0))

pub returns-in-Some-hole_at : goal.returns-in-Some-hole_at
returns-in-Some-hole_at c = λ r spelled.
    let read = c.in-Some-hole_at in
    let text : c.args.text.now ≡ reply_bytes (root read.hole.id read.hole.weight) ++ _ =
    c.in-Some.ensures.cases.0 ∙ ap (λ b. b ∷ c.in-Some.rest.now) c.in-129.is ∙ ap (λ x. 0x81 ∷ x) read.ensures.hole.1 in
    let same = replies_apart (root read.hole.id read.hole.weight) r _ [] (read.ensures.hole.0, read.ensures.fits) spelled.0 (sym text ∙ spelled.1 ∙ sym (append_nil (reply_bytes r))) in
    (same.0, sym (ap (deep_place_in 200) same.0))
