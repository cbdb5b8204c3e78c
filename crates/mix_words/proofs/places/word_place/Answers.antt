use Rattle.std.proofs.Common.{◌≡◌, ◌<◌, ◌∙◌, false, true, ◌&&◌, not, refl, sym, arith}
use Rattle.mix_words.proofs.WordPlaces.{blank_before, looked_next, looked_other}
use Rattle.mix_words.proofs.places.word_place.Goals as goal
use Rattle.mix_words.proofs.places.word_place.Goals.{then-is_apart+then-not-is_blank+else-left-eq0, else-is_apart, else-is_apart-via-then-is_apart+else-not-is_blank, else-is_apart-via-else-is_apart}

pub loop-at-preserved : goal.loop-at-preserved
loop-at-preserved c =
    let line = c.args.line.now in
    let at = c.loop-at.at in
    let p = c.loop-at.is_apart in
    let t = c.is_blank_byte-is_blank.result in
    let blank = c.is_blank_byte-is_blank.ensures in
    let before = blank_before line at c.loop-at-test.true ∙ sym blank in
    elim c.if-is_apart.branch [
      | then-is_apart+then-not-is_blank+else-left-eq0 w ↦
          let begins : (p && not t) ≡ true = rw (w.if-is_apart.true, w.if-not-is_blank.true) refl in
          let some : 0 < c.loop-at.left = omega (arith, w.if-left-eq0.false) in
          record { apart = before ∙ sym w.is_apart-is; place = rw (w.is_apart-is, w.left-is) (looked_next line at c.loop-at.left p t _ c.loop-at-test.true blank begins some c.loop-at.invariant.place) }
      | else-is_apart w ↦
          let other : (p && not t) ≡ false = elim w.else-is_apart.branch [
            | else-is_apart-via-then-is_apart+else-not-is_blank w' ↦ rw (w'.if-is_apart.true, w'.if-not-is_blank.false) refl
            | else-is_apart-via-else-is_apart w' ↦ rw w'.if-is_apart.false refl
          ] in
          record { apart = before ∙ sym w.is_apart-is; place = rw (w.is_apart-is, w.left-is) (looked_other line at c.loop-at.left p t _ c.loop-at-test.true blank other c.loop-at.invariant.place) }
    ]
