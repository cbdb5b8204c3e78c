use Rattle.std.proofs.Common.{◌≡◌, ◌⊎◌, inl, inr, ◌<◌, get_or, length, arith}
use Rattle.wire_text.specs.Characters.{Follows, IsSecond}
use Rattle.wire_text.proofs.Letters.{fault0, fault1, fault2, fault3, no_fault}
use Rattle.wire_text.proofs.utf8.character_fault.Goals as goal
use Rattle.wire_text.proofs.utf8.character_fault.Goals.{then-width-eq0-via-then-width-eq0, then-width-eq0-via-else-width-eq0+then-left-width, else-text-gt1-via-then-text-gt1+else-not-is_second, else-text-gt1-via-else-text-gt1, else-text-gt2-via-then-text-gt2+else-not-follows, else-text-gt2-via-else-text-gt2, else-text-gt3-via-then-text-gt3+else-not-follows-2, else-text-gt3-via-else-text-gt3}

pub returns-then-width-eq0 : goal.returns-then-width-eq0
returns-then-width-eq0 c =
    let w = c.width_of-width.result in
    let short : (w ≡ 0) ⊎ (c.args.left < w) = elim c.then-width-eq0.branch [
      | then-width-eq0-via-then-width-eq0 v ↦ inl v.if-width-eq0.true
      | then-width-eq0-via-else-width-eq0+then-left-width v ↦ inr v.if-left-width.true
    ] in
    fault0 c.args.text.now w c.args.left c.requires.some c.width_of-width.ensures short

pub returns-then-not-is_second : goal.returns-then-not-is_second
returns-then-not-is_second c =
    fault1 c.args.text.now c.width_of-width.result c.args.left c.if-text-gt1.true c.width_of-width.ensures (omega arith) (omega arith) c.requires.none c.if-not-is_second.ensures

pub returns-then-not-follows : goal.returns-then-not-follows
returns-then-not-follows c =
    let x = c.args.text.now in
    let second : IsSecond (get_or x 0 0) (get_or x 1 0) = elim c.else-text-gt1.branch [
      | else-text-gt1-via-then-text-gt1+else-not-is_second w ↦ w.if-not-is_second.ensures
      | else-text-gt1-via-else-text-gt1 w ↦ absurd (omega arith)
    ] in
    fault2 x c.width_of-width.result c.args.left c.if-text-gt2.true c.width_of-width.ensures (omega arith) (omega arith) c.requires.none second c.if-not-follows.ensures

pub returns-then-not-follows-2 : goal.returns-then-not-follows-2
returns-then-not-follows-2 c =
    let x = c.args.text.now in
    let second : IsSecond (get_or x 0 0) (get_or x 1 0) = elim c.else-text-gt1.branch [
      | else-text-gt1-via-then-text-gt1+else-not-is_second w ↦ w.if-not-is_second.ensures
      | else-text-gt1-via-else-text-gt1 w ↦ absurd (omega arith)
    ] in
    let third : Follows (get_or x 2 0) = elim c.else-text-gt2.branch [
      | else-text-gt2-via-then-text-gt2+else-not-follows w ↦ w.if-not-follows.ensures
      | else-text-gt2-via-else-text-gt2 w ↦ absurd (omega arith)
    ] in
    fault3 x c.width_of-width.result c.args.left c.if-text-gt3.true c.width_of-width.ensures (omega arith) (omega arith) c.requires.none second third c.if-not-follows-2.ensures

pub returns : goal.returns
returns c =
    let x = c.args.text.now in
    let second : 1 < length x → IsSecond (get_or x 0 0) (get_or x 1 0) = λ h. elim c.else-text-gt1.branch [
      | else-text-gt1-via-then-text-gt1+else-not-is_second w ↦ w.if-not-is_second.ensures
      | else-text-gt1-via-else-text-gt1 w ↦ absurd (omega arith)
    ] in
    let third : 2 < length x → Follows (get_or x 2 0) = λ h. elim c.else-text-gt2.branch [
      | else-text-gt2-via-then-text-gt2+else-not-follows w ↦ w.if-not-follows.ensures
      | else-text-gt2-via-else-text-gt2 w ↦ absurd (omega arith)
    ] in
    let fourth : 3 < length x → Follows (get_or x 3 0) = λ h. elim c.else-text-gt3.branch [
      | else-text-gt3-via-then-text-gt3+else-not-follows-2 w ↦ w.if-not-follows-2.ensures
      | else-text-gt3-via-else-text-gt3 w ↦ absurd (omega arith)
    ] in
    no_fault x c.width_of-width.result c.args.left c.requires.some c.width_of-width.ensures (omega arith) (omega arith) c.requires.none second third fourth
