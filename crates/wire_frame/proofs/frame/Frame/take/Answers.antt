use Rattle.std.proofs.Common.{◌≡◌, refl, ◌+◌, ◌-◌, take, sym, ap, ◌∙◌, length, drop, arith}
use Rattle.std.proofs.lemmas.Bool.{false≢true}
use Rattle.std.proofs.lemmas.List.{length-take, length-drop}
use Rattle.wire_frame.specs.Standing.{lost, after}
use Rattle.wire_frame.specs.Frames.{standing_of}
use Rattle.wire_frame.proofs.Taking.{more_taken, lost_before}
use Rattle.wire_frame.proofs.frame.Frame.take.Goals as goal

pub returns-then-is_lost : goal.returns-then-is_lost
returns-then-is_lost c =
    let old = standing_of c.args.self.now in
    let mid = standing_of c.loop-count.self in
    let new = standing_of c.advance-more.new.self in
    let piece = c.args.piece.now in
    let count = c.loop-count.count in
    let gone : new ≡ lost = c.if-is_lost.ensures.0 refl in
    let one : c.advance-more.result ≡ 1 = c.advance-more.ensures.one gone in
    let all = more_taken old mid new piece count c.advance-more.result c.loop-count.invariant.within c.loop-count.invariant.stands c.advance-more.ensures.step in (
      c.loop-count.invariant.within,
      gone,
      ap (λ n. after old (take (count + n) piece)) (sym one) ∙ sym all ∙ gone,
      lost_before old mid piece count c.loop-count.invariant.stands (λ w. absurd (false≢true (c.if-not-is_whole.ensures.1 w))) c.loop-count.invariant.kept,
    )

pub loop-count-preserved : goal.loop-count-preserved
loop-count-preserved c =
    let piece = c.args.piece.now in
    let count = c.loop-count.count in
    record {
      within = omega (arith, c.loop-count.invariant.within, c.advance-more.ensures.within, length-take (length piece - count) (drop count piece), length-drop count piece);
      stands = more_taken (standing_of c.args.self.now) (standing_of c.loop-count.self) (standing_of c.advance-more.new.self) piece count c.advance-more.result
          c.loop-count.invariant.within c.loop-count.invariant.stands c.advance-more.ensures.step;
      kept = λ w. absurd (false≢true (c.if-is_lost.ensures.1 w));
    }
