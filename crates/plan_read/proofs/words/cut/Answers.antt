use Rattle.std.proofs.Common.{◌≡◌, ◌∙◌, ◌++◌, ◌∷◌, ◌==◌, ◌&&◌, [], List, ℕ, Bor, false, map, sym, arith, slice_range, slice_index, drop}
use Rattle.std.proofs.lemmas.Grind.{common_steps}
use Rattle.std.proofs.lemmas.Bool.{eq-eqb}
use Rattle.std.proofs.lemmas.List.{map-append}
use Rattle.plan_read.specs.Words.{is_outside}
use Rattle.plan_read.specs.declared.words.Mode.TheVariants.{Plain}
use Rattle.plan_read.proofs.Cuts.{nothing_before, cut_here, goes_on, stays_by_byte, stays_by_mode, last_piece}
use Rattle.plan_read.proofs.words.cut.Goals as goal
use Rattle.plan_read.proofs.words.cut.Goals.{then-is_outside+then-byte-separator+in_ok-push, else-is_outside, else-is_outside-via-then-is_outside+else-byte-separator, else-is_outside-via-else-is_outside}

pub loop-at-init : goal.loop-at-init
loop-at-init c = record { inside = omega arith; whole = rw c.new-pieces.ensures.items (nothing_before c.args.separator Plain c.args.text.now) }

pub loop-at-preserved : goal.loop-at-preserved
loop-at-preserved c = elim c.if-is_outside.branch [
  | then-is_outside+then-byte-separator+in_ok-push w ↦
      let pushed : map (λ (piece : Bor (List ℕ)). piece.now) w.push.new.self.items ≡ map (λ piece. piece.now) c.loop-at.pieces.items ++ slice_range c.args.text.now c.loop-at.from c.loop-at.at ∷ [] = grind (arith, common_steps, map-append) in
      record {
        inside = omega (arith, w.from-is);
        whole = rw (w.pieces-is, w.from-is, w.mode-is) (cut_here c.args.separator _ _ c.args.text.now c.loop-at.from c.loop-at.at c.loop-at.mode c.loop-at-test.true
            (sym c.is_outside.ensures ∙ w.if-is_outside.true) (eq-eqb _ c.args.separator w.if-byte-separator.true) pushed ∙ c.loop-at.invariant.whole);
      }
  | else-is_outside w ↦
      let stays : (is_outside c.loop-at.mode && slice_index c.args.text.now c.loop-at.at == c.args.separator) ≡ false = elim w.else-is_outside.branch [
        | else-is_outside-via-then-is_outside+else-byte-separator w' ↦ stays_by_byte c.loop-at.mode _ _ w'.if-byte-separator.false
        | else-is_outside-via-else-is_outside w' ↦ stays_by_mode c.loop-at.mode _ (sym c.is_outside.ensures ∙ w'.if-is_outside.false)
      ] in
      record {
        inside = omega (arith, w.from-is, c.loop-at.invariant.inside);
        whole = rw (w.pieces-is, w.from-is, w.mode-is, w.mode_after-mode.ensures)
            (goes_on c.args.separator _ c.args.text.now c.loop-at.from c.loop-at.at c.loop-at.mode c.loop-at.invariant.inside c.loop-at-test.true stays ∙ c.loop-at.invariant.whole);
      }
]

pub returns : goal.returns
returns c =
    let pushed : map (λ (piece : Bor (List ℕ)). piece.now) c.push-2.new.self.items ≡ map (λ piece. piece.now) c.loop-at.pieces.items ++ drop c.loop-at.from c.args.text.now ∷ [] = grind (arith, common_steps, map-append) in
    last_piece c.args.separator _ _ c.args.text.now c.loop-at.from c.loop-at.at c.loop-at.mode (omega (arith, c.loop-at-test.false)) (omega (arith, c.loop-at.auto.at-end)) pushed c.loop-at.invariant.whole
