use Rattle.std.proofs.Common.{◌≡◌, ◌+◌, ◌++◌, ◌∷◌, false, [], List, ℕ, Bor, map, arith, slice_range, slice_index, drop}
use Rattle.std.proofs.lemmas.Grind.{common_steps}
use Rattle.std.proofs.lemmas.List.{map-append}
use Rattle.std.proofs.lemmas.Bool.{eq-eqb}
use Rattle.mix_words.specs.Lines.{without_cr}
use Rattle.mix_words.proofs.Pieces.{Free-grown, Free-empty, Free-rest}
use Rattle.mix_words.proofs.LineCuts.{is_lf, line_cut, last_line, no_line_left}
use Rattle.mix_words.proofs.lines.cut_lines.Goals as goal
use Rattle.mix_words.proofs.lines.cut_lines.Goals.{then-byte-eq10+in_ok-push, else-byte-eq10, then-from-text+in_ok-push-2, else-from-text}

pub loop-at-preserved : goal.loop-at-preserved
loop-at-preserved c = elim c.if-byte-eq10.branch [
  | then-byte-eq10+in_ok-push w ↦
      let pushed : map (λ (line : Bor (List ℕ)). line.now) w.push.new.self.items ≡ map (λ line. line.now) c.loop-at.lines.items ++ without_cr (slice_range c.args.text.now c.loop-at.from c.loop-at.at) ∷ [] = grind (arith, common_steps, map-append) in
      record {
        inside = omega (arith, w.from-is);
        free = rw w.from-is (Free-empty is_lf c.args.text.now (c.loop-at.at + 1));
        cut = rw (w.lines-is, w.from-is) (line_cut c.args.text.now c.loop-at.from c.loop-at.at _ _ _ c.loop-at.invariant.inside c.loop-at-test.true c.loop-at.invariant.free
            (eq-eqb _ 10 w.if-byte-eq10.true) pushed c.loop-at.invariant.cut);
      }
  | else-byte-eq10 w ↦
      let other : is_lf (slice_index c.args.text.now c.loop-at.at) ≡ false = grind (arith, w.if-byte-eq10.false) in
      record {
        inside = omega (arith, w.from-is);
        free = rw w.from-is (Free-grown is_lf c.args.text.now c.loop-at.from c.loop-at.at c.loop-at.invariant.inside c.loop-at-test.true c.loop-at.invariant.free other);
        cut = rw (w.lines-is, w.from-is) c.loop-at.invariant.cut;
      }
]

pub returns : goal.returns
returns c = elim c.if-from-text.branch [
  | then-from-text+in_ok-push-2 w ↦
      let pushed : map (λ (line : Bor (List ℕ)). line.now) w.push-then-from-text.new.self.items ≡ map (λ line. line.now) c.loop-at.lines.items ++ drop c.loop-at.from c.args.text.now ∷ [] = grind (arith, common_steps, map-append) in
      rw w.lines-is (last_line c.args.text.now c.loop-at.from _ _ _ w.if-from-text.true
      (Free-rest is_lf c.args.text.now c.loop-at.from c.loop-at.at c.loop-at.invariant.inside (omega (arith, c.loop-at-test.false)) c.loop-at.invariant.free) pushed c.loop-at.invariant.cut)
  | else-from-text w ↦ rw w.lines-is (no_line_left c.args.text.now c.loop-at.from _ _ (omega (arith, w.if-from-text.false)) c.loop-at.invariant.cut)
]
