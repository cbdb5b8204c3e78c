use Rattle.std.proofs.Common.{◌≡◌, ◌∙◌, ◌<◌, ◌≤◌, ◌+◌, ◌-◌, ℕ, List, Bor, IfSome, sym, ap, subst, arith, length, map, drop, length-drop, option_map}
use Rattle.std.proofs.lemmas.List.{length-map}
use Rattle.std.proofs.lemmas.Bool.Decides.{nat_tests}
use Rattle.plan_core.specs.declared.plan.Piece.{Piece}
use Rattle.plan_read.specs.Reading.{pieces_read}
use Rattle.plan_read.proofs.pieces.read_pieces.Goals.{in_default-2-via-then-words-at-lt2, in_default-2-via-else-words-at-lt2+else-this-lt3}
use Rattle.plan_read.proofs.PieceSteps.{after_pieces, pieces_at, no_pieces_at, piece_after, few_pieces}
use Rattle.plan_read.proofs.pieces.read_pieces.Goals as goal

pub returns-in_default : goal.returns-in_default
returns-in_default c =
    sym (sym c.loop-at.invariant.whole ∙ ap (option_map (after_pieces c.loop-at.pieces.items)) (no_pieces_at c.args.names.now c.args.words.now c.loop-at.at _ c.loop-at-test.true (sym c.in_ok-piece.ensures.piece ∙ c.in_default.is)))

pub loop-at-preserved : goal.loop-at-preserved
loop-at-preserved c =
    let bounds : (1 ≤ c.in-Some.count) × (c.in-Some.count ≤ 2) = subst (λ o. IfSome o (λ (p : Piece × ℕ). (1 ≤ p.1) × (p.1 ≤ 2))) c.in-Some.is c.in_ok-piece.ensures.count in
    record {
      inside = omega (arith, bounds.1, c.loop-at-test.true);
      whole = rw c.in_ok-push.ensures.items
          (piece_after c.loop-at.pieces.items c.in-Some.piece (pieces_read c.args.names.now (map (λ (w : Bor (List ℕ)). w.now) (drop (c.loop-at.at + c.in-Some.count) c.args.words.now)))
          ∙ sym (ap (option_map (after_pieces c.loop-at.pieces.items)) (pieces_at c.args.names.now c.args.words.now c.loop-at.at _ c.in-Some.piece c.in-Some.count c.loop-at-test.true (sym c.in_ok-piece.ensures.piece ∙ c.in-Some.is)))
          ∙ c.loop-at.invariant.whole);
    }

pub returns-in_default-2 : goal.returns-in_default-2
returns-in_default-2 c =
    let rest : length (drop c.loop-at.at c.args.words.now) ≡ length c.args.words.now - c.loop-at.at = length-drop c.loop-at.at c.args.words.now in
    let short : length c.args.words.now - c.loop-at.at < 2 = elim c.in_default-2.branch [
      | in_default-2-via-then-words-at-lt2 w ↦ grind (arith, nat_tests)
      | in_default-2-via-else-words-at-lt2+else-this-lt3 w ↦ grind (arith, nat_tests)
    ] in
    let few : length (map (λ (w : Bor (List ℕ)). w.now) (drop c.loop-at.at c.args.words.now)) < 2 = rw length-map (omega (arith, rest, short)) in
    sym (sym c.loop-at.invariant.whole ∙ ap (option_map (after_pieces c.loop-at.pieces.items)) (few_pieces c.args.names.now _ few))
