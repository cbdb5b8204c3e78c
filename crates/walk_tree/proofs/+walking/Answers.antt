use Rattle.std.proofs.Common.{rules, ◌≡◌, ◌+◌, ◌<◌, ◌++◌, ◌∷◌, [], length, ap, sym, ◌∙◌, arith, append_assoc}
use Rattle.std.proofs.lemmas.List.{length_push}
use Rattle.std.proofs.lemmas.Result.{on_ok_weaker}
use Rattle.mix_tree.specs.Place.{trees_at}
use Rattle.lxp_core.specs.Causes.{HasCause}
use Rattle.lxp_core.specs.View.{Keeps}
use Rattle.lxp_core.proofs.Causes.{cause_since}
use Rattle.tree_buffer.specs.Document.{document_node}
use Rattle.tree_buffer.specs.Buffer.{IsSpot, IsSourceOf, IsNextSpot, number_of, place_of, label_of, below, after}
use Rattle.walk_tree.specs.Walk.{first_labels, labels_from, left}
use Rattle.walk_tree.proofs.Steps.{left_le, if_some_weaker, labels_down, labels_right}
use Rattle.walk_tree.proofs.+walking.Goals as goal

pub walk-returns-clause-ran : goal.walk-returns-clause-ran
walk-returns-clause-ran g t c = c.two_calls_run.ensures _ _ _ _ _ _ c.down.ensures.ran c.walk_from.ensures.ran

pub walk-returns-clause-labels : goal.walk-returns-clause-labels
walk-returns-clause-labels g t c =
    on_ok_weaker c.walk_from.result (λ rest told.
    let v = g.S.Sources.view c.args.s.now in
    let b = c.args.b.now in
    let x = c.args.p.now in
    let goes = c.down.ensures.ran.goes in
    let label : c.in_ok-label.label ≡ label_of c.args.b.now c.args.p.now = c.in_ok-label.ensures ∙ c.label.ensures in
    let pushed : c.push.new.self.items ≡ c.args.out.now.items ++ label_of c.args.b.now c.args.p.now ∷ [] =
    c.in_ok-push.ensures.items ∙ ap (λ l. c.args.out.now.items ++ l ∷ []) label in
    let all = labels_down v (g.S.Sources.view c.down.new.s) b c.down.new.self x c.requires.sources goes c.requires.spot told
    c.in_ok-first.first (c.in_ok-first.ensures.trees told) in
    let beyond = labels_from (g.S.Sources.view c.down.new.s) c.down.new.self c.in_ok-first.first in
    rest (goes.told ∙ told) ∙ ap (λ xs. xs ++ beyond) pushed
    ∙ append_assoc c.args.out.now.items (label_of b x ∷ []) beyond ∙ ap (λ ls. c.args.out.now.items ++ ls) (sym all)) c.walk_from.ensures.labels

pub walk-returns-clause-steps : goal.walk-returns-clause-steps
walk-returns-clause-steps g t c =
    on_ok_weaker c.walk_from.result (λ _ forward.
    let goes = c.down.ensures.ran.goes in
    let pushed : length c.push.new.self.items ≡ length c.args.out.now.items + 1 = ap length c.in_ok-push.ensures.items ∙ length_push c.args.out.now.items c.in_ok-label.label in
    omega (arith, pushed, c.down.ensures.lazy forward, c.walk_from.ensures.lazy (goes.forward ∙ forward))) c.walk_from.ensures.labels

pub walk-returns-clause-lazy : goal.walk-returns-clause-lazy
walk-returns-clause-lazy g t c = λ forward.
    let goes = c.down.ensures.ran.goes in
    let pushed : length c.push.new.self.items ≡ length c.args.out.now.items + 1 = ap length c.in_ok-push.ensures.items ∙ length_push c.args.out.now.items c.in_ok-label.label in
    omega (arith, pushed, c.down.ensures.lazy forward, c.walk_from.ensures.lazy (goes.forward ∙ forward))

pub walk-returns-clause-cause : goal.walk-returns-clause-cause
walk-returns-clause-cause g t c =
    let goes = c.down.ensures.ran.goes in
    let keeps : Keeps (g.S.Sources.view c.args.s.now) (g.S.Sources.view c.down.new.s) = g.met.S.Sources.keeps _ _ c.down.ensures.ran.came in
    cause_since (IsSourceOf c.down.new.self) (IsSourceOf c.args.b.now) (g.S.Sources.view c.args.s.now) (g.S.Sources.view c.down.new.s) (g.S.Sources.view c.walk_from.new.s)
    (λ n e. e ∙ goes.number) keeps.faults c.walk_from.result c.walk_from.ensures.cause

pub walk_from-returns-in_err-walk-clause-ran : goal.walk_from-returns-in_err-walk-clause-ran
walk_from-returns-in_err-walk-clause-ran g t c = c.two_calls_run.ensures _ _ _ _ _ _ c.loop-at.invariant.ran c.walk.ensures.ran

pub walk_from-returns-in_err-at-clause-ran : goal.walk_from-returns-in_err-at-clause-ran
walk_from-returns-in_err-at-clause-ran g t c =
    c.two_calls_run.ensures _ _ _ _ _ _ (c.two_calls_run.ensures _ _ _ _ _ _ c.loop-at.invariant.ran c.walk.ensures.ran) c.right.ensures.ran

pub walk_from-returns-in_err-at-clause-lazy : goal.walk_from-returns-in_err-at-clause-lazy
walk_from-returns-in_err-at-clause-lazy g t c = λ forward.
    let before = c.loop-at.invariant.ran in
    let both = c.two_calls_run.ensures _ _ _ _ _ _ before c.walk.ensures.ran in
    omega (
      arith,
      c.loop-at.invariant.lazy forward,
      c.in_ok-walk.ensures.steps (before.goes.forward ∙ forward),
      c.right.ensures.lazy (both.goes.forward ∙ forward),
    )

pub walk_from-returns-in_err-walk-clause-cause : goal.walk_from-returns-in_err-walk-clause-cause
walk_from-returns-in_err-walk-clause-cause g t c =
    let so_far = c.loop-at.invariant.ran in
    let keeps : Keeps (g.S.Sources.view c.args.s.now) (g.S.Sources.view c.loop-at.s) = g.met.S.Sources.keeps _ _ so_far.came in
    let cause : HasCause (IsSourceOf c.loop-at.b) (g.S.Sources.view c.loop-at.s) (g.S.Sources.view c.walk.new.s) c.from_residual.result = search rules in
    cause_since (IsSourceOf c.loop-at.b) (IsSourceOf c.args.b.now) (g.S.Sources.view c.args.s.now) (g.S.Sources.view c.loop-at.s) (g.S.Sources.view c.walk.new.s)
    (λ n e. e ∙ so_far.goes.number) keeps.faults c.from_residual.result cause

pub walk_from-returns-in_err-at-clause-cause : goal.walk_from-returns-in_err-at-clause-cause
walk_from-returns-in_err-at-clause-cause g t c =
    let both = c.two_calls_run.ensures _ _ _ _ _ _ c.loop-at.invariant.ran c.walk.ensures.ran in
    let keeps : Keeps (g.S.Sources.view c.args.s.now) (g.S.Sources.view c.walk.new.s) = g.met.S.Sources.keeps _ _ both.came in
    let cause : HasCause (IsSourceOf c.walk.new.b) (g.S.Sources.view c.walk.new.s) (g.S.Sources.view c.right.new.s) c.from_residual-in_err-at.result = search rules in
    cause_since (IsSourceOf c.walk.new.b) (IsSourceOf c.args.b.now) (g.S.Sources.view c.args.s.now) (g.S.Sources.view c.walk.new.s) (g.S.Sources.view c.right.new.s)
    (λ n e. e ∙ both.goes.number) keeps.faults c.from_residual-in_err-at.result cause

pub walk_from-loop-at-smaller : goal.walk_from-loop-at-smaller
walk_from-loop-at-smaller g t c =
    let spot : IsSpot c.loop-at.b c.in-Some.spot = rw c.in-Some.is at c.loop-at.invariant.spot in
    let next = left_le (g.S.Sources.view c.right.new.s) c.right.new.self c.in_ok-at.at _ c.in_ok-at.ensures.smaller in
    let fewer : left (g.S.Sources.view c.right.new.s) c.right.new.self c.in_ok-at.at < left (g.S.Sources.view c.loop-at.s) c.loop-at.b c.loop-at.at =
    rw c.in-Some.is (omega (arith, next, c.walk.ensures.ran.goes.after c.in-Some.spot spot)) in
    search rules

pub walk_from-loop-at-preserved : goal.walk_from-loop-at-preserved
walk_from-loop-at-preserved g t c =
    let v = g.S.Sources.view c.loop-at.s in
    let w = g.S.Sources.view c.walk.new.s in
    let u = g.S.Sources.view c.right.new.s in
    let b = c.loop-at.b in
    let x = c.in-Some.spot in
    let r = c.in_ok-at.at in
    let so_far = c.loop-at.invariant in
    let both = c.two_calls_run.ensures _ _ _ _ _ _ so_far.ran c.walk.ensures.ran in
    let spot : IsSpot c.loop-at.b c.in-Some.spot = rw c.in-Some.is at so_far.spot in
    let next = left_le u c.right.new.self r _ c.in_ok-at.ensures.smaller in
    let beyond = c.walk.ensures.ran.goes.after x spot in
    let here : left (g.S.Sources.view c.loop-at.s) c.loop-at.b c.loop-at.at ≡ 1 + below (g.S.Sources.view c.loop-at.s) c.loop-at.b c.in-Some.spot + after (g.S.Sources.view c.loop-at.s) c.loop-at.b c.in-Some.spot =
    ap (left (g.S.Sources.view c.loop-at.s) c.loop-at.b) c.in-Some.is in
    record {
      ran = c.two_calls_run.ensures _ _ _ _ _ _ both c.right.ensures.ran;
      spot = if_some_weaker r (IsNextSpot c.right.new.self x) (IsSpot c.right.new.self) (λ y h. h.spot) c.in_ok-at.ensures.next;
      less = omega (arith, next, beyond, here, so_far.less);
      few = omega (arith, next, beyond, here, so_far.few, c.walk.ensures.few);
      labels = λ told.
          let told_here = so_far.ran.goes.told ∙ told in
          let told_walk = both.goes.told ∙ told in
          let first = first_labels (trees_at (document_node v (number_of b)) (place_of b x)) in
          let all = labels_right v w u b c.walk.new.b c.right.new.self x so_far.ran.sources c.walk.ensures.ran.goes c.right.ensures.ran.goes spot told_here
          r (c.in_ok-at.ensures.trees told_walk) in
          ap (λ xs. xs ++ labels_from u c.right.new.self r) (c.in_ok-walk.ensures.labels told_here)
          ∙ append_assoc c.loop-at.out.items first (labels_from u c.right.new.self r)
          ∙ ap (λ ls. c.loop-at.out.items ++ ls) (sym all)
          ∙ ap (λ a. c.loop-at.out.items ++ labels_from v b a) (sym c.in-Some.is)
          ∙ so_far.labels told;
      lazy = λ forward.
          omega (
            arith,
            so_far.lazy forward,
            c.in_ok-walk.ensures.steps (so_far.ran.goes.forward ∙ forward),
            c.right.ensures.lazy (both.goes.forward ∙ forward),
          );
    }
