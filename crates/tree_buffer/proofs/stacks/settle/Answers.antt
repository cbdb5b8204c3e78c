use Rattle.std.proofs.Common.{◌≡◌, ap, ◌∙◌, arith, true, false}
use Rattle.lxp_core.specs.Open.{nil, begins_with_hole}
use Rattle.lxp_core.specs.Plain.{stacked}
use Rattle.lxp_core.proofs.Views.{keeps_twice}
use Rattle.tree_buffer.specs.Fills.{hole_first}
use Rattle.tree_buffer.proofs.Fills.{hole_first-le, refined_again}
use Rattle.tree_buffer.proofs.StackTops.{stacked-hole}
use Rattle.tree_buffer.proofs.stacks.settle.Goals.{In-Some}
use Rattle.tree_buffer.proofs.stacks.settle.Goals as goal

-- a list that began with no hole is not filled
not_filled : (g : _) (c : In-Some g) → begins_with_hole (stacked c.args.stack.now.items nil) ≡ false → ⊥
not_filled g c e =
    let same = (c.loop-hole.invariant.whole e).1 in
    let first : begins_with_hole (stacked c.loop-hole.stack.items nil) ≡ true =
    ap (λ xs. begins_with_hole (stacked xs nil)) c.in-Some.ensures.1 ∙ ap begins_with_hole (stacked-hole c.in-Some.ensures.0 c.in-Some.hole) in
    let not : begins_with_hole (stacked c.loop-hole.stack.items nil) ≡ false = ap (λ xs. begins_with_hole (stacked xs nil)) same ∙ e in
    cc

pub returns-in_err-refill-clause-lazy : goal.returns-in_err-refill-clause-lazy
returns-in_err-refill-clause-lazy g c = λ forward.
    let first : hole_first (stacked c.loop-hole.stack.items nil) ≡ 1 =
    ap (λ xs. hole_first (stacked xs nil)) c.in-Some.ensures.1 ∙ ap hole_first (stacked-hole c.in-Some.ensures.0 c.in-Some.hole) in
    omega (arith, first, c.loop-hole.invariant.settling.lazy forward, c.refill.ensures.at_most_one, hole_first-le (stacked c.args.stack.now.items nil))

pub returns-in_err-refill-clause-whole : goal.returns-in_err-refill-clause-whole
returns-in_err-refill-clause-whole g c = λ e.
    let d = (goal.at.returns-in_err-refill-clause-whole g c).In-Some in
    absurd (not_filled g d e)

pub loop-hole-preserved : goal.loop-hole-preserved
loop-hole-preserved g c =
    let d = (goal.at.loop-hole-preserved g c).In-Some in
    let so_far = c.loop-hole.invariant in
    let now = c.in_ok-refill.ensures in
    record {
      came = g.met.S.Sources.after _ _ _ so_far.came now.came;
      settling = record {
        keeps = keeps_twice _ _ _ so_far.settling.keeps now.keeps;
        refined = refined_again _ _ _ _ _ _ _ so_far.settling.keeps so_far.settling.refined now.refined;
        lazy = λ forward. omega (arith, so_far.settling.lazy forward, now.lazy (so_far.settling.keeps.forward c.args.number ∙ forward));
      };
      whole = λ e. absurd (not_filled g d e);
    }
