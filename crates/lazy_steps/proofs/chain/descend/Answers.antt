use Rattle.std.proofs.Common.{◌≡◌, ◌+◌, ℕ, suc, arith, sym, subst}
use Rattle.lazy_binding.specs.Parts.{operators}
use Rattle.lazy_binding.proofs.Bound.{inputs_at}
use Rattle.plan_core.specs.Shapes.{passes_on}
use Rattle.lazy_steps.specs.Chains.{Descends}
use Rattle.lazy_steps.specs.Steps.{PassesAt}
use Rattle.lazy_steps.proofs.Chains.{descends_more}
use Rattle.lazy_steps.proofs.chain.descend.Goals as goal

pub operators-preserved : goal.operators-preserved
operators-preserved c =
    let passes : PassesAt (operators c.args.walk.fixed.now) c.operators.op c.in-Some.input = rw c.in-Some.is at c.passed_input.ensures in
    let less = (inputs_at (operators c.args.walk.fixed.now) c.requires.fixed.typed c.operators.op c.operators.invariant.op (passes_on c.in-Some.input passes.0) passes.1).0 in
    let more : suc c.operators.levels ≡ c.operators.levels + 1 = omega arith in
    let way = descends_more (operators c.args.walk.fixed.now) c.operators.levels c.args.walk.op c.operators.op c.in-Some.input c.args.from.now.value c.operators.at.now.value c.operators.invariant.way passes in
    record {
      op = (let within = c.operators.invariant.op in omega (arith, less, within));
      few = (let few = c.operators.invariant.few in omega (arith, less, few));
      way =
          subst (λ (k : ℕ). Descends (operators c.args.walk.fixed.now) c.args.walk.op c.args.from.now.value k c.in-Some.input c.part-at.result.now.value) more
          (subst (Descends (operators c.args.walk.fixed.now) c.args.walk.op c.args.from.now.value (suc c.operators.levels) c.in-Some.input) (sym c.part-at.ensures) way);
    }
