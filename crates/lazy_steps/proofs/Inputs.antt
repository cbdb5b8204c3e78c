-- The input of an operator steps where the operator does.
use Rattle.std.proofs.Common.{◌≡◌, ℕ, sym, subst, arith}
use Rattle.lxp_core.specs.View.{View}
use Rattle.plan_core.specs.Shapes.{Shape}
use Rattle.lazy_binding.specs.declared.parts.Fixed.{Fixed}
use Rattle.lazy_binding.specs.declared.parts.Growing.{Growing}
use Rattle.lazy_binding.specs.declared.position.Position.{Position}
use Rattle.lazy_binding.specs.Cursors.{IsOf}
use Rattle.lazy_binding.specs.Parts.{operators, world_of}
use Rattle.lazy_binding.specs.Reading.{below}
use Rattle.lazy_steps.specs.Steps.{CanStep}
use Rattle.lazy_steps.proofs.Goes.{IsOver}

-- a position that stands over one of the input: the input can step from there
pub over_can : {v : View} {g : Growing} {p : Fixed} {n i : ℕ} {f : Shape} {c : Position} → CanStep v g p n c → IsOver (operators p) n i f (world_of v g) c → (x : Position) → x ≡ below c → CanStep v g p i x
over_can {v} {g} {p} {n} {i} {f} {c} can over x e = record {
  fixed = can.fixed;
  op = (let less = over.less in let op = can.op in omega (arith, less, op));
  bench = can.bench;
  cursor = subst (λ (z : Position). IsOf (world_of v g) (operators p) i z) (sym e) over.input;
}
