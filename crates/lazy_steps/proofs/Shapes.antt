-- What the shape of an operator tells of its events, its whole number, and of how many bindings it has.
use Rattle.std.proofs.Common.{◌≡◌, ◌<◌, ◌*◌, ℕ, suc, false, List, length, refl, ◌∙◌, ap}
use Rattle.mix_tree.specs.Nodes.{Documents}
use Rattle.plan_core.specs.Plans.{Operator, source, get_descendants, join, over, tuple_destroy}
use Rattle.plan_core.specs.ByNumber.{op_at}
use Rattle.plan_core.specs.Valid.{is_single, is_single_at, shape_single}
use Rattle.plan_core.specs.Typed.{IsTyped}
use Rattle.plan_core.specs.Events.{events}
use Rattle.plan_core.specs.Shapes.{Shape, stage_of, shape_of, shape_at}
use Rattle.plan_core.specs.Fronts.{front}
use Rattle.plan_core.specs.Events.{shape_events}
use Rattle.plan_core.proofs.Numbers.{ReadsInputs, by_number-is, events-of}
use Rattle.plan_core.proofs.Inputs.{is_single-reads}
use Rattle.lazy_binding.specs.World.{World, bound_of}
use Rattle.lazy_binding.specs.Cursors.{stage_size, shape_size, size}
use Rattle.lazy_steps.specs.Steps.{single}

-- sizes read those of the inputs
size-reads : (bound : ℕ) → ReadsInputs (λ o. shape_size bound (shape_of o))
size-reads bound (source s out) a b h = refl
size-reads bound (get_descendants i start path out) a b h = ap (λ (x : ℕ). x * suc (suc bound)) h.0
size-reads bound (join l r tests) a b h = ap (λ (x : ℕ). x * suc (a r)) h.0 ∙ ap (λ (x : ℕ). b l * suc x) h.1.0
size-reads bound (over i op) a b h = ap (stage_size (stage_of op)) h.0
size-reads bound (tuple_destroy i v) a b h = refl

module _ (ops : List Operator) (typed : IsTyped ops) (n : ℕ) (within : n < length ops) (f : Shape) (e : shape_at ops n ≡ f) where
  -- the events of an operator of this shape, from those of its inputs
  pub events_at : (docs : Documents) → events docs ops n ≡ shape_events docs (front ops) f (events docs ops)
  events_at docs =
      events-of docs ops n (op_at ops n) refl (typed.inputs n within)
      ∙ ap (λ (g : Shape). shape_events docs (front ops) g (events docs ops)) e

  -- the size of operator n, by its shape
  pub size_at : (w : World) → size w ops n ≡ shape_size (bound_of w) f (size w ops)
  unfolding size
  size_at w =
      by_number-is (λ o. shape_size (bound_of w) (shape_of o)) 0 ops n (size-reads (bound_of w)) (typed.inputs n within)
      ∙ ap (λ (g : Shape). shape_size (bound_of w) g (size w ops)) e

  -- whether an operator has a single binding, its shape tells from its inputs
  pub single_at : single ops n ≡ shape_single f (single ops)
  unfolding is_single_at
  single_at =
      by_number-is is_single false ops n is_single-reads (typed.inputs n within)
      ∙ ap (λ (g : Shape). shape_single g (single ops)) e
