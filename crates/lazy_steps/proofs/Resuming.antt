-- Walking on from the last member that was found of a group.
use Rattle.std.proofs.Common.{◌≡◌, ℕ, List, Option, ◌∙◌, subst, sym, ap, arith}
use Rattle.mix_base.specs.Events.{cost, found}
use Rattle.mix_tree.specs.declared.var.Key.{Key}
use Rattle.plan_core.specs.declared.plan.Piece.{Piece}
use Rattle.plan_core.specs.Plans.{Operator}
use Rattle.plan_core.specs.Shapes.{Shape, first_by_keys, shape_at, passes_on}
use Rattle.lazy_binding.specs.declared.position.Position.{Position, First', Seen'}
use Rattle.lazy_binding.specs.Bench.{IsBench}
use Rattle.lazy_binding.specs.Cursors.{stands, weighs, IsIn}
use Rattle.lazy_binding.specs.Growth.{Resumes}
use Rattle.lazy_binding.specs.World.{World}
use Rattle.lazy_steps.specs.Steps.{Moves, Steps}
use Rattle.lazy_steps.specs.declared.step.Step.TheVariants.{On}

module _ (ops : List Operator) (n i : ℕ) (keys : List Key) (group : Option (Piece × ℕ)) (is : shape_at ops n ≡ passes_on i (first_by_keys keys group)) where
  -- the shape of the operator
  abbrev F : Shape
  F = passes_on i (first_by_keys keys group)

  -- from the last member that was found of the group at a position the walk goes on
  pub firsts_resume : (a : World) (bench : IsBench a ops) (c : Position) → IsIn a ops n F c → (d : Position) → Resumes a.walked.reached.items n c d
      → Steps a a ops n F (stands a ops n F c).ahead (weighs a ops n F c) (On d)
  firsts_resume a bench c h d (r, q, x, u, there, at, to) =
      subst (λ (z : Position). Moves a a ops n F (stands a ops n F c).ahead (weighs a ops n F c) z) (sym to)
      (subst (λ (z : Position). Moves a a ops n F (stands a ops n F z).ahead (weighs a ops n F z) (Seen' u r.below.value r.seen)) (sym at)
      (resumed (subst (IsIn a ops n F) at h) (subst (λ (z : Shape). IsIn a ops n z (Seen' u r.below.value r.seen)) is (bench.reached n r there u))))
    where
      resumed : IsIn a ops n F (First' q x r.seen) → IsIn a ops n F (Seen' u r.below.value r.seen)
          → Moves a a ops n F (stands a ops n F (First' q x r.seen)).ahead (weighs a ops n F (First' q x r.seen)) (Seen' u r.below.value r.seen)
      resumed of k = record {
        cursor = k;
        falls = (let z = of.6 in let l = k.5 in omega (arith, z, l));
        found = λ t. ap found (of.9 t) ∙ (k.6 t).found;
        lazy = λ t w. (let e = ap cost (of.9 t) in let l = (k.6 t).costs in omega (arith, e, l));
      }
