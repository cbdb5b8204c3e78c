-- The documents of the sources below and of views are documents of the stack.
use Rattle.std.proofs.Common.{◌≡◌, ◌<◌, ◌-◌, ℕ, true, false, ap, sym, ◌∙◌, arith}
use Rattle.std.specs.Prelude.{nat_lt}
use Rattle.std.proofs.lemmas.Bool.Decides.{nat_tests}
use Rattle.lxp_core.specs.Fill.{source_of}
use Rattle.lxp_core.specs.View.{View}
use Rattle.view_stack.specs.declared.layers.Layers.{Layers}
use Rattle.view_stack.specs.Stacks.{stacking_in, view_of, views_of}
use Rattle.view_stack.proofs.Beside.{source_first, source_second}

module _ {S : Type 0} (view : S → View) (l : Layers S) (s : ℕ) where
  -- a source below has its document in the stack
  pub base_source : s < (view l.base).count → source_of (view_of (stacking_in view l)) s ≡ source_of (view l.base) s
  base_source within =
      let e : nat_lt s (view l.base).count ≡ true = grind (arith, nat_tests, within) in
      source_first (view l.base) (views_of (stacking_in view l)) s e

  -- a view has its document in the stack, where so many sources stand below it
  pub view_source : (count : ℕ) → count ≡ (view l.base).count → (s < count → ⊥) → source_of (view_of (stacking_in view l)) s ≡ source_of (views_of (stacking_in view l)) (s - count)
  view_source count is past =
      let e : nat_lt s (view l.base).count ≡ false = grind (arith, nat_tests, past, is) in
      source_second (view l.base) (views_of (stacking_in view l)) s e ∙ ap (λ (n : ℕ). source_of (views_of (stacking_in view l)) (s - n)) (sym is)
