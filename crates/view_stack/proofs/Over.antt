-- What a walk over views comes to below.
use Rattle.std.proofs.Common.{◌≡◌, ◌≤◌, ◌+◌, ◌*◌, ◌-◌, ◌^◌, ◌⊎◌, inl, inr, ℕ, Bool, false, Option, Some, ap, ◌∙◌, arith}
use Rattle.std.specs.Prelude.{nat_lt, cond}
use Rattle.std.proofs.Math.Nat.{mul-le-mul_left, mul_comm}
use Rattle.std.proofs.lemmas.Bool.Decides.{nat_tests}
use Rattle.lxp_core.specs.View.{View}
use Rattle.lazy_walk.specs.declared.walk.Walk.{Walk}
use Rattle.view_stack.specs.declared.part.Part.TheVariants.{Whole}
use Rattle.view_stack.specs.Parts.{hole_of}
use Rattle.view_stack.specs.Stacks.{Stacking, view_at, views_of, is_told, tree_alone, forest}
use Rattle.view_stack.specs.Over.{IsView, AsksBelow}

module _ (k : Stacking) (i : ℕ) (m : Walk) (there : view_at k.views i ≡ Some m) where
  -- the number of a view is none of the sources below
  past : nat_lt (k.base.count + i) k.base.count ≡ false
  past = grind (arith, nat_tests)

  -- a view's number without those of the sources below is its number among the views
  number : k.base.count + i - k.base.count ≡ i
  number = omega arith

  -- a view that is mounted gives the document of its plan
  pub view_is : IsView k i m
  view_is = record {
    document_is = λ t e.
        ap (λ (b : Bool). cond b (k.base.forest (k.base.count + i)) ((views_of k).forest (k.base.count + i - k.base.count)) (cond b (k.base.root (k.base.count + i)) (hole_of Whole))) past
        ∙ ap (λ (j : ℕ). forest k.base k.served (view_at k.views j) (hole_of Whole)) number ∙ ap (λ (r : Option Walk). forest k.base k.served r (hole_of Whole)) there ∙ ap tree_alone e;
    told_is =
        ap (λ (b : Bool). cond b (k.base.told (k.base.count + i)) ((views_of k).told (k.base.count + i - k.base.count))) past ∙ ap (λ (j : ℕ). is_told k.base (view_at k.views j)) number
        ∙ ap (is_told k.base) there;
  }

-- the fills of a new stack ask so many below for each, up to the end of the counts
pub asks_below : {S : Type 0} (view : S → View) (came_from : S → S → Type 0) → AsksBelow view came_from
asks_below view came_from old new most asked came bounds opens start few small = at (came.lazy most bounds opens)
  where
    -- more fills cost more
    cost : most * new.fills ≤ most * asked
    cost = mul-le-mul_left most few

    -- where each fill may cost one, so many cost at least as many as they are
    least : asked * 1 ≤ asked * most
    least = mul-le-mul_left asked bounds.one

    -- a product is the same the other way round
    turned : asked * most ≡ most * asked
    turned = mul_comm asked most

    -- what is asked of the stack bounds what is asked below, also where the stack's count stands at its end
    at : ((view new.base).fills + most * old.fills ≤ (view old.base).fills + most * new.fills) ⊎ (2 ^ 64 - 1 ≤ new.fills) → (view new.base).fills ≤ (view old.base).fills + most * asked
    at (inl h) = omega (arith, h, cost)
    at (inr h) = omega (arith, h, few, small, least, turned)
