-- Laws of stacks of views.
use Rattle.std.specs.Prelude.{◌≡◌, ◌+◌, ◌*◌, ◌-◌, ◌≤◌, ◌<◌, ℕ, Bool, true, false, cond, nat_lt, IsTrue, List, Option, refl}
use Rattle.std.specs.List.{list_all}
use Rattle.std.proofs.Common.{inl, inr, sym, subst, ap, ◌∙◌, arith}
use Rattle.std.proofs.lemmas.Bool.Decides.{nat_tests}
use Rattle.mix_tree.specs.Forest.{none}
use Rattle.mix_tree.specs.Nodes.{Documents}
use Rattle.lxp_core.specs.View.{View, Keeps, document}
use Rattle.lxp_core.proofs.Views.{keeps_same, keeps_twice}
use Rattle.plan_core.specs.declared.plan.Plan.{Plan}
use Rattle.plan_core.specs.PlanMade.{plan_value}
use Rattle.plan_core.specs.Plans.{Operator}
use Rattle.lazy_binding.specs.World.{reads}
use Rattle.view_stack.specs.declared.layers.Layers.{Layers}
use Rattle.view_stack.specs.Parts.{hole_of}
use Rattle.view_stack.specs.declared.part.Part.TheVariants.{Whole}
use Rattle.view_stack.specs.Stacks.{Stacking, stacking_in, view_of, plans_of, knows}
use Rattle.view_stack.specs.Steps.{documents_of, CostsAtMost, Bounds, AreOpen, AsksEach, CameFrom}

-- each source knows the hole of its whole document
abbrev pub KnowsRoots : View → Type 0
KnowsRoots v = (s : ℕ) → s < v.count → v.knows s (v.root s) ≡ true

module _ (old new : View) (k : Keeps old new) (roots : KnowsRoots old) where
  -- the document of a source that there is stays the same
  within : (s : ℕ) (t : Bool) → nat_lt s old.count ≡ t → cond t (document new s) none ≡ cond t (document old s) none
  within s true e = ap (new.forest s) (k.root s) ∙ k.forest s (old.root s) (roots s (grind (arith, nat_tests, e)))
  within s false e = refl

  -- the documents of sources stay the same
  pub documents_kept : documents_of new ≡ documents_of old
  documents_kept = λ i s. at s i
    where
      at : (s : ℕ) → documents_of new s ≡ documents_of old s
      at s = ap (λ (n : ℕ). cond (nat_lt s n) (document new s) none) k.count ∙ within s (nat_lt s old.count) refl

  -- what bounded the steps of views bounds them still
  pub bounds_kept : (plans : List (Option Plan)) (most : ℕ) → Bounds old plans most → Bounds new plans most
  bounds_kept plans most b = record {
    one = b.one;
    steps = λ i p e. subst (λ (d : Documents). CostsAtMost d (plan_value p).ops most) (sym documents_kept) (b.steps i p e);
  }

  -- the sources that operators read pass a test exactly where they pass one that answers the same
  reads_same : (f g : ℕ → Bool) → ((s : ℕ) → f s ≡ g s) → (ops : List Operator) → list_all (reads f) ops ≡ list_all (reads g) ops
  reads_same f g h ops = ap (λ (t : ℕ → Bool). list_all (reads t) ops) (λ i s. h s i)

  -- the sources that plans name are told and forward where they were
  pub open_kept : (plans : List (Option Plan)) → AreOpen old plans → AreOpen new plans
  open_kept plans o = λ i p e.
      (subst IsTrue (sym (reads_same new.told old.told k.told (plan_value p).ops)) (o i p e).0, subst IsTrue (sym (reads_same new.forward old.forward k.forward (plan_value p).ops)) (o i p e).1)

-- two rises that are each at most so much are at most so much together
fills_twice : (a b c p q r : ℕ) → b + p ≤ a + q → c + q ≤ b + r → c + p ≤ a + r
fills_twice a b c p q r x y = omega (arith, x, y)

-- the fills of the sources below are at most so many for each of the stack where they are to a second state and from there to a third
asks_twice : (a b c : Stacking) (most : ℕ) → b.fills ≤ c.fills → AsksEach a b most → AsksEach b c most → AsksEach a c most
asks_twice a b c most h x (inr y) = inr y
asks_twice a b c most h (inr x) (inl y) = inr (omega (arith, h, x))
asks_twice a b c most h (inl x) (inl y) = inl (fills_twice a.base.fills b.base.fills c.base.fills (most * a.fills) (most * b.fills) (most * c.fills) x y)

module _ {S : Type 0} (view : S → View) (came_from : S → S → Type 0) where
  -- a state of a stack came from itself
  pub came_same : ((a : S) → came_from a a) → (a : Layers S) → CameFrom view came_from a a
  came_same same a = record {
    base = same a.base;
    kept = keeps_same (view_of (stacking_in view a));
    plans = refl;
    lazy = λ most b o. inl (omega arith);
  }

  -- a state of a stack that came from one which came from a third came from that third
  pub came_after : ((a b c : S) → came_from a b → came_from b c → came_from a c) → ((a b : S) → came_from a b → Keeps (view a) (view b))
      → ((a : S) → KnowsRoots (view a)) → (a b c : Layers S) → CameFrom view came_from a b → CameFrom view came_from b c → CameFrom view came_from a c
  came_after after keeps roots a b c x y =
      let k = keeps a.base b.base x.base in
      record {
        base = after a.base b.base c.base x.base y.base;
        kept = keeps_twice (view_of (stacking_in view a)) (view_of (stacking_in view b)) (view_of (stacking_in view c)) x.kept y.kept;
        plans = y.plans ∙ x.plans;
        lazy = λ most bounds opens.
            asks_twice (stacking_in view a) (stacking_in view b) (stacking_in view c) most y.kept.fills (x.lazy most bounds opens)
            (y.lazy most (subst (λ (plans : List (Option Plan)). Bounds (view b.base) plans most) (sym x.plans) (bounds_kept (view a.base) (view b.base) k (roots a.base) (plans_of a.views.items) most bounds))
            (subst (AreOpen (view b.base)) (sym x.plans) (open_kept (view a.base) (view b.base) k (roots a.base) (plans_of a.views.items) opens)));
      }

  -- each source of a stack knows the hole of its whole document
  pub stack_root_known : ((a : S) → KnowsRoots (view a)) → (a : Layers S) → KnowsRoots (view_of (stacking_in view a))
  stack_root_known roots a s h = at (nat_lt s (view a.base).count) refl
    where
      at : (t : Bool) → nat_lt s (view a.base).count ≡ t
          → cond t ((view a.base).knows s) (knows a.served.items (s - (view a.base).count)) (cond t ((view a.base).root s) (hole_of Whole)) ≡ true
      at true e = roots a.base s (grind (arith, nat_tests, e))
      at false e = refl
