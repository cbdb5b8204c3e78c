-- Which variables an operator binds, as the code computes it.
use Rattle.std.proofs.Common.{◌≡◌, ◌<◌, ℕ, Bool, true, false, cond, List, Option, Some, None, length, ◌∙◌, sym, ap, subst}
use Rattle.std.specs.Prelude.{is_some}
use Rattle.std.specs.List.{AllByRecursion}
use Rattle.plan_core.specs.Plans.{Operator}
use Rattle.plan_core.specs.ByNumber.{op_at}
use Rattle.plan_core.specs.Typed.{IsTyped}
use Rattle.plan_core.specs.Valid.{Kind, Kinds, kinds, op_kinds, either_kind, inputs_of}
use Rattle.plan_core.proofs.Numbers.{kinds-of}

-- the variable that an operator binds anew is bound
pub bound_out : (b r : Bool) (k : Kind) (z : Option Kind) → r ≡ b → r ≡ true → r ≡ is_some (cond b (Some k) z)
bound_out true r k z e h = h
bound_out false r k z e h = cc

-- a variable other than the one that an operator binds anew is bound where its input binds it
pub bound_other : (b t r : Bool) (k : Kind) (z : Option Kind) → t ≡ b → t ≡ false → r ≡ is_some z → r ≡ is_some (cond b (Some k) z)
bound_other true t r k z e h i = cc
bound_other false t r k z e h i = i

-- an operator without inputs binds its own variable alone
pub bound_only : (b r : Bool) (k : Kind) → r ≡ b → r ≡ is_some (cond b (Some k) None)
bound_only true r k e = e
bound_only false r k e = e

-- a variable of a key is bound where the input binds it
pub bound_key : (b t r : Bool) (z : Option Kind) → t ≡ b → t ≡ true → r ≡ is_some z → r ≡ is_some (cond b z None)
bound_key true t r z e h i = i
bound_key false t r z e h i = cc

-- a variable that is in no key is not bound
pub bound_no_key : (b t : Bool) (z : Option Kind) → t ≡ b → t ≡ false → t ≡ is_some (cond b z None)
bound_no_key true t z e h = cc
bound_no_key false t z e h = h

-- a variable that the left side binds is bound by both sides together
pub bound_left : (r : Bool) (j k : Option Kind) → r ≡ is_some j → r ≡ true → r ≡ is_some (either_kind j k)
bound_left r None k e h = cc
bound_left r (Some j) k e h = e

-- a variable that the left side does not bind is bound by both sides together where the right side binds it
pub bound_right : (l r : Bool) (j k : Option Kind) → l ≡ is_some j → l ≡ false → r ≡ is_some k → r ≡ is_some (either_kind j k)
bound_right l r None k e h i = i
bound_right l r (Some j) k e h i = cc

module _ (ops : List Operator) (typed : IsTyped ops) (n : ℕ) (within : n < length ops) (o : Operator) (e : o ≡ op_at ops n) where
  -- an operator binds a variable exactly where its form says so
  pub bound_at : (v : ℕ) (b : Bool) → b ≡ is_some (op_kinds o (kinds ops) v) → b ≡ is_some (kinds ops n v)
  bound_at v b h = h ∙ sym (ap is_some (ap (λ (k : Kinds). k v) (kinds-of ops n o (sym e) (subst (λ (q : Operator). AllByRecursion (λ i. i < n) (inputs_of q)) (sym e) (typed.inputs n within)))))
