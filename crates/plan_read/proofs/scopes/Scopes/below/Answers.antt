use Rattle.std.proofs.Common.{◌≡◌, ◌<◌, [], ◌∷◌, IfOk, ℕ, List, sym, subst}
use Rattle.std.specs.List.{AllByRecursion}
use Rattle.plan_core.specs.PlanMade.{op_of}
use Rattle.plan_core.specs.Valid.{inputs_of}
use Rattle.plan_read.specs.Scopes.{IsBelow}
use Rattle.plan_read.proofs.scopes.Scopes.below.Goals as goal

pub returns-in-TwoInputs-clause-below : goal.returns-in-TwoInputs-clause-below
returns-in-TwoInputs-clause-below c = λ count uses of h small.
    (let e : c.in-TwoInputs.left ∷ c.in-TwoInputs.right ∷ [] ≡ inputs_of (op_of c.args.op.now) = c.in-TwoInputs.ensures in
    let s = subst (AllByRecursion (λ (i : ℕ). i < count)) (sym e) small in
    subst (λ (is : List ℕ). IfOk c.take_both.result (IsBelow c.take_both.new.self.slots.items count uses of is)) e (c.take_both.ensures.below count uses of h s.0 s.1.0))
