-- The map has the lists in the values of the variables that one operator more binds.
use Rattle.std.proofs.Common.{◌≡◌, ◌∙◌, ℕ, suc, List, Option, sym, ap}
use Rattle.std.specs.Prelude.{slice_get}
use Rattle.std.proofs.Math.Path.{fun_ext}
use Rattle.plan_core.specs.declared.plan.Op.{Op}
use Rattle.list_costs.specs.declared.answer_list.AnswerList.{AnswerList}
use Rattle.list_costs.specs.declared.nested.NestedLists.{NestedLists}
use Rattle.list_costs.specs.Lists.{bound_lists, lists_below, lists_in, lists_with}

-- with what an operator binds, the map has the lists by one operator more
pub lists_more : (ops : List Op) (n : ℕ) (op : Option Op) (old new : NestedLists) → slice_get ops n ≡ op → ((v : ℕ) → lists_in old v ≡ lists_below ops n v)
    → ((v : ℕ) → lists_in new v ≡ lists_with (bound_lists n (lists_in old) op) (lists_in old) v) → (v : ℕ) → lists_in new v ≡ lists_below ops (suc n) v
lists_more ops n op old new e are h v =
    let same : lists_in old ≡ lists_below ops n = fun_ext are in
    h v
    ∙ ap (λ (of : ℕ → List AnswerList). lists_with (bound_lists n of op) of v) same
    ∙ ap (λ (o : Option Op). lists_with (bound_lists n (lists_below ops n) o) (lists_below ops n) v) (sym e)
