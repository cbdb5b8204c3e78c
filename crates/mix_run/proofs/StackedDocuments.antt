-- The documents of a stack of views over sources that tell those of others.
use Rattle.std.proofs.Common.{◌≡◌, ◌∙◌, ◌-◌, ◌≤◌, inl, inr, ℕ, Bool, true, false, cond, nat_lt, List, Option, Some, None, refl, ap, sym, arith, length}
use Rattle.std.proofs.Math.Path.{fun_ext}
use Rattle.std.proofs.lemmas.Bool.{cases_lt}
use Rattle.std.proofs.lemmas.Bool.Decides.{nat_tests}
use Rattle.std.proofs.lemmas.List.{get_or_past}
use Rattle.mix_tree.specs.Forest.{Forest, none}
use Rattle.mix_tree.specs.Nodes.{Documents}
use Rattle.lxp_core.specs.View.{document as given}
use Rattle.mix_reach.specs.Reach.{Reaching, view_of as reached}
use Rattle.mix_reach.specs.Stores.{stores_of}
use Rattle.mix_place.specs.Views.{lower_at, lower_of}
use Rattle.plan_core.specs.declared.plan.Plan.{Plan}
use Rattle.plan_core.specs.PlanMade.{plan_value}
use Rattle.plan_core.specs.Plans.{Operator, document}
use Rattle.plan_core.specs.Events.{visited}
use Rattle.lazy_walk.specs.declared.walk.Walk.{Walk}
use Rattle.lazy_walk.specs.Walks.{plan_of}
use Rattle.view_stack.specs.Stacks.{Stacking, forest, plans_of, tree_alone, view_at, view_of}
use Rattle.view_stack.specs.Parts.{hole_of}
use Rattle.view_stack.specs.declared.part.Part.TheVariants.{Whole}
use Rattle.view_stack.specs.Steps.{documents_of as given_documents}
use Rattle.mix_run.specs.Running.{all_documents, documents_of, lower_document, placed_of}
use Rattle.mix_run.proofs.Answering.{documents_told}
use Rattle.mix_run.proofs.Places.{less_is, more_is}
use Rattle.lxp_remote.specs.Remotes.{Tells}
use Rattle.mix_run.proofs.StackedViews.{lower_is, walk_ops}

module _ (a : Reaching) (k : Stacking) (tells : Tells k.base (reached a)) where
  -- the plans of the views
  abbrev views : List (Option Plan)
  views = plans_of k.views

  -- the operators of the views
  abbrev lower : List (Option (List Operator))
  lower = lower_of views

  -- the documents of the sources that are no views
  abbrev D : Documents
  D = documents_of (stores_of a) (placed_of a views)

  -- the documents below are those of the sources that are no views
  pub documents_below : given_documents k.base ≡ D
  documents_below = fun_ext (λ s. documents_told k.base a views tells s)

  -- the document of a view over the sources below
  abbrev by_view : Option Walk → Forest
  by_view None = none
  by_view (Some m) = tree_alone (document (visited (given_documents k.base)) (plan_value (plan_of m)).ops)

  -- the document of a view of the stack is that of its plan over the sources below
  view_is : (r : Option Walk) → forest k.base k.served r (hole_of Whole) ≡ by_view r
  view_is None = refl
  view_is (Some m) = refl

  -- the document of a view over the sources below is that of its operators over the sources that are no views
  by_lower : (r : Option Walk) → by_view r ≡ lower_document D (walk_ops r)
  by_lower None = refl
  by_lower (Some m) = ap (λ (d : Documents). tree_alone (document (visited d) (plan_value (plan_of m)).ops)) documents_below

  -- of no view there is no document, whatever is tested
  or_none : (r : Option Walk) (t : Bool) → (t ≡ false → r ≡ None) → cond t (by_view r) none ≡ by_view r
  or_none r true h = refl
  or_none r false h = ap by_view (sym (h refl))

  -- the stack has the documents of all sources
  pub documents_all : (s : ℕ) → cond (nat_lt s (view_of k).count) (given (view_of k) s) none ≡ all_documents (stores_of a) (placed_of a views) s
  documents_all s =
      elim (cases_lt s k.base.count) as (λ _. cond (nat_lt s (view_of k).count) (given (view_of k) s) none ≡ all_documents (stores_of a) (placed_of a views) s) [
        | inl low ↦ (
            let c = tells.count in
            let test = less_is s k.base.count low in
            let one : nat_lt s (view_of k).count ≡ true = less_is s (view_of k).count (omega (arith, low)) in
            let other : nat_lt s (length a.mounted.docs) ≡ true = less_is s (length a.mounted.docs) (omega (arith, low, c)) in
            ap (λ t. cond t (given (view_of k) s) none) one
            ∙ ap (λ t. cond t (k.base.forest s) (forest k.base k.served (view_at k.views (s - k.base.count))) (cond t (k.base.root s) (hole_of Whole))) test
            ∙ sym (ap (λ t. cond t (given k.base s) none) test)
            ∙ documents_told k.base a views tells s
            ∙ sym (ap (λ t. cond t (D s) (lower_document D (lower_at lower (s - length a.mounted.docs)))) other)
            )
        | inr high ↦ (
            let c = tells.count in
            let i : ℕ = s - k.base.count in
            let test = more_is s k.base.count high in
            let other : nat_lt s (length a.mounted.docs) ≡ false = more_is s (length a.mounted.docs) (omega (arith, high, c)) in
            let r = view_at k.views i in
            ap (λ t. cond (nat_lt s (view_of k).count) (cond t (k.base.forest s) (forest k.base k.served r) (cond t (k.base.root s) (hole_of Whole))) none) test
            ∙ ap (λ f. cond (nat_lt s (view_of k).count) f none) (view_is r)
            ∙ or_none r (nat_lt s (view_of k).count) (past s high)
            ∙ by_lower r
            ∙ ap (lower_document D) (sym (lower_is k.views i))
            ∙ ap (λ n. lower_document D (lower_at lower (s - n))) c
            ∙ sym (ap (λ t. cond t (D s) (lower_document D (lower_at lower (s - length a.mounted.docs)))) other)
            )
      ]
    where
      past : (s : ℕ) → k.base.count ≤ s → nat_lt s (view_of k).count ≡ false → view_at k.views (s - k.base.count) ≡ None
      past s high unset = get_or_past k.views (s - k.base.count) None (grind (arith, nat_tests, unset, high))
