-- What the binding of an operator's cursor has of the binding of its input over which it makes a value.
use Rattle.std.proofs.Common.{◌≡◌, ◌<◌, inl, ℕ, true, List, [], ◌∷◌, Some, None, length, refl, ◌∙◌, sym, ap, subst}
use Rattle.std.specs.Prelude.{◌==◌, IsTrue}
use Rattle.mix_tree.specs.Keys.{has_var}
use Rattle.mix_tree.specs.declared.var.Key.{Key}
use Rattle.plan_core.specs.declared.plan.Piece.{Piece}
use Rattle.plan_core.specs.PlanMade.{plan_value}
use Rattle.plan_core.specs.ByNumber.{op_at}
use Rattle.plan_core.specs.Plans.{Operator, over}
use Rattle.plan_core.specs.Shapes.{shape_of}
use Rattle.plan_core.specs.Typed.{IsTyped}
use Rattle.plan_core.specs.Unary.{concatenate, create_element, group_by}
use Rattle.plan_core.specs.Valid.{Kinds, a_node, a_list, kinds, kept, IsFit, IsValid}
use Rattle.plan_core.specs.TolledRows.{TolledRow, tolled_value}
use Rattle.plan_core.proofs.BoundRows.{restrict_value}
use Rattle.plan_core.proofs.Groups.{group_kinds, fit_group}
use Rattle.plan_forms.specs.Forms.{input_at, input_of, keys_of}
use Rattle.lazy_plan.specs.Bench.{BenchState, ops_of, documents, told, events_of, binding_at, ahead_at, IsCursor, IsUnder, StandsFirst}
use Rattle.lazy_binding.specs.Cursors.{IsFirstBy}
use Rattle.lazy_binding.specs.declared.position.Position.{Position}
use Rattle.lazy_site.specs.Origins.{HasGroup, HasKeysOf}
use Rattle.lazy_site.specs.Ways.{IsBelow}
use Rattle.lazy_site.proofs.Along.{below_here, below_on}
use Rattle.lazy_site.proofs.Making.{cond_true, by_keys, made_by}
use Rattle.lazy_site.proofs.Numbering.{inputs_below, kind_of}
use Rattle.lazy_site.proofs.Passing.{cond_false, other_out, all_list, all_element}

module _ (st : BenchState) (valid : IsValid (plan_value st.plan)) (typed : IsTyped (ops_of st)) (n : ℕ) (within : n < length (ops_of st)) (c : Position) (h : IsCursor st n c) where
  -- what an operator makes a list of is all in its own binding
  pub list_matter : (i : ℕ) (pieces : List Piece) (out : ℕ) (d : Position) → over i (concatenate pieces out) ≡ op_at (ops_of st) n → IsUnder st n c i d → IsBelow st n c i d
  list_matter i pieces out d e u =
      below_on st n n i c c d (below_here st n c h) (inputs_below (ops_of st) typed n within (over i (concatenate pieces out)) e).0 (all_list st.plan valid typed n within i pieces out e) u

  -- what an operator makes an element of is all in its own binding
  pub element_matter : (i : ℕ) (label : List ℕ) (list out : ℕ) (d : Position) → over i (create_element label list out) ≡ op_at (ops_of st) n → IsUnder st n c i d → IsBelow st n c i d
  element_matter i label list out d e u =
      below_on st n n i c c d (below_here st n c h) (inputs_below (ops_of st) typed n within (over i (create_element label list out)) e).0 (all_element st.plan valid typed n within i label list out e) u

  -- the keys of a group are in the groupBy's own binding as in its first member's
  keys_matter : (i : ℕ) (keys : List Key) (piece : Piece) (out : ℕ) (d : Position) → over i (group_by keys piece out) ≡ op_at (ops_of st) n → (keys ≡ [] → ⊥)
      → IsUnder st n c (input_at (ops_of st) n) d → HasKeysOf st n c n d
  keys_matter i [] piece out d e some under v t = absurd (some refl)
  keys_matter i (key ∷ more) piece out d e some under v t =
      let keys : List Key = key ∷ more in
      let o : Operator = over i (group_by keys piece out) in
      let own : has_var keys v ≡ true = ap (λ (p : Operator). has_var (keys_of p) v) e ∙ t in
      let there = (fit_group keys piece out (kinds (ops_of st) i) (subst (λ (p : Operator). IsFit p (kinds (ops_of st))) (sym e) (typed.fit n within))).0 v own in
      let other = other_out st.plan valid typed n within o e i out (inl refl) (inl refl) v a_node there in
      let u = subst (λ (p : Operator). IsUnder st n c (input_of p) d) (sym e) under in
      let row = by_keys st typed n within c v (binding_at st n c) (binding_at st i d) (ahead_at st i d) i keys piece out some (made_by st typed n within c v o d e u) in (
        kind_of (ops_of st) typed n within o e v ∙ ap (λ (g : Kinds). g v) (group_kinds keys piece out (kinds (ops_of st) i)) ∙ cond_false (out == v) (Some a_list) (kept keys (kinds (ops_of st) i) v) other
            ∙ cond_true (has_var keys v) (kinds (ops_of st) i v) None own ∙ there,
        ap (λ (r : TolledRow). tolled_value r v) row ∙ cond_false (out == v) _ _ other ∙ restrict_value keys (binding_at st i d) v own
            ∙ ap (λ (p : Operator). tolled_value (binding_at st (input_of p) d) v) e,
      )

  -- the first member of a group is the first binding with its keys
  first_matter : (i : ℕ) (keys : List Key) (piece : Piece) (out : ℕ) (d : Position) → over i (group_by keys piece out) ≡ op_at (ops_of st) n → (keys ≡ [] → ⊥)
      → IsUnder st n c (input_at (ops_of st) n) d → IsTrue (told st)
      → IsFirstBy (documents st) (keys_of (op_at (ops_of st) n)) (events_of st (input_at (ops_of st) n)) (binding_at st (input_at (ops_of st) n) d) (ahead_at st (input_at (ops_of st) n) d)
  first_matter i [] piece out d e some under y = absurd (some refl)
  first_matter i (key ∷ more) piece out d e some under y =
      subst (λ (p : Operator). IsFirstBy (documents st) (keys_of p) (events_of st (input_of p)) (binding_at st (input_of p) d) (ahead_at st (input_of p) d)) e
      (subst (λ (p : Operator). StandsFirst st (input_of p) (binding_at st (input_of p) d) (ahead_at st (input_of p) d) (shape_of p)) (sym e) (under.first y))

  -- a group is one of the keys of the groupBy's own binding, from its first member on
  pub group_matter : (i : ℕ) (keys : List Key) (piece : Piece) (out : ℕ) (d : Position) → over i (group_by keys piece out) ≡ op_at (ops_of st) n → (keys ≡ [] → ⊥)
      → IsUnder st n c (input_at (ops_of st) n) d → HasGroup st n c n d
  group_matter i keys piece out d e some under = record { keys = keys_matter i keys piece out d e some under; first = first_matter i keys piece out d e some under }
