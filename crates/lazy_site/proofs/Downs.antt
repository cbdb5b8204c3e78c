-- The first child of made elements, and of the root.
use Rattle.std.proofs.Common.{◌≡◌, ℕ, List, [], ◌∷◌, Option, Some, None, ◌∙◌, sym, ap, subst, arith}
use Rattle.std.specs.Prelude.{slice_index_or}
use Rattle.mix_base.specs.Events.{Find, finds, found}
use Rattle.lazy_descend.proofs.Searches.{still_told, still_forward}
use Rattle.lxp_core.specs.View.{View}
use Rattle.plan_core.specs.declared.plan.Piece.{Piece}
use Rattle.plan_core.specs.declared.plan.Piece.TheVariants.{Var as var_piece, Text as text_piece}
use Rattle.plan_core.specs.Plans.{Operator}
use Rattle.plan_core.specs.ByNumber.{op_at}
use Rattle.plan_core.specs.Tolled.{Tolled, ends, toll, trees_below}
use Rattle.plan_core.specs.TolledRows.{TolledValue, TolledRow, tolled_value, value_trees, piece_items}
use Rattle.plan_core.specs.Events.{RowEvents, events, first_row, element_alone, tolled_destroyed, tolled_document}
use Rattle.lazy_plan.specs.declared.bench.Bench.{Bench}
use Rattle.lazy_plan.specs.Bench.{BenchState, state_of, ops_of, documents, events_of, size_of, binding_at, AsksNoneOnSingle, IsFirstOf, BenchRan}
use Rattle.lazy_binding.specs.declared.position.Position.{Position}
use Rattle.lazy_plan.proofs.Benches.{keeps_on}
use Rattle.plan_forms.specs.Forms.{input_at, pieces_of, IsLast}
use Rattle.lazy_site.specs.Ids.{element_trees, value_of, IsRest, rest_trees}
use Rattle.lazy_site.specs.Origins.{IsOriginOf}
use Rattle.lazy_site.specs.Steps.{Walked, Reaches, GoesOn}
use Rattle.lazy_site.specs.declared.sites.Origin.{Origin}
use Rattle.lazy_site.specs.declared.sites.Origin.TheVariants.{Element}
use Rattle.lazy_site.specs.declared.sites.Rest.{Rest, End}
use Rattle.lazy_site.specs.declared.sites.Site.{Site}
use Rattle.lazy_site.proofs.Turns.{tells_on, Paid, paid_start, paid_on, paid_at, paid_over}

-- the trees below the element that an operator makes are those of its list's value, with nothing after it
pub element_is : (st : BenchState) (op list input : ℕ) (at : Position) (origin : Origin) (r : Rest) → pieces_of (op_at (ops_of st) op) ≡ var_piece list ∷ [] → input ≡ input_at (ops_of st) op
    → IsOriginOf st input at list origin → r ≡ End → value_trees (documents st) (value_of st origin) (rest_trees st r) ≡ element_trees st op at
element_is st op list input at origin r ps i o e =
    ap (λ (x : Rest). value_trees (documents st) (value_of st origin) (rest_trees st x)) e
    ∙ ap (λ (v : TolledValue). value_trees (documents st) v (ends 0)) (sym o.value)
    ∙ ap (λ (n : ℕ). value_trees (documents st) (tolled_value (binding_at st n at) list) (ends 0)) i
    ∙ sym (ap (λ (qs : List Piece). piece_items (documents st) (slice_index_or qs 0 (text_piece [])) (binding_at st (input_at (ops_of st) op) at) (ends 0)) ps)

-- a rest that is nothing is one of the bench
pub end_rest : (st : BenchState) (r : Rest) → r ≡ End → IsRest st r
end_rest st r e = subst (λ (x : Rest). IsRest st x) (sym e) tt

-- a rest that goes on for some trees goes on for equal ones
pub goes_as : (a : BenchState) (f g : Tolled) (w : ℕ) (r : Rest) → f ≡ g → GoesOn a a f w r → GoesOn a a g w r
goes_as a f g w r e h = subst (λ (x : Tolled). GoesOn a a x w r) e h

-- where a rest goes on for trees in one state, its trees are left of those, and what coming to it cost was paid
pub on_paid : (a : BenchState) (f : Tolled) (w : ℕ) (r : Rest) → GoesOn a a f w r → Paid a a f (rest_trees a r)
on_paid a f w r g = paid_on (paid_start a f) (keeps_on.same a) w r g

-- what is reached of the later trees is reached of all
pub on_reaches : (a b : BenchState) (f g : Tolled) → Paid a a f g → (x : Option Site) → Reaches a b g x → Reaches a b f x
on_reaches a b f g p None h = paid_over p h
on_reaches a b f g p (Some n) h = paid_at p n h

-- the trees below the root are those of the last operator's element
pub root_trees : (a b : BenchState) (input v op : ℕ) (c at : Position) → IsLast (ops_of a) input v → (later : RowEvents) → found (events_of a input) ≡ finds (binding_at b input c) later
    → IsOriginOf b input c v (Element op at) → trees_below (tolled_document (documents a) (ops_of a)) ≡ element_trees b op at
root_trees a b input v op c at h later e o =
    ap (λ (x : Option Operator). trees_below (tolled_destroyed (events (documents a) (ops_of a)) x)) h.last
    ∙ ap (λ (x : Find TolledRow). trees_below (element_alone (tolled_value (first_row x) v))) e
    ∙ ap (λ (x : TolledValue). trees_below (element_alone x)) o.value

-- a walk that reaches the first tree of the last operator's list, after the first binding was found, reaches the root's first child
pub root_walked : {S : Type 0} {view : S → View} {came_from : S → S → Type 0} → ((x y z : S) → came_from x y → came_from y z → came_from x z) → (s t u : S) (b d e : Bench) (input v op : ℕ) (c at : Position) (x : Origin)
    → IsLast (ops_of (state_of (view s) b)) input v → BenchRan view came_from s b t d → AsksNoneOnSingle (state_of (view s) b) (state_of (view t) d) input
    → IsFirstOf (state_of (view s) b) (state_of (view t) d) input (events_of (state_of (view s) b) input) (size_of (state_of (view s) b) input) c
    → x ≡ Element op at → IsOriginOf (state_of (view t) d) input c v x
    → Walked view came_from t d u e (toll (element_trees (state_of (view t) d) op at))
    → Walked view came_from s b u e (toll (trees_below (tolled_document (documents (state_of (view s) b)) (ops_of (state_of (view s) b)))))
root_walked {view = view} after s t u b d e input v op c at x h ran none first z o w = record {
  came = after s t u ran.came w.came;
  bench = w.bench;
  kept = keeps_on.twice (state_of (view s) b) (state_of (view t) d) (state_of (view u) e) ran.kept w.kept;
  asks = λ y f. (
      let q = ap toll (root_trees (state_of (view s) b) (state_of (view t) d) input v op c at h _ (first.found y) (subst (IsOriginOf (state_of (view t) d) input c v) z o)) in
      let i = w.asks (still_told (tells_on ran.kept) y) (still_forward (tells_on ran.kept) f) in
      let n = none h.single in
      omega (arith, q, i, n));
}
