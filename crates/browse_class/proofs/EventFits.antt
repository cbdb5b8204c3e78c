-- What operators make of events, as profiles see it.
use Rattle.std.proofs.Common.{◌≡◌, ℕ, suc, ◌+◌, true, false, cond, List, [], ◌∷◌, ◌++◌, refl, sym, ap, subst, ◌∙◌, arith}
use Rattle.std.specs.Prelude.{Bool}
use Rattle.mix_base.specs.Events.{Event, skip, bind}
use Rattle.mix_tree.specs.Nodes.{Documents, Node}
use Rattle.mix_tree.specs.declared.var.Key.{Key}
use Rattle.plan_core.specs.Events.{RowEvents, expand, each_row, only, nodes_found, distinct}
use Rattle.plan_core.specs.TolledRows.{TolledRow, KeyValue, key_values, is_seen}
use Rattle.browse_profile.specs.declared.profile.Profile.{Profile}
use Rattle.browse_profile.specs.declared.profile.Most.{Most}
use Rattle.browse_profile.specs.declared.profile.Most.TheVariants.{Never, Once, Many}
use Rattle.browse_profile.specs.Bounds.{Within, sum}
use Rattle.browse_profile.specs.Costs.{Costs, ends, stop, more, followed, costs_of, total}
use Rattle.browse_profile.specs.Fits.{FourFit, Fits, After}
use Rattle.browse_profile.specs.Profiles.{may, many, unbounded, passed_once, passed_by, passed, first_kept}
use Rattle.browse_profile.specs.Replacing.{IsReplaced}
use Rattle.plan_core.specs.Beside.{EachBinding}
use Rattle.browse_profile.proofs.Bounding.{within_left, within_right, within_sum}
use Rattle.browse_profile.proofs.Following.{more-zero, more-more, costs-append}
use Rattle.browse_profile.proofs.Totals.{total-more}
use Rattle.browse_profile.proofs.Repeating.{fits_unbounded, four_with_all}

-- nodes found cost what the visit costs
pub costs-nodes : (out : ℕ) (start : Node) (row : TolledRow) (es : List (Event (List ℕ))) → costs_of (nodes_found out start row es) ≡ costs_of es
costs-nodes out start row [] = refl
costs-nodes out start row (skip ∷ es) = ap (more 1) (costs-nodes out start row es)
costs-nodes out start row (bind p ∷ es) = ap (stop 1) (costs-nodes out start row es)

-- bindings made anew cost what the bindings cost
pub costs-each_row : (f : TolledRow → TolledRow) (es : RowEvents) → costs_of (each_row f es) ≡ costs_of es
costs-each_row f [] = refl
costs-each_row f (skip ∷ es) = ap (more 1) (costs-each_row f es)
costs-each_row f (bind row ∷ es) = ap (stop 1) (costs-each_row f es)

-- where each stop is replaced, it is so with a further cost before both lists
pub more_replaced : (Q : Costs → Type 0) (n : ℕ) (c d : Costs) → IsReplaced Q c d → IsReplaced Q (more n c) (more n d)
more_replaced Q n (ends t) d r = ap (more n) r
more_replaced Q n (stop t c) d (u, e, r, same, f, next, is) =
    let s : n + t ≡ suc (n + u) = omega (arith, same) in
    (n + u, e, r, s, f, next, ap (more n) is ∙ more-more n u (followed e r))

-- each binding replaced by a skip and the events that it gives
pub expand_replaced : (Q : Costs → Type 0) (f : TolledRow → RowEvents) (es : RowEvents) → EachBinding (λ row. Q (costs_of (skip ∷ f row))) es → IsReplaced Q (costs_of es) (costs_of (expand f es))
expand_replaced Q f [] h = refl
expand_replaced Q f (skip ∷ es) h = more_replaced Q 1 (costs_of es) (costs_of (expand f es)) (expand_replaced Q f es h)
expand_replaced Q f (bind row ∷ es) h = (
  0,
  costs_of (skip ∷ f row),
  costs_of (expand f es),
  refl,
  h.0,
  expand_replaced Q f es h.1,
  costs-append (skip ∷ f row) (expand f es) ∙ sym (more-zero (followed (costs_of (skip ∷ f row)) (costs_of (expand f es)))),
)

-- a list has no stop
abbrev pub HasNone : Costs → Type 0
HasNone (ends t) = Unit {0}
HasNone (stop t c) = ⊥

-- a list that has no stop after a further cost has none
pub none_more : (n : ℕ) (c : Costs) → HasNone (more n c) → HasNone c
none_more n (ends t) h = tt
none_more n (stop t c) h = h

-- events whose costs have no stop have no binding, whatever is said of each
pub no_bindings : (Q : TolledRow → Type 0) (es : RowEvents) → HasNone (costs_of es) → EachBinding Q es
no_bindings Q [] h = tt
no_bindings Q (skip ∷ es) h = no_bindings Q es (none_more 1 (costs_of es) h)
no_bindings Q (bind row ∷ es) h = absurd h

-- after the only stop that a profile allows there is none
pub none_after : (i : Profile) → many i.most ≡ false → (c : Costs) → After i c → HasNone c
none_after i o (ends t) h = tt
none_after i o (stop t c) h = (let e : true ≡ false = sym h.1 ∙ o in cc)

-- a list of a profile that never has a stop has none
pub none_never : (i : Profile) → may i.most ≡ false → (c : Costs) → FourFit i c → HasNone c
none_never i o (ends t) h = tt
none_never i o (stop t c) h = (let e : true ≡ false = sym h.1 ∙ o in cc)

-- nothing is passed over where there is no binding
pub costs-only_none : (test : TolledRow → Bool) (es : RowEvents) → HasNone (costs_of es) → costs_of (only test es) ≡ costs_of es
costs-only_none test [] h = refl
costs-only_none test (skip ∷ es) h = ap (more 1) (costs-only_none test es (none_more 1 (costs_of es) h))
costs-only_none test (bind row ∷ es) h = absurd h

module _ (i : Profile) (test : TolledRow → Bool) where
  -- after the only stop, which a test keeps or passes over, a list is as the profile of a stop that may be passed over says
  dropped : (once : many i.most ≡ false) (n : ℕ) (c : Costs) → Within (n + 1) i.lead → may i.most ≡ true → After i c → (b : Bool) → FourFit (passed_once i) (more n (cond b (stop 1 c) (more 1 c)))
  dropped once n c w m h true = (w, m, h_passed c h)
    where
      h_passed : (c : Costs) → After i c → After (passed_once i) c
      h_passed (ends t) h = h
      h_passed (stop t c) h = (h.0, h.1, h_passed c h.2)
  dropped once n (ends t) w m h false =
      let e : n + 1 + t ≡ n + (1 + t) = omega arith in
      (subst (λ (z : ℕ). Within z (passed_once i).none) e (within_right i.none (sum i.lead i.trail) (n + 1 + t) (within_sum i.lead i.trail (n + 1) t w h)), refl)
  dropped once n (stop t c) w m h false = absurd (let e : true ≡ false = sym h.1 ∙ once in let f : ⊥ = cc in f)

  -- events of one binding at most, which a test may pass over, are as the profile of a stop that may be passed over says
  only_once : many i.most ≡ false → (n : ℕ) (es : RowEvents) → FourFit i (more n (costs_of es)) → FourFit (passed_once i) (more n (costs_of (only test es)))
  only_once once n [] h = (within_left i.none (sum i.lead i.trail) (n + 0) h.0, refl)
  only_once once n (skip ∷ es) h =
      subst (FourFit (passed_once i)) (sym (more-more n 1 (costs_of (only test es))))
      (only_once once (n + 1) es (subst (FourFit i) (more-more n 1 (costs_of es)) h))
  only_once once n (bind row ∷ es) h =
      let same : costs_of (only test es) ≡ costs_of es = costs-only_none test es (none_after i once (costs_of es) h.2) in
      let there = dropped once n (costs_of es) h.0 h.1 h.2 (test row) in
      elim (test row) as (λ b. FourFit (passed_once i) (more n (cond b (stop 1 (costs_of es)) (more 1 (costs_of es)))) → FourFit (passed_once i) (more n (costs_of (cond b (bind row) skip ∷ only test es)))) [
        | true ↦ λ z. subst (λ (c : Costs). FourFit (passed_once i) (more n (stop 1 c))) (sym same) z
        | false ↦ λ z. subst (λ (c : Costs). FourFit (passed_once i) (more n (more 1 c))) (sym same) z
      ] there

-- events that a test may pass over are as the profile says, by how many stops there can be
only_by : (m : Most) (i : Profile) (test : TolledRow → Bool) → i.most ≡ m → (es : RowEvents) → FourFit i (costs_of es) → FourFit (passed_by m i) (costs_of (only test es))
only_by Never i test e es h = subst (FourFit i) (sym (costs-only_none test es (none_never i (ap may e) (costs_of es) h))) h
only_by Once i test e es h =
    subst (FourFit (passed_once i)) (more-zero (costs_of (only test es)))
    (only_once i test (ap many e) 0 es (subst (FourFit i) (sym (more-zero (costs_of es))) h))
only_by Many i test e es h = four_with_all i.all unbounded (costs_of (only test es)) (fits_unbounded (costs_of (only test es)))

-- events of which a test passes bindings over are as the profile of stops that may be passed over says
four_only : (i : Profile) (test : TolledRow → Bool) (es : RowEvents) → FourFit i (costs_of es) → FourFit (passed i) (costs_of (only test es))
four_only i test es h = only_by i.most i test refl es h

-- a profile of several stops, and bindings of which those but the first are passed over where their keys were seen
module _ (i : Profile) (some : many i.most ≡ true) (docs : Documents) (keys : List Key) (make : TolledRow → RowEvents → TolledRow) where
  -- after the first stop, any list goes on as the profile whose first stop is kept says
  any_after : (c : Costs) → After (first_kept i) c
  any_after (ends t) = tt
  any_after (stop t c) = (tt, some, any_after c)

  -- first bindings by keys, after a further cost, are as the profile whose first stop is kept says
  distinct_from : (n : ℕ) (es : RowEvents) → FourFit i (more n (costs_of es)) → FourFit (first_kept i) (more n (costs_of (distinct docs keys make [] es)))
  distinct_from n [] h = h
  distinct_from n (skip ∷ es) h =
      subst (FourFit (first_kept i)) (sym (more-more n 1 (costs_of (distinct docs keys make [] es))))
      (distinct_from (n + 1) es (subst (FourFit i) (more-more n 1 (costs_of es)) h))
  distinct_from n (bind row ∷ es) h = (h.0, h.1, any_after (costs_of (distinct docs keys make ([] ++ key_values docs keys row ∷ []) es)))

  -- first bindings by keys are as the four bounds of the profile whose first stop is kept say
  four_distinct : (es : RowEvents) → FourFit i (costs_of es) → FourFit (first_kept i) (costs_of (distinct docs keys make [] es))
  four_distinct es h =
      subst (FourFit (first_kept i)) (more-zero (costs_of (distinct docs keys make [] es)))
      (distinct_from 0 es (subst (FourFit i) (sym (more-zero (costs_of es))) h))

-- events for events cost the same in all
total-only : (test : TolledRow → Bool) (es : RowEvents) → total (costs_of (only test es)) ≡ total (costs_of es)
total-only test [] = refl
total-only test (skip ∷ es) = total-more 1 (costs_of (only test es)) ∙ ap (λ (n : ℕ). 1 + n) (total-only test es) ∙ sym (total-more 1 (costs_of es))
total-only test (bind row ∷ es) =
    elim (test row) as (λ w. total (costs_of (cond w (bind row) skip ∷ only test es)) ≡ 1 + total (costs_of es)) [
      | true ↦ ap (λ (n : ℕ). 1 + n) (total-only test es)
      | false ↦ total-more 1 (costs_of (only test es)) ∙ ap (λ (n : ℕ). 1 + n) (total-only test es)
    ]

-- first bindings by keys cost in all what the events cost
pub total-distinct : (docs : Documents) (keys : List Key) (make : TolledRow → RowEvents → TolledRow) (seen : List (List KeyValue)) (es : RowEvents) → total (costs_of (distinct docs keys make seen es)) ≡ total (costs_of es)
total-distinct docs keys make seen [] = refl
total-distinct docs keys make seen (skip ∷ es) = total-more 1 (costs_of (distinct docs keys make seen es)) ∙ ap (λ (n : ℕ). 1 + n) (total-distinct docs keys make seen es) ∙ sym (total-more 1 (costs_of es))
total-distinct docs keys make seen (bind row ∷ es) =
    let old = total-distinct docs keys make seen es in
    let new = total-distinct docs keys make (seen ++ key_values docs keys row ∷ []) es in
    elim (is_seen (key_values docs keys row) seen)
    as (λ w. total (costs_of (cond w (skip ∷ distinct docs keys make seen es) (bind (make row es) ∷ distinct docs keys make (seen ++ key_values docs keys row ∷ []) es))) ≡ 1 + total (costs_of es)) [
      | true ↦ total-more 1 (costs_of (distinct docs keys make seen es)) ∙ ap (λ (n : ℕ). 1 + n) old
      | false ↦ ap (λ (n : ℕ). 1 + n) new
    ]

-- passing stops over changes no bound on the cost of all
passed_all : (m : Most) (i : Profile) → (passed_by m i).all ≡ i.all
passed_all Never i = refl
passed_all Once i = refl
passed_all Many i = refl

-- bindings that a test leaves are as the profile of stops passed over says
pub fits_only : (i : Profile) (test : TolledRow → Bool) (es : RowEvents) → Fits i (costs_of es) → Fits (passed i) (costs_of (only test es))
fits_only i test es h = (
  four_only i test es h.0,
  subst (Within (total (costs_of (only test es)))) (sym (passed_all i.most i)) (subst (λ (n : ℕ). Within n i.all) (sym (total-only test es)) h.1),
)

-- first bindings by keys are as the profile whose first stop is kept says
pub fits_distinct : (i : Profile) → many i.most ≡ true → (docs : Documents) (keys : List Key) (make : TolledRow → RowEvents → TolledRow) (es : RowEvents) → Fits i (costs_of es) → Fits (first_kept i) (costs_of (distinct docs keys make [] es))
fits_distinct i some docs keys make es h =
    (four_distinct i some docs keys make es h.0, subst (λ (n : ℕ). Within n i.all) (sym (total-distinct docs keys make [] es)) h.1)
