-- After a stage events are as is known of them, where those before it are.
use Rattle.std.proofs.Common.{◌≡◌, ◌++◌, ℕ, zero, suc, ◌+◌, ◌≤◌, true, false, cond, List, [], ◌∷◌, refl, sym, ap, subst, ◌∙◌, arith, length, take, map}
use Rattle.std.specs.Prelude.{Bool, ◌||◌, ◌==◌, not, Option, Some, None}
use Rattle.mix_base.specs.Events.{skip, bind}
use Rattle.mix_tree.specs.Comparisons.{passes}
use Rattle.mix_tree.specs.Keys.{has_var}
use Rattle.mix_tree.specs.Nodes.{Documents, label_at}
use Rattle.mix_tree.specs.declared.var.Key.{Key}
use Rattle.plan_core.specs.declared.plan.Piece.{Piece}
use Rattle.plan_core.specs.Beside.{EachBinding, AreApart}
use Rattle.plan_core.specs.Events.{RowEvents, each_row, only, run_of, passing, group_after, distinct, skips, sorted_rows, kept_row, group_row, extended, made_value, whole_row, stage_events}
use Rattle.plan_core.specs.Fronts.{Front, node_keys, shared, covers, are_contiguous, stage_front}
use Rattle.plan_core.specs.Shapes.{Made, a_list_of, an_element_of, Stage, filters, extends, first_by_keys, one_group, in_order}
use Rattle.plan_core.specs.Tolled.{ends as the_end}
use Rattle.plan_core.specs.TolledRows.{TolledValue, trees, TolledRow, key_values, same_values, tolled_value, tolled_restrict, row_node, piece_items, collected}
use Rattle.plan_core.specs.Unary.{comes_before}
use Rattle.plan_core.specs.Valid.{a_node, a_list, Kinds, no_kinds, with_kind, kept, made_kind, AreNodes, IsSinglePiece, IsMadeFit, stage_kinds, IsStageFit}
use Rattle.plan_core.proofs.Aparts.{apart_each_row, apart_only, distinct_is, covered_apart}
use Rattle.plan_core.proofs.Bindings.{EachSuffix, binding_each_row, binding_only, binding_sorted, each_binding}
use Rattle.plan_core.proofs.BoundRows.{fresh_differs, keys_with, nodes_with, restrict_value, nodes_kept}
use Rattle.plan_core.proofs.FrontSteps.{AreFronted}
use Rattle.plan_core.proofs.KeyValues.{values_alike, shared_front, take_prefix, length_front}
use Rattle.browse_profile.specs.declared.profile.Profile.{Profile}
use Rattle.browse_profile.specs.Bounds.{Within, larger}
use Rattle.browse_profile.specs.Costs.{Costs, ends, stop, more, costs_of}
use Rattle.browse_profile.specs.Fits.{Fits, FourFit, After}
use Rattle.browse_profile.specs.Profiles.{many, costless, first_kept, one_binding, unbounded, passed}
use Rattle.browse_profile.proofs.Bounding.{within_left, within_right}
use Rattle.browse_profile.proofs.Fitting.{fits_unbounded}
use Rattle.browse_profile.proofs.Following.{more-zero, more-more}
use Rattle.browse_class.specs.Bound.{IsValue, IsBound, AreAsKnown}
use Rattle.browse_class.specs.Cheap.{IsWithin}
use Rattle.browse_class.specs.Facts.{Facts, with_at, distinct_profile, group_profile, open_list, run_list, single_list, made_profile, kept_facts, stage_facts}
use Rattle.browse_class.specs.Levels.{with_zero, own_level, AreLeveled}
use Rattle.browse_class.proofs.Alone.{apart_once, costs-distinct}
use Rattle.browse_class.proofs.EventFits.{HasNone, costs-each_row, costs-only_none, none_after, none_more, fits_only, fits_distinct}
use Rattle.browse_class.proofs.LevelLaws.{level_zero, level_own, level_each_row, take_whole, costs-part, costs-contiguous}
use Rattle.browse_class.proofs.Rows.{suffix_distinct, bound_with, bound_restrict, bound_none}
use Rattle.browse_class.proofs.Sorts.{sorted_apart}
use Rattle.browse_class.proofs.Tolls.{concatenation_is, element_is, gathered_is, group_is}

-- what is not bound is not kept
kept_none : (kinds : Kinds) (keys : List Key) (v : ℕ) → kinds v ≡ None → kept keys kinds v ≡ None
kept_none kinds keys v e = elim (has_var keys v) as (λ w. cond w (kinds v) None ≡ None) [ true ↦ e | false ↦ refl ]

-- where variables are nodes, the first j of them are nodes
pub part_nodes : (kinds : Kinds) (j : ℕ) (vs : List ℕ) → AreNodes (node_keys vs) kinds → AreNodes (node_keys (take j vs)) kinds
part_nodes kinds zero vs n v t = cc
part_nodes kinds (suc j) [] n v t = cc
part_nodes kinds (suc j) (x ∷ vs) n v t =
    (elim (x == v) as (λ w. (x == v) ≡ w → (w || has_var (node_keys (take j vs)) v) ≡ true → kinds v ≡ Some a_node) [
      | true ↦ λ e g. n v (rw e refl)
      | false ↦ λ e g. part_nodes kinds j vs (λ u s. n u (later u s)) v g
    ]) refl t
  where
    later : (u : ℕ) → has_var (node_keys vs) u ≡ true → has_var (node_keys (x ∷ vs)) u ≡ true
    later u s = elim (x == u) as (λ w. (w || has_var (node_keys vs) u) ≡ true) [ true ↦ refl | false ↦ s ]

-- with a front of no variables the only level is that of the first binding
pub leveled_none : (docs : Documents) (p : Profile) (es : RowEvents) → Fits p (costs_of es) → AreLeveled docs [] (with_zero p (λ j. unbounded)) es
leveled_none docs p es f zero h make = level_zero docs p es make f
leveled_none docs p es f (suc j) h make = absurd (omega (arith, h))

-- BINDINGS AND THOSE AFTER THEM

-- what holds of all bindings holds of each and of those after it
suffix_bindings : (P : TolledRow → Type 0) (es : RowEvents) → EachBinding P es → EachSuffix (λ row rest. P row × EachBinding P rest) es
suffix_bindings P [] b = tt
suffix_bindings P (skip ∷ es) b = suffix_bindings P es b
suffix_bindings P (bind row ∷ es) b = ((b.0, b.1), suffix_bindings P es b.1)

-- two relations of each binding and the events after it hold together
suffix_both : (R S : TolledRow → RowEvents → Type 0) (es : RowEvents) → EachSuffix R es → EachSuffix S es → EachSuffix (λ row rest. R row rest × S row rest) es
suffix_both R S [] a b = tt
suffix_both R S (skip ∷ es) a b = suffix_both R S es a b
suffix_both R S (bind row ∷ es) a b = ((a.0, b.0), suffix_both R S es a.1 b.1)

-- where events go on after a stop as a profile says, so do the events after each binding
suffix_after : (i : Profile) (es : RowEvents) (n : ℕ) → After i (more n (costs_of es)) → EachSuffix (λ row rest. After i (costs_of rest)) es
suffix_after i [] n h = tt
suffix_after i (skip ∷ es) n h = suffix_after i es (n + 1) (subst (After i) (more-more n 1 (costs_of es)) h)
suffix_after i (bind row ∷ es) n h = (h.2, suffix_after i es 0 (subst (After i) (sym (more-zero (costs_of es))) h.2))

-- where events are as a profile says, the events after each binding go on as it says
suffix_fits : (i : Profile) (es : RowEvents) (n : ℕ) → FourFit i (more n (costs_of es)) → EachSuffix (λ row rest. After i (costs_of rest)) es
suffix_fits i [] n h = tt
suffix_fits i (skip ∷ es) n h = suffix_fits i es (n + 1) (subst (FourFit i) (more-more n 1 (costs_of es)) h)
suffix_fits i (bind row ∷ es) n h = (h.2, suffix_after i es 0 (subst (After i) (sym (more-zero (costs_of es))) h.2))

-- THE LIST OF A GROUP

-- a list of which no more is known
any_after : (c : Costs) → After open_list c
any_after (ends t) = tt
any_after (stop t c) = (tt, refl, any_after c)

-- after the only member of a group its list goes on as the profile of a single item says
last_after : (i : Profile) → many i.most ≡ false → (c : Costs) → After i c → After (single_list i) c
last_after i e (ends t) h = h
last_after i e (stop t c) h = (let f : true ≡ false = sym h.1 ∙ e in cc)

-- the list of a group, up to the first other binding, which is passed, goes on as its profile says
run_after : (i : Profile) (test : TolledRow → Bool) (n : ℕ) (es : RowEvents) → After i (more n (costs_of es)) → After (run_list i) (more n (costs_of (run_of test es)))
run_after i test n [] h = within_right i.between i.trail (n + 0) h
run_after i test n (skip ∷ es) h =
    subst (After (run_list i)) (sym (more-more n 1 (costs_of (run_of test es)))) (run_after i test (n + 1) es (subst (After i) (more-more n 1 (costs_of es)) h))
run_after i test n (bind row ∷ es) h =
    let rest : After (run_list i) (costs_of (run_of test es)) =
    subst (After (run_list i)) (more-zero (costs_of (run_of test es))) (run_after i test 0 es (subst (After i) (sym (more-zero (costs_of es))) h.2)) in
    let last : n + 1 ≡ n + (1 + 0) = omega arith in
    elim (test row) as (λ w. After (run_list i) (more n (costs_of (cond w (bind row ∷ run_of test es) (skip ∷ []))))) [
      | true ↦ (h.0, refl, rest)
      | false ↦ subst (λ (m : ℕ). Within m (larger i.between i.trail)) last (within_left i.between i.trail (n + 1) h.0)
    ]

-- where there is no binding none fails
costs-run_none : (test : TolledRow → Bool) (es : RowEvents) → HasNone (costs_of es) → costs_of (run_of test es) ≡ costs_of es
costs-run_none test [] h = refl
costs-run_none test (skip ∷ es) h = ap (more 1) (costs-run_none test es (none_more 1 (costs_of es) h))
costs-run_none test (bind row ∷ es) h = absurd h

-- where there is no binding, the events of a group cost what all cost, whether they stop or not
costs-passing_none : (stops : Bool) (test : TolledRow → Bool) (es : RowEvents) → HasNone (costs_of es) → costs_of (passing stops test es) ≡ costs_of es
costs-passing_none true test es h = costs-run_none test es h
costs-passing_none false test es h = costs-only_none test es h

-- a group's list, after its first member, is as its profile says
group_fits : (i : Profile) (stops : Bool) (test : TolledRow → Bool) (es : RowEvents) → After i (costs_of es) → FourFit (group_profile stops i) (stop 0 (costs_of (passing stops test es)))
group_fits i stops test es h =
    (elim (many i.most) as (λ w. many i.most ≡ w → FourFit (cond w (cond stops (run_list i) open_list) (single_list i)) (stop 0 (costs_of (passing stops test es)))) [
      | true ↦ λ e. some stops
      | false ↦ λ e. (omega arith, refl, subst (After (single_list i)) (sym (costs-passing_none stops test es (none_after i e (costs_of es) h))) (last_after i e (costs_of es) h))
    ]) refl
  where
    some : (b : Bool) → FourFit (cond b (run_list i) open_list) (stop 0 (costs_of (passing b test es)))
    some true = (
      omega arith,
      refl,
      subst (After (run_list i)) (more-zero (costs_of (run_of test es))) (run_after i test 0 es (subst (After i) (sym (more-zero (costs_of es))) h)),
    )
    some false = (omega arith, refl, any_after (costs_of (only test es)))

-- STAGES

-- the list of a new element stays within a number
abbrev pub IsMadeWithin : Option ℕ → Made → Facts → Type 0
IsMadeWithin most (a_list_of pieces) f = Unit {0}
IsMadeWithin most (an_element_of label list) f = IsWithin most (f.lists list)

-- the list of a new element that a stage makes stays within a bound
abbrev pub IsStageWithin : Option ℕ → Stage → Facts → Type 0
IsStageWithin most (filters test) f = Unit {0}
IsStageWithin most (extends out made) f = IsMadeWithin most made f
IsStageWithin most (first_by_keys keys group) f = Unit {0}
IsStageWithin most (one_group piece out) f = Unit {0}
IsStageWithin most (in_order v desc) f = Unit {0}

-- what a stage binds anew beside what was bound is not bound before it
abbrev pub IsStageFresh : Stage → Kinds → Type 0
IsStageFresh (filters test) kinds = Unit {0}
IsStageFresh (extends out made) kinds = kinds out ≡ None
IsStageFresh (first_by_keys keys None) kinds = Unit {0}
IsStageFresh (first_by_keys keys (Some group)) kinds = kinds group.1 ≡ None
IsStageFresh (one_group piece out) kinds = Unit {0}
IsStageFresh (in_order v desc) kinds = Unit {0}

module _ (docs : Documents) (most : Option ℕ) (one : Within 1 most) (kinds : Kinds) (fr : Front) (f : Facts) (es : RowEvents) (fronted : AreFronted docs kinds fr es) (known : AreAsKnown docs most kinds fr.vars f es) where
  -- events that a test leaves, which are as a profile says, have as their levels those of that profile
  leveled_only : (test : TolledRow → Bool) (p : Profile) → Fits p (costs_of (only test es)) → AreLeveled docs fr.vars (with_zero p (λ j. own_level p)) (only test es)
  leveled_only test p fit zero h make = level_zero docs p (only test es) make fit
  leveled_only test p fit (suc j) h make = level_own docs (node_keys (take (suc j) fr.vars)) p (only test es) make fit

  -- the events that a comparison leaves are as its facts say
  filters_step : (test : TolledRow → Bool) → AreAsKnown docs most kinds fr.vars
      (record { profile = passed f.profile; layouts = f.layouts; lists = f.lists; keys = f.keys; levels = with_zero (passed f.profile) (λ j. own_level (passed f.profile)) }) (only test es)
  filters_step test = record {
    fits = fits_only f.profile test es known.fits;
    bound = binding_only (IsBound docs most kinds f) test es known.bound;
    apart = apart_only docs f.keys test es known.apart;
    nodes = known.nodes;
    leveled = leveled_only test (passed f.profile) (fits_only f.profile test es known.fits);
  }

  -- what is made is a value of its kind
  made_is : (made : Made) → IsMadeFit kinds made → IsMadeWithin most made f → (row : TolledRow) → IsBound docs most kinds f row
      → IsValue docs most (made_kind made) [] (made_profile kinds f.lists made) (made_value docs made row)
  made_is (a_list_of pieces) fit w row b = concatenation_is docs most one kinds f pieces row [] fit b
  made_is (an_element_of label list) fit w row b = element_is docs most one kinds f label list row [] costless w fit b

  -- events with one variable more are as the facts of the stage say
  extends_step : (out : ℕ) (made : Made) → IsMadeFit kinds made → kinds out ≡ None → IsMadeWithin most made f
      → AreAsKnown docs most (with_kind out (made_kind made) kinds) fr.vars (stage_facts (extends out made) kinds fr.vars f) (each_row (extended docs out made) es)
  extends_step out made fit fresh w = record {
    fits = own;
    bound =
        binding_each_row (IsBound docs most kinds f) (IsBound docs most (with_kind out (made_kind made) kinds) (stage_facts (extends out made) kinds fr.vars f)) (extended docs out made)
        (λ row b.
        bound_with docs most kinds f (stage_facts (extends out made) kinds fr.vars f) out (made_kind made) [] (made_profile kinds f.lists made) (made_value docs made row) row (λ v. refl) (λ v. refl)
        (made_is made fit w row b) b) es known.bound;
    apart =
        apart_each_row docs f.keys (IsBound docs most kinds f) (extended docs out made) (λ row b. keys_with docs kinds f.keys out (made_value docs made row) row known.nodes fresh) es known.bound
        known.apart;
    nodes = nodes_with kinds f.keys out (made_kind made) known.nodes fresh;
    leveled = at_level;
  }
    where
      own : Fits f.profile (costs_of (each_row (extended docs out made) es))
      own = subst (Fits f.profile) (sym (costs-each_row (extended docs out made) es)) known.fits

      at_level : (j : ℕ) → j ≤ length fr.vars → (make : TolledRow → RowEvents → TolledRow)
          → Fits (with_zero f.profile f.levels j) (costs_of (distinct docs (node_keys (take j fr.vars)) make [] (each_row (extended docs out made) es)))
      at_level zero h make = level_zero docs f.profile (each_row (extended docs out made) es) make own
      at_level (suc j) h make =
          subst (Fits (f.levels (suc j)))
          (sym (level_each_row docs (node_keys (take (suc j) fr.vars)) (λ row. Unit {0}) (extended docs out made)
          (λ row u. keys_with docs kinds (node_keys (take (suc j) fr.vars)) out (made_value docs made row) row (part_nodes kinds (suc j) fr.vars fronted.nodes) fresh) make es
          (each_binding (λ row. Unit {0}) (λ row. tt) es)))
          (known.leveled (suc j) h make)

  -- FIRST BINDINGS BY KEYS

  -- where none is passed over by keys, no two bindings agree by them
  all_apart : (keys : List Key) → (not (many f.profile.most) || covers keys f.keys) ≡ true → AreApart docs keys es
  all_apart keys h =
      (elim (many f.profile.most) as (λ w. many f.profile.most ≡ w → (not w || covers keys f.keys) ≡ true → AreApart docs keys es) [
        | true ↦ λ e t. covered_apart docs keys f.keys t es known.apart
        | false ↦ λ e t. apart_once docs keys f.profile e es known.fits.0
      ]) refl h

  -- where it does not hold that there is one binding at most, there can be several
  some_dropped : (b : Bool) → (not (many f.profile.most) || b) ≡ false → many f.profile.most ≡ true
  some_dropped b h = elim (many f.profile.most) as (λ w. (not w || b) ≡ false → w ≡ true) [ true ↦ λ g. refl | false ↦ λ g. sym g ] h

  -- the first variables that keys share with a front are first variables of the front
  shared_take : (keys : List Key) (j : ℕ) → j ≤ length (shared keys fr.vars) → (j ≤ length fr.vars) × (take j fr.vars ≡ take j (shared keys fr.vars))
  shared_take keys j h =
      let s = shared_front keys fr.vars in
      let l : length (shared keys fr.vars) ≤ length fr.vars = subst (λ (z : List ℕ). length (shared keys fr.vars) ≤ length z) s.1 (length_front (shared keys fr.vars) s.0) in
      (omega (arith, h, l), subst (λ (z : List ℕ). take j z ≡ take j (shared keys fr.vars)) s.1 (take_prefix j (shared keys fr.vars) s.0 h))

  module _ (keys : List Key) (made : TolledRow → RowEvents → TolledRow) (values : (row : TolledRow) (rest : RowEvents) (v : ℕ) → has_var keys v ≡ true → tolled_value (made row rest) v ≡ tolled_value row v) where
    -- the bindings that are kept
    abbrev kept_events : RowEvents
    kept_events = distinct docs keys made [] es

    -- where bindings may be passed over by keys, those that are kept are as their profile says
    front_fits : many f.profile.most ≡ true → Fits (cond (are_contiguous keys fr.vars) (f.levels (length (shared keys fr.vars))) (first_kept f.profile)) (costs_of kept_events)
    front_fits some =
        (elim (are_contiguous keys fr.vars)
        as (λ w. are_contiguous keys fr.vars ≡ w → Fits (cond w (f.levels (length (shared keys fr.vars))) (first_kept f.profile)) (costs_of kept_events)) [
          | true ↦ λ c.
              (let s = shared_front keys fr.vars in
              let n : ℕ = length (shared keys fr.vars) in
              let short : length (shared keys fr.vars) ≤ length fr.vars = subst (λ (z : List ℕ). length (shared keys fr.vars) ≤ length z) s.1 (length_front (shared keys fr.vars) s.0) in
              let same : take (length (shared keys fr.vars)) fr.vars ≡ shared keys fr.vars =
              subst (λ (z : List ℕ). take (length (shared keys fr.vars)) z ≡ shared keys fr.vars) s.1 (take_whole (shared keys fr.vars) s.0) in
              subst (Fits (f.levels n))
              (ap (λ (vs : List ℕ). costs_of (distinct docs (node_keys vs) made [] es)) same ∙ sym (costs-contiguous docs keys fr.vars made values c made es))
              (known.leveled n short made))
          | false ↦ λ c. fits_distinct f.profile some docs keys made es known.fits
        ]) refl

    -- the first bindings by keys are as their profile says
    kept_fits : Fits (distinct_profile keys fr.vars f) (costs_of kept_events)
    kept_fits =
        (elim (not (many f.profile.most) || covers keys f.keys)
        as (λ w. (not (many f.profile.most) || covers keys f.keys) ≡ w
        → Fits (cond w f.profile (cond (are_contiguous keys fr.vars) (f.levels (length (shared keys fr.vars))) (first_kept f.profile))) (costs_of kept_events)) [
          | true ↦ λ e. subst (Fits f.profile) (sym (costs-distinct docs keys made es (all_apart keys e))) known.fits
          | false ↦ λ e. front_fits (some_dropped (covers keys f.keys) e)
        ]) refl

    -- no two of the first bindings by keys agree by these
    kept_differ : AreApart docs keys kept_events
    kept_differ = (distinct_is docs keys made (λ row rest. values_alike docs keys (made row rest) row (λ v h. values row rest v h)) [] es).apart

    -- the first of the first bindings by keys, by a part of their front, are as the input's levels say
    kept_leveled : AreLeveled docs (shared keys fr.vars) (with_zero (distinct_profile keys fr.vars f) f.levels) kept_events
    kept_leveled zero h make = level_zero docs (distinct_profile keys fr.vars f) kept_events make kept_fits
    kept_leveled (suc j) h make =
        let s = shared_take keys (suc j) h in
        subst (Fits (f.levels (suc j)))
        (ap (λ (vs : List ℕ). costs_of (distinct docs (node_keys vs) make [] es)) s.1 ∙ sym (costs-part docs keys fr.vars made values (suc j) make es))
        (known.leveled (suc j) s.0 make)

  -- a project's events are as its facts say
  project_step : (keys : List Key) → AreNodes keys kinds
      → AreAsKnown docs most (kept keys kinds) (shared keys fr.vars) (kept_facts keys fr.vars f f.layouts f.lists) (distinct docs keys (kept_row docs keys (are_contiguous keys fr.vars) None) [] es)
  project_step keys n =
      let made : TolledRow → RowEvents → TolledRow = kept_row docs keys (are_contiguous keys fr.vars) None in
      let values : (row : TolledRow) (rest : RowEvents) (v : ℕ) → has_var keys v ≡ true → tolled_value (kept_row docs keys (are_contiguous keys fr.vars) None row rest) v ≡ tolled_value row v =
      λ row rest v h. restrict_value keys row v h in
      record {
        fits = kept_fits keys made values;
        bound =
            suffix_distinct (λ row rest. IsBound docs most kinds f row × EachBinding (IsBound docs most kinds f) rest)
            (IsBound docs most (kept keys kinds) (kept_facts keys fr.vars f f.layouts f.lists)) docs keys made
            (λ row rest b. bound_restrict docs most kinds f row keys n b.0) [] es (suffix_bindings (IsBound docs most kinds f) es known.bound);
        apart = kept_differ keys made values;
        nodes = nodes_kept kinds keys n;
        leveled = kept_leveled keys made values;
      }

  -- the keys of a grouping, its piece and its list variable, of which the facts of groups are told
  module _ (keys : List Key) (piece : Piece) (out : ℕ) (n : AreNodes keys kinds) (single : IsSinglePiece kinds piece) (fresh : kinds out ≡ None) where
    -- whether the list of a group stops at the first other binding
    abbrev stops : Bool
    stops = are_contiguous keys fr.vars

    -- the facts of the groups: those of the first bindings, with the list of each
    abbrev group_facts : Facts
    group_facts = kept_facts keys fr.vars f (with_at out [] f.layouts) (with_at out (group_profile stops f.profile) f.lists)

    -- the value of the list of a group, by its first member and the events after it
    abbrev group_list : TolledRow → RowEvents → TolledValue
    group_list row rest = trees (piece_items docs piece row (collected docs piece (group_after docs keys stops row rest) (the_end 0)))

    -- a group has the values of its keys' variables
    group_values : (row : TolledRow) (rest : RowEvents) (v : ℕ) → has_var keys v ≡ true → tolled_value (group_row docs keys stops piece out row rest) v ≡ tolled_value row v
    group_values row rest v h =
        ap (λ (w : Bool). cond w (group_list row rest) (tolled_value (tolled_restrict keys row) v)) (fresh_differs kinds out v a_node fresh (n v h)) ∙ restrict_value keys row v h

    -- a binding is in the group of another
    group_test : TolledRow → TolledRow → Bool
    group_test row r = same_values (key_values docs keys row) (key_values docs keys r)

    -- where all bindings are bound, the bindings that pass a test are bound
    passing_bound : (test : TolledRow → Bool) (b : Bool) (rest : RowEvents) → EachBinding (IsBound docs most kinds f) rest → EachBinding (IsBound docs most kinds f) (passing b test rest)
    passing_bound test true rest h = run_bound rest h
      where
        run_bound : (rest : RowEvents) → EachBinding (IsBound docs most kinds f) rest → EachBinding (IsBound docs most kinds f) (run_of test rest)
        run_bound [] h = tt
        run_bound (skip ∷ rest) h = run_bound rest h
        run_bound (bind row ∷ rest) h =
            let r = run_bound rest h.1 in
            elim (test row) as (λ w. EachBinding (IsBound docs most kinds f) (cond w (bind row ∷ run_of test rest) (skip ∷ []))) [ true ↦ (h.0, r) | false ↦ tt ]
    passing_bound test false rest h = binding_only (IsBound docs most kinds f) test rest h

    pub group_step : AreAsKnown docs most (with_kind out a_list (kept keys kinds)) (shared keys fr.vars) group_facts (distinct docs keys (group_row docs keys stops piece out) [] es)
    group_step = record {
      fits = kept_fits keys (group_row docs keys stops piece out) group_values;
      bound =
          suffix_distinct (λ row rest. (IsBound docs most kinds f row × EachBinding (IsBound docs most kinds f) rest) × After f.profile (costs_of rest))
          (IsBound docs most (with_kind out a_list (kept keys kinds)) group_facts) docs keys (group_row docs keys stops piece out)
          (λ row rest b.
          bound_with docs most (kept keys kinds) f group_facts out a_list [] (group_profile stops f.profile) (group_list row rest) (tolled_restrict keys row) (λ v. refl) (λ v. refl)
          (group_is docs most one kinds f piece row (group_after docs keys stops row rest) [] (group_profile stops f.profile) single b.0.0
          (passing_bound (λ r. same_values (key_values docs keys row) (key_values docs keys r)) stops rest b.0.1)
          (group_fits f.profile stops (λ r. same_values (key_values docs keys row) (key_values docs keys r)) rest b.1))
          (bound_restrict docs most kinds f row keys n b.0.0)) [] es
          (suffix_both (λ row rest. IsBound docs most kinds f row × EachBinding (IsBound docs most kinds f) rest) (λ row rest. After f.profile (costs_of rest)) es
          (suffix_bindings (IsBound docs most kinds f) es known.bound) (suffix_fits f.profile es 0 (subst (FourFit f.profile) (sym (more-zero (costs_of es))) known.fits.0)));
      apart = kept_differ keys (group_row docs keys stops piece out) group_values;
      nodes = nodes_with (kept keys kinds) keys out a_list (nodes_kept kinds keys n) (kept_none kinds keys out fresh);
      leveled = kept_leveled keys (group_row docs keys stops piece out) group_values;
    }

  -- the events of a groupBy without keys are as its facts say
  gather_step : (piece : Piece) (out : ℕ) → IsSinglePiece kinds piece
      → AreAsKnown docs most (with_kind out a_list no_kinds) [] (stage_facts (one_group piece out) kinds fr.vars f) (bind (whole_row docs piece out es) ∷ [])
  gather_step piece out s = record {
    fits = own;
    bound = (
      bound_with docs most no_kinds f (stage_facts (one_group piece out) kinds fr.vars f) out a_list [] f.profile (trees (collected docs piece es (the_end 0))) [] (λ v. refl) (λ v. refl)
          (gathered_is docs most one kinds f piece es [] s known.bound known.fits.0) (bound_none docs most f no_kinds (λ v. refl)),
      tt,
    );
    apart = (tt, tt);
    nodes = λ v t. cc;
    leveled = leveled_none docs one_binding (bind (whole_row docs piece out es) ∷ []) own;
  }
    where
      own : Fits one_binding (stop 1 (ends 0))
      own = ((omega arith, refl, omega arith), omega arith)

  -- an order's events are as its facts say
  order_step : (v : ℕ) (desc : Bool) → AreAsKnown docs most kinds [] (stage_facts (in_order v desc) kinds fr.vars f) (skips es ++ map bind (sorted_rows docs v desc es))
  order_step v desc =
      let less : TolledRow → TolledRow → Bool = λ a b. comes_before desc (label_at docs (row_node a v)) (label_at docs (row_node b v)) in
      let all : RowEvents = skips es ++ map bind (sorted_rows docs v desc es) in
      record {
        fits = fits_unbounded (costs_of all);
        bound = binding_sorted (IsBound docs most kinds f) less es known.bound;
        apart = sorted_apart docs f.keys less es known.apart;
        nodes = known.nodes;
        leveled = leveled_none docs unbounded all (fits_unbounded (costs_of all));
      }

  -- a stage's events are as its facts say, where its input's are as theirs say
  pub stage_step : (stage : Stage) → IsStageFit kinds stage → IsStageFresh stage kinds → IsStageWithin most stage f
      → AreAsKnown docs most (stage_kinds stage kinds) (stage_front stage fr).vars (stage_facts stage kinds fr.vars f) (stage_events docs fr.vars stage es)
  stage_step (filters test) fit fresh w = filters_step (λ row. passes docs test (row_node row))
  stage_step (extends out made) fit fresh w = extends_step out made fit fresh w
  stage_step (first_by_keys keys None) fit fresh w = project_step keys fit
  stage_step (first_by_keys keys (Some group)) fit fresh w = group_step keys group.0 group.1 fit.0 fit.1 fresh
  stage_step (one_group piece out) fit fresh w = gather_step piece out fit
  stage_step (in_order v desc) fit fresh w = order_step v desc
