-- Sources, visits and pairs are as is known of them, where their inputs are.
use Rattle.std.proofs.Common.{◌≡◌, inl, ℕ, zero, suc, ◌+◌, ◌-◌, ◌≤◌, true, false, cond, List, [], ◌∷◌, ◌++◌, refl, sym, ap, subst, ◌∙◌, arith, length, take}
use Rattle.std.specs.Prelude.{Bool, ◌||◌, ◌==◌, nat_le, Option, Some, None}
use Rattle.std.proofs.lemmas.Bool.Decides.{nat_tests}
use Rattle.std.proofs.lemmas.List.Folds.{list_any-append}
use Rattle.mix_base.specs.Events.{skip, bind}
use Rattle.mix_base.proofs.Lists.{append_nil}
use Rattle.mix_tree.specs.Forest.{none, tree, first_kids}
use Rattle.mix_tree.specs.Keys.{key_var, has_var}
use Rattle.mix_tree.specs.Nodes.{Documents, Node, document_node}
use Rattle.mix_tree.specs.Place.{trees_at}
use Rattle.mix_tree.specs.declared.var.Key.{Key}
use Rattle.mix_tree.specs.declared.var.Key.TheVariants.{Node as node_key}
use Rattle.mix_tree.specs.declared.comparing.Test.{Test}
use Rattle.path_expr.specs.Form.{Form}
use Rattle.path_auto.specs.Visit.{visits}
use Rattle.path_auto.proofs.Bindings.{visits_are_matches}
use Rattle.plan_core.specs.Beside.{EachBinding, AreApart}
use Rattle.plan_core.specs.Events.{RowEvents, expand, each_row, only, descendants, passes_all, pairs, distinct}
use Rattle.plan_core.specs.Fronts.{Front, node_keys}
use Rattle.plan_core.specs.TolledRows.{TolledValue, of_source, element, trees, TolledRow, key_values, tolled_value, row_node, source_node}
use Rattle.plan_core.specs.Valid.{Kind, a_node, Kinds, no_kinds, with_kind, either_kind, AreNodes}
use Rattle.plan_core.proofs.Aparts.{apart_expand, apart_each_row, apart_only, apart_nodes}
use Rattle.plan_core.proofs.Bindings.{binding_expand, binding_nodes, binding_each_row, binding_only, each_binding, binding_weaker}
use Rattle.plan_core.proofs.BoundRows.{keys_with, nodes_with}
use Rattle.plan_core.proofs.FrontSteps.{AreFronted}
use Rattle.plan_core.proofs.KeyValues.{values_alike, take_length}
use Rattle.browse_profile.specs.declared.profile.Profile.{Profile}
use Rattle.browse_profile.specs.Costs.{Costs, ends, stop, more, costs_of}
use Rattle.browse_profile.specs.Fits.{Fits}
use Rattle.browse_profile.specs.Profiles.{one_skip, one_binding, costless, in_turn, replaced, unbounded, passed, once}
use Rattle.browse_profile.proofs.Fitting.{fits_in_turn, fits_replaced, fits_unbounded, fits_once}
use Rattle.browse_profile.proofs.Totals.{first_only-more}
use Rattle.browse_visit.specs.Laid.{path_profile, path_layouts}
use Rattle.browse_visit.specs.Layouts.{Layout, AreLaid, IsBelow, IsLaidAt}
use Rattle.browse_visit.proofs.Laid.{visits_are_as_laid}
use Rattle.browse_class.specs.Bound.{IsValue, HasValue, IsBound, AreAsKnown}
use Rattle.browse_class.specs.Facts.{Facts, visit_below, visits_facts, pairs_facts, source_facts}
use Rattle.browse_class.specs.Levels.{with_zero, own_level, visits_level, pairs_level, AreLeveled}
use Rattle.browse_class.proofs.Alone.{costs-distinct}
use Rattle.browse_class.proofs.EventFits.{costs-nodes, costs-each_row, expand_replaced, fits_only}
use Rattle.browse_class.proofs.FirstKeys.{level_expand, costs-first}
use Rattle.browse_class.proofs.LevelLaws.{level_zero, level_own, level_each_row, take_whole}
use Rattle.browse_class.proofs.Rows.{places_found, bound_with, bound_both, bound_none}
use Rattle.browse_class.proofs.StageSteps.{part_nodes, leveled_none}
use Rattle.browse_class.proofs.Tolls.{value_of}

-- a source's events are as its facts say
pub source_step : (shapes : ℕ → Layout) (docs : Documents) → AreLaid shapes docs → (most : Option ℕ) (s out : ℕ)
    → AreAsKnown docs most (with_kind out a_node no_kinds) [] (source_facts (shapes s) out) (bind ((out, of_source (document_node s)) ∷ []) ∷ [])
source_step shapes docs laid most s out =
    let g : Facts = source_facts (shapes s) out in
    let f : Facts = record { profile = one_binding; layouts = λ v. []; lists = λ v. costless; keys = []; levels = λ j. unbounded } in
    let own : Fits one_binding (stop 1 (ends 0)) = ((omega arith, refl, omega arith), omega arith) in
    record {
      fits = own;
      bound = (
        bound_with docs most no_kinds f g out a_node (shapes s ∷ []) costless (of_source (document_node s)) [] (λ v. refl) (λ v. either_same (out == v)) (shapes s, inl refl, laid s)
            (bound_none docs most f no_kinds (λ v. refl)),
        tt,
      );
      apart = (tt, tt);
      nodes = λ v t. cc;
      leveled = leveled_none docs one_binding (bind ((out, of_source (document_node s)) ∷ []) ∷ []) own;
    }
  where
    either_same : (b : Bool) → cond b costless costless ≡ costless
    either_same true = refl
    either_same false = refl

-- keys of nodes and more keys of nodes are together keys of nodes
nodes_append : (keys more : List Key) (kinds : Kinds) → AreNodes keys kinds → AreNodes more kinds → AreNodes (keys ++ more) kinds
nodes_append keys more kinds h k v t =
    (elim (has_var keys v) as (λ w. has_var keys v ≡ w → (w || has_var more v) ≡ true → kinds v ≡ Some a_node) [
      | true ↦ λ e g. h v e
      | false ↦ λ e g. k v g
    ]) refl (sym (list_any-append (λ k. key_var k == v) keys more) ∙ t)

-- the node keys of two lists of variables are those of the first and then those of the second
node_keys_more : (vs ws : List ℕ) → node_keys (vs ++ ws) ≡ node_keys vs ++ node_keys ws
node_keys_more [] ws = refl
node_keys_more (v ∷ vs) ws = ap (λ (z : List Key). node_key v ∷ z) (node_keys_more vs ws)

-- variables with one more are one more
length_snoc : (vs : List ℕ) (v : ℕ) → length (vs ++ v ∷ []) ≡ suc (length vs)
length_snoc [] v = refl
length_snoc (x ∷ vs) v = (let h = length_snoc vs v in omega (arith, h))

module _ (docs : Documents) (most : Option ℕ) (kinds : Kinds) (fr : Front) (f : Facts) (es : RowEvents) (fronted : AreFronted docs kinds fr es) (known : AreAsKnown docs most kinds fr.vars f es) where
  -- the node of a value that is one
  laid_node : (gs : List Layout) (p : Profile) (x : TolledValue) → IsValue docs most a_node gs p x → IsLaidAt docs gs (source_node x)
  laid_node gs p (of_source n) h = h
  laid_node gs p (element label kids) h = absurd h
  laid_node gs p (trees t) h = absurd h

  module _ (start : ℕ) (path : Form) (out : ℕ) (is_node : kinds start ≡ Some a_node) (fresh : kinds out ≡ None) where
    -- the layouts below the nodes of the start variable
    abbrev gs : List Layout
    gs = f.layouts start

    start_laid : (row : TolledRow) → IsBound docs most kinds f row → IsLaidAt docs gs (row_node row start)
    start_laid row b = laid_node gs (f.lists start) (tolled_value row start) (value_of docs most kinds f row b start a_node is_node)

    -- the visit below a binding's node
    laid_visit : (row : TolledRow) → IsBound docs most kinds f row → Rattle.browse_visit.specs.Laid.IsVisitAsLaid path gs (tree [] (docs (row_node row start).source) none) (row_node row start).place
    laid_visit row b = visits_are_as_laid path gs (tree [] (docs (row_node row start).source) none) (row_node row start).place (start_laid row b)

    -- the visit below a binding's start node, after a skip, is as its profile says
    visit_fits : (row : TolledRow) → IsBound docs most kinds f row → Fits (visit_below path gs) (costs_of (skip ∷ descendants docs start path out row))
    visit_fits row b =
        let n : Node = row_node row start in
        let c : Costs = costs_of (visits docs path (row_node row start)) in
        let one : Fits one_skip (ends 1) = ((omega arith, refl), omega arith) in
        subst (λ (d : Costs). Fits (visit_below path gs) (more 1 d)) (sym (costs-nodes out n row (visits docs path n)))
        (fits_in_turn one_skip (path_profile path gs) (ends 1) c one (laid_visit row b).fits)

    -- each binding of a row's descendants has the new variable and is bound as known
    with_is : (row : TolledRow) → IsBound docs most kinds f row → EachBinding (IsBound docs most (with_kind out a_node kinds) (visits_facts start path out fr f)) (descendants docs start path out row)
    with_is row b =
        let n : Node = row_node row start in
        let g : Facts = visits_facts start path out fr f in
        places_found (λ place. IsBelow (path_layouts path gs) (first_kids (trees_at (tree [] (docs n.source) none) place))) (IsBound docs most (with_kind out a_node kinds) g) out n row
        (λ place h. bound_with docs most kinds f g out a_node (path_layouts path gs) costless (of_source (record { source = n.source; place = place })) row (λ v. refl) (λ v. refl) h b) (visits docs path n)
        (laid_visit row b).kinds

    own_node : AreNodes (node_key out ∷ []) (with_kind out a_node kinds)
    own_node v t = elim (out == v) as (λ w. (w || false) ≡ true → cond w (Some a_node) (kinds v) ≡ Some a_node) [ true ↦ λ g. refl | false ↦ λ g. cc ] t

    -- the profile of the visit below one binding
    abbrev own_profile : Profile
    own_profile = replaced f.profile (visit_below path gs)

    -- the events of the visits below all bindings
    abbrev all_events : RowEvents
    all_events = expand (descendants docs start path out) es

    own_fits : Fits own_profile (costs_of all_events)
    own_fits =
        fits_replaced f.profile (visit_below path gs) (costs_of es) (costs_of all_events) known.fits
        (expand_replaced (Fits (visit_below path gs)) (descendants docs start path out) es
        (binding_weaker (IsBound docs most kinds f) (λ row. Fits (visit_below path gs) (costs_of (skip ∷ descendants docs start path out row))) (λ row b. visit_fits row b) es known.bound))

    same_front : (row : TolledRow) → EachBinding (λ a. key_values docs (node_keys fr.vars) a ≡ key_values docs (node_keys fr.vars) row) (descendants docs start path out row)
    same_front row =
        binding_nodes (λ a. key_values docs (node_keys fr.vars) a ≡ key_values docs (node_keys fr.vars) row) out (row_node row start) row
        (λ place. keys_with docs kinds (node_keys fr.vars) out (of_source (record { source = (row_node row start).source; place = place })) row fronted.nodes fresh) (visits docs path (row_node row start))

    -- where the input's front is whole, no two bindings of visits agree by it and the new variable
    front_apart : fr.whole ≡ true → AreApart docs (node_keys (fr.vars ++ out ∷ [])) all_events
    front_apart e =
        subst (λ (ks : List Key). AreApart docs ks all_events) (sym (node_keys_more fr.vars (out ∷ [])))
        (apart_expand docs (node_keys fr.vars) (node_key out ∷ []) (IsBound docs most kinds f) (descendants docs start path out) (λ row b. same_front row)
        (λ row b. apart_nodes docs out (row_node row start) row (visits docs path (row_node row start)) (visits_are_matches docs path (row_node row start)).ascending) es known.bound (fronted.front.whole e))

    -- by all variables of the input's whole front just the first binding of each visit counts
    first_of_each : fr.whole ≡ true → (make : TolledRow → RowEvents → TolledRow) → Fits (replaced f.profile (once (visit_below path gs))) (costs_of (distinct docs (node_keys fr.vars) make [] all_events))
    first_of_each e make =
        subst (λ (ks : List Key). Fits (replaced f.profile (once (visit_below path gs))) (costs_of (distinct docs ks make [] all_events))) (append_nil (node_keys fr.vars))
        (fits_replaced f.profile (once (visit_below path gs)) (costs_of es) (costs_of (distinct docs (node_keys fr.vars ++ []) make [] all_events)) known.fits
        (level_expand docs (node_keys fr.vars) [] make (Fits (once (visit_below path gs))) (IsBound docs most kinds f) (descendants docs start path out) (λ row b. same_front row)
        (λ row b.
        subst (Fits (once (visit_below path gs)))
        (first_only-more 1 (costs_of (descendants docs start path out row)) ∙ ap (more 1) (sym (costs-first docs make (descendants docs start path out row))))
        (fits_once (visit_below path gs) (skip ∷ descendants docs start path out row) (visit_fits row b))) es known.bound (fronted.front.whole e)))

    -- the levels of the visits
    abbrev level : ℕ → Profile
    level j = with_zero own_profile (visits_level (length fr.vars) fr.whole own_profile f.profile (visit_below path gs)) j

    whole_level : fr.whole ≡ true → (j : ℕ) → j ≤ length (fr.vars ++ out ∷ []) → (make : TolledRow → RowEvents → TolledRow)
        → Fits (with_zero own_profile (visits_level (length fr.vars) true own_profile f.profile (visit_below path gs)) j) (costs_of (distinct docs (node_keys (take j (fr.vars ++ out ∷ []))) make [] all_events))
    whole_level e zero h make = level_zero docs own_profile all_events make own_fits
    whole_level e (suc j) h make =
        let there : Costs = costs_of (distinct docs (node_keys (take (suc j) (fr.vars ++ out ∷ []))) make [] all_events) in
        (elim (suc j == suc (length fr.vars)) as (λ w. (suc j == suc (length fr.vars)) ≡ w → Fits (cond w own_profile (cond (suc j == length fr.vars) (replaced f.profile (once (visit_below path gs))) unbounded)) there) [
          | true ↦ λ t.
              (let s : suc j ≡ suc (length fr.vars) = grind (arith, nat_tests, t) in
              let l : length (fr.vars ++ out ∷ []) ≡ suc (length fr.vars) = length_snoc fr.vars out in
              let q : take (suc j) (fr.vars ++ out ∷ []) ≡ fr.vars ++ out ∷ [] = ap (λ (n : ℕ). take n (fr.vars ++ out ∷ [])) (s ∙ sym l) ∙ take_length (fr.vars ++ out ∷ []) in
              subst (λ (vs : List ℕ). Fits own_profile (costs_of (distinct docs (node_keys vs) make [] all_events))) (sym q)
              (subst (Fits own_profile) (sym (costs-distinct docs (node_keys (fr.vars ++ out ∷ [])) make all_events (front_apart e))) own_fits))
          | false ↦ λ t.
              (elim (suc j == length fr.vars) as (λ w. (suc j == length fr.vars) ≡ w → Fits (cond w (replaced f.profile (once (visit_below path gs))) unbounded) there) [
                | true ↦ λ u.
                    (let s : suc j ≡ length fr.vars = grind (arith, nat_tests, u) in
                    let q : take (suc j) (fr.vars ++ out ∷ []) ≡ fr.vars = ap (λ (n : ℕ). take n (fr.vars ++ out ∷ [])) s ∙ take_whole fr.vars (out ∷ []) in
                    subst (λ (vs : List ℕ). Fits (replaced f.profile (once (visit_below path gs))) (costs_of (distinct docs (node_keys vs) make [] all_events))) (sym q) (first_of_each e make))
                | false ↦ λ u. fits_unbounded there
              ]) refl
        ]) refl

    part_level : (j : ℕ) → (make : TolledRow → RowEvents → TolledRow)
        → Fits (with_zero own_profile (visits_level (length fr.vars) false own_profile f.profile (visit_below path gs)) j) (costs_of (distinct docs (node_keys (take j fr.vars)) make [] all_events))
    part_level zero make = level_zero docs own_profile all_events make own_fits
    part_level (suc j) make = fits_unbounded (costs_of (distinct docs (node_keys (take (suc j) fr.vars)) make [] all_events))

    -- the first bindings of visits by a part of their front are as the levels say
    visits_leveled : AreLeveled docs (fr.vars ++ cond fr.whole (out ∷ []) []) (with_zero own_profile (visits_level (length fr.vars) fr.whole own_profile f.profile (visit_below path gs))) all_events
    visits_leveled =
        (elim fr.whole as (λ w. fr.whole ≡ w → AreLeveled docs (fr.vars ++ cond w (out ∷ []) []) (with_zero own_profile (visits_level (length fr.vars) w own_profile f.profile (visit_below path gs))) all_events) [
          | true ↦ λ e. whole_level e
          | false ↦ λ e.
              subst (λ (vs : List ℕ). AreLeveled docs vs (with_zero own_profile (visits_level (length fr.vars) false own_profile f.profile (visit_below path gs))) all_events) (sym (append_nil fr.vars))
              (λ j h make. part_level j make)
        ]) refl

    -- the events of visits below bindings are as is known of them
    pub visits_step : AreAsKnown docs most (with_kind out a_node kinds) (fr.vars ++ cond fr.whole (out ∷ []) []) (visits_facts start path out fr f) all_events
    visits_step = record {
      fits = own_fits;
      bound = binding_expand (IsBound docs most kinds f) (IsBound docs most (with_kind out a_node kinds) (visits_facts start path out fr f)) (descendants docs start path out) with_is es known.bound;
      apart =
          apart_expand docs f.keys (node_key out ∷ []) (IsBound docs most kinds f) (descendants docs start path out)
          (λ row b.
          binding_nodes (λ a. key_values docs f.keys a ≡ key_values docs f.keys row) out (row_node row start) row
          (λ place. keys_with docs kinds f.keys out (of_source (record { source = (row_node row start).source; place = place })) row known.nodes fresh) (visits docs path (row_node row start)))
          (λ row b. apart_nodes docs out (row_node row start) row (visits docs path (row_node row start)) (visits_are_matches docs path (row_node row start)).ascending) es known.bound known.apart;
      nodes = nodes_append f.keys (node_key out ∷ []) (with_kind out a_node kinds) (nodes_with kinds f.keys out a_node known.nodes fresh) own_node;
      leveled = visits_leveled;
    }

-- a test of two lists of events, one after the other, tests each of them
only_append : (test : TolledRow → Bool) (xs ys : RowEvents) → only test (xs ++ ys) ≡ only test xs ++ only test ys
only_append test [] ys = refl
only_append test (skip ∷ xs) ys = ap (λ (z : RowEvents). skip ∷ z) (only_append test xs ys)
only_append test (bind row ∷ xs) ys = ap (λ (z : RowEvents). cond (test row) (bind row) skip ∷ z) (only_append test xs ys)

-- a test of the events that bindings are expanded to tests all of them
expand_only : (test : TolledRow → Bool) (g : TolledRow → RowEvents) (es : RowEvents) → expand (λ row. only test (g row)) es ≡ only test (expand g es)
expand_only test g [] = refl
expand_only test g (skip ∷ es) = ap (λ (z : RowEvents). skip ∷ z) (expand_only test g es)
expand_only test g (bind row ∷ es) = ap (λ (z : RowEvents). skip ∷ (only test (g row) ++ z)) (expand_only test g es) ∙ ap (λ (z : RowEvents). skip ∷ z) (sym (only_append test (g row) (expand g es)))

-- where there are no comparisons all events pass
only_all : (docs : Documents) (es : RowEvents) → only (passes_all docs []) es ≡ es
only_all docs [] = refl
only_all docs (skip ∷ es) = ap (λ (z : RowEvents). skip ∷ z) (only_all docs es)
only_all docs (bind row ∷ es) = ap (λ (z : RowEvents). bind row ∷ z) (only_all docs es)

module _ (docs : Documents) (most : Option ℕ) (kl kr : Kinds) (fr gr : Front) (f g : Facts) (ls rs : RowEvents) (left_front : AreFronted docs kl fr ls) (right_front : AreFronted docs kr gr rs)
    (left : AreAsKnown docs most kl fr.vars f ls) (right : AreAsKnown docs most kr gr.vars g rs)
    (fresh : (v : ℕ) (k : Kind) → kr v ≡ Some k → kl v ≡ None) where
  -- the pairs of a left binding with each of the right side's
  abbrev beside : TolledRow → RowEvents
  beside row = each_row (λ r. row ++ r) rs

  -- the kinds that both sides bind together
  abbrev both_kinds : Kinds
  both_kinds v = either_kind (kl v) (kr v)

  -- a pair has the left binding's values by keys of the left side
  left_values : (keys : List Key) → AreNodes keys kl → (row r : TolledRow) → IsBound docs most kl f row → key_values docs keys (row ++ r) ≡ key_values docs keys row
  left_values keys n row r b = values_alike docs keys (row ++ r) row (λ v t. has v (kl v) (n v t) (b v r))
    where
      has : (v : ℕ) (k : Option Kind) → k ≡ Some a_node → HasValue docs most k (f.layouts v) (f.lists v) row r v → tolled_value (row ++ r) v ≡ tolled_value row v
      has v k e h = (let z : HasValue docs most (Some a_node) (f.layouts v) (f.lists v) row r v = subst (λ (j : Option Kind). HasValue docs most j (f.layouts v) (f.lists v) row r v) e h in z.0)

  -- a pair has the right binding's values by keys of the right side
  right_values : (keys : List Key) → AreNodes keys kr → (row r : TolledRow) → IsBound docs most kl f row → key_values docs keys (row ++ r) ≡ key_values docs keys r
  right_values keys n row r b = values_alike docs keys (row ++ r) r (λ v t. lacks v (kl v) (fresh v a_node (n v t)) (b v r))
    where
      lacks : (v : ℕ) (k : Option Kind) → k ≡ None → HasValue docs most k (f.layouts v) (f.lists v) row r v → tolled_value (row ++ r) v ≡ tolled_value r v
      lacks v k e h = (let z : HasValue docs most None (f.layouts v) (f.lists v) row r v = subst (λ (j : Option Kind). HasValue docs most j (f.layouts v) (f.lists v) row r v) e h in z)

  -- keys of nodes of the left side are of nodes of both sides
  left_nodes : (keys : List Key) → AreNodes keys kl → AreNodes keys both_kinds
  left_nodes keys n v t = ap (λ (k : Option Kind). either_kind k (kr v)) (n v t)

  -- keys of nodes of the right side are of nodes of both sides
  right_nodes : (keys : List Key) → AreNodes keys kr → AreNodes keys both_kinds
  right_nodes keys n v t = ap (λ (k : Option Kind). either_kind k (kr v)) (fresh v a_node (n v t)) ∙ n v t

  -- the profile of the pairs, before any comparison
  abbrev plain_profile : Profile
  plain_profile = replaced f.profile (in_turn one_skip g.profile)

  -- the events of all pairs, before any comparison
  abbrev all_rows : RowEvents
  all_rows = expand beside ls

  -- the pairs, before any comparison, are as their profile says
  plain_fits : Fits plain_profile (costs_of all_rows)
  plain_fits =
      fits_replaced f.profile (in_turn one_skip g.profile) (costs_of ls) (costs_of (expand beside ls)) left.fits
      (expand_replaced (Fits (in_turn one_skip g.profile)) beside ls
      (each_binding (λ row. Fits (in_turn one_skip g.profile) (costs_of (skip ∷ beside row)))
      (λ row. (let one : Fits one_skip (ends 1) = ((omega arith, refl), omega arith) in
      subst (λ (c : Costs). Fits (in_turn one_skip g.profile) (more 1 c)) (sym (costs-each_row (λ r. row ++ r) rs)) (fits_in_turn one_skip g.profile (ends 1) (costs_of rs) one right.fits))) ls))

  -- each pair beside a left binding has its values by the left side's front
  same_left : (row : TolledRow) → IsBound docs most kl f row → EachBinding (λ a. key_values docs (node_keys fr.vars) a ≡ key_values docs (node_keys fr.vars) row) (beside row)
  same_left row b =
      binding_each_row (λ r. Unit {0}) (λ a. key_values docs (node_keys fr.vars) a ≡ key_values docs (node_keys fr.vars) row) (λ r. row ++ r) (λ r u. left_values (node_keys fr.vars) left_front.nodes row r b) rs (each_binding (λ r. Unit {0}) (λ r. tt) rs)

  -- the right side's level k beside each row
  right_level : fr.whole ≡ true → (k : ℕ) → k ≤ length gr.vars → (make : TolledRow → RowEvents → TolledRow)
      → Fits (replaced f.profile (in_turn one_skip (g.levels k))) (costs_of (distinct docs (node_keys fr.vars ++ node_keys (take k gr.vars)) make [] all_rows))
  right_level e k h make =
      let keys : List Key = node_keys (take k gr.vars) in
      let p : Profile = in_turn one_skip (g.levels k) in
      fits_replaced f.profile p (costs_of ls) (costs_of (distinct docs (node_keys fr.vars ++ keys) make [] all_rows)) left.fits
      (level_expand docs (node_keys fr.vars) keys make (Fits (in_turn one_skip (g.levels k))) (IsBound docs most kl f) beside same_left
      (λ row b. (let one : Fits one_skip (ends 1) = ((omega arith, refl), omega arith) in
      subst (λ (c : Costs). Fits (in_turn one_skip (g.levels k)) (more 1 c))
      (sym (level_each_row docs (node_keys (take k gr.vars)) (λ r. Unit {0}) (λ r. row ++ r) (λ r u. right_values (node_keys (take k gr.vars)) (part_nodes kr k gr.vars right_front.nodes) row r b) make rs (each_binding (λ r. Unit {0}) (λ r. tt) rs)))
      (fits_in_turn one_skip (g.levels k) (ends 1) (costs_of (distinct docs (node_keys (take k gr.vars)) make [] rs)) one (right.leveled k h make)))) ls left.bound (left_front.front.whole e))

  -- a prefix of two lists that is at least as long as the first is the first and a prefix of the second
  take_after : (j : ℕ) (xs ys : List ℕ) → length xs ≤ j → take j (xs ++ ys) ≡ xs ++ take (j - length xs) ys
  take_after j [] ys h = let z : j ≡ j - 0 = omega arith in ap (λ (n : ℕ). take n ys) z
  take_after zero (x ∷ xs) ys h = absurd (omega (arith, h))
  take_after (suc j) (x ∷ xs) ys h =
      let z : j - length xs ≡ suc j - length (x ∷ xs) = omega arith in
      ap (λ (n : List ℕ). x ∷ n) (take_after j xs ys (omega (arith, h))) ∙ ap (λ (n : ℕ). x ∷ (xs ++ take n ys)) z

  -- two lists together are as long as both
  length_both : (xs ys : List ℕ) → length (xs ++ ys) ≡ length xs + length ys
  length_both [] ys = omega arith
  length_both (x ∷ xs) ys = (let h = length_both xs ys in omega (arith, h))

  -- where the left side's front is whole, the first pairs by the first j variables of both fronts are as level j says
  whole_join : fr.whole ≡ true → (j : ℕ) → j ≤ length (fr.vars ++ gr.vars) → (make : TolledRow → RowEvents → TolledRow)
      → Fits (with_zero plain_profile (pairs_level (length fr.vars) true f.profile g.levels) j) (costs_of (distinct docs (node_keys (take j (fr.vars ++ gr.vars))) make [] all_rows))
  whole_join e zero h make = level_zero docs plain_profile all_rows make plain_fits
  whole_join e (suc j) h make =
      (elim (nat_le (length fr.vars) (suc j))
      as (λ w. nat_le (length fr.vars) (suc j) ≡ w
      → Fits (cond w (replaced f.profile (in_turn one_skip (g.levels (suc j - length fr.vars)))) unbounded) (costs_of (distinct docs (node_keys (take (suc j) (fr.vars ++ gr.vars))) make [] all_rows))) [
        | true ↦ λ t.
            (let m : length fr.vars ≤ suc j = grind (arith, nat_tests, t) in
            let k : ℕ = suc j - length fr.vars in
            let b = length_both fr.vars gr.vars in
            let l : suc j - length fr.vars ≤ length gr.vars = omega (arith, h, b) in
            subst (λ (ks : List Key). Fits (replaced f.profile (in_turn one_skip (g.levels k))) (costs_of (distinct docs ks make [] all_rows)))
            (sym (ap node_keys (take_after (suc j) fr.vars gr.vars m) ∙ node_keys_more fr.vars (take (suc j - length fr.vars) gr.vars)))
            (right_level e k l make))
        | false ↦ λ t. fits_unbounded (costs_of (distinct docs (node_keys (take (suc j) (fr.vars ++ gr.vars))) make [] all_rows))
      ]) refl

  -- where the left side's front isn't whole, the first pairs by the first j variables of that front are as level j says
  part_join : (j : ℕ) (make : TolledRow → RowEvents → TolledRow)
      → Fits (with_zero plain_profile (pairs_level (length fr.vars) false f.profile g.levels) j) (costs_of (distinct docs (node_keys (take j (fr.vars ++ []))) make [] all_rows))
  part_join zero make = level_zero docs plain_profile all_rows make plain_fits
  part_join (suc j) make = fits_unbounded (costs_of (distinct docs (node_keys (take (suc j) (fr.vars ++ []))) make [] all_rows))

  -- the first pairs by a part of their front are as the levels of a join without comparisons say
  plain_leveled : AreLeveled docs (fr.vars ++ cond fr.whole gr.vars []) (with_zero plain_profile (pairs_level (length fr.vars) fr.whole f.profile g.levels)) all_rows
  plain_leveled =
      (elim fr.whole as (λ w. fr.whole ≡ w → AreLeveled docs (fr.vars ++ cond w gr.vars []) (with_zero plain_profile (pairs_level (length fr.vars) w f.profile g.levels)) all_rows) [
        | true ↦ λ e. whole_join e
        | false ↦ λ e. λ j h make. part_join j make
      ]) refl

  -- the pairs of a join without comparisons are as its facts say
  plain_pairs : AreAsKnown docs most both_kinds (fr.vars ++ cond fr.whole gr.vars []) (pairs_facts [] kl fr f g) all_rows
  plain_pairs = record {
    fits = plain_fits;
    bound =
        binding_expand (IsBound docs most kl f) (IsBound docs most both_kinds (pairs_facts [] kl fr f g)) beside
        (λ row b.
        binding_each_row (IsBound docs most kr g) (IsBound docs most both_kinds (pairs_facts [] kl fr f g)) (λ r. row ++ r)
        (λ r c. bound_both docs most kl kr f g (pairs_facts [] kl fr f g) row r (λ v. refl) (λ v. refl) b c) rs right.bound) ls left.bound;
    apart =
        apart_expand docs f.keys g.keys (IsBound docs most kl f) beside
        (λ row b.
        binding_each_row (λ r. Unit {0}) (λ a. key_values docs f.keys a ≡ key_values docs f.keys row) (λ r. row ++ r) (λ r u. left_values f.keys left.nodes row r b) rs
        (each_binding (λ r. Unit {0}) (λ r. tt) rs))
        (λ row b.
        apart_each_row docs g.keys (λ r. Unit {0}) (λ r. row ++ r) (λ r u. right_values g.keys right.nodes row r b) rs (each_binding (λ r. Unit {0}) (λ r. tt) rs) right.apart) ls left.bound left.apart;
    nodes = nodes_append f.keys g.keys both_kinds (left_nodes f.keys left.nodes) (right_nodes g.keys right.nodes);
    leveled = plain_leveled;
  }

  -- the first of the pairs that pass a test, by a part of their front, are as the levels of a join with comparisons say
  tested_leveled : (test : TolledRow → Bool) → AreLeveled docs (fr.vars ++ cond fr.whole gr.vars []) (with_zero (passed plain_profile) (λ j. own_level (passed plain_profile))) (only test all_rows)
  tested_leveled test zero h make = level_zero docs (passed plain_profile) (only test all_rows) make (fits_only plain_profile test all_rows plain_fits)
  tested_leveled test (suc j) h make =
      level_own docs (node_keys (take (suc j) (fr.vars ++ cond fr.whole gr.vars []))) (passed plain_profile) (only test all_rows) make (fits_only plain_profile test all_rows plain_fits)

  -- a join's events are as its facts say
  pub pairs_step : (tests : List Test) → AreAsKnown docs most both_kinds (fr.vars ++ cond fr.whole gr.vars []) (pairs_facts tests kl fr f g) (expand (pairs docs tests rs) ls)
  pairs_step [] =
      subst (AreAsKnown docs most both_kinds (fr.vars ++ cond fr.whole gr.vars []) (pairs_facts [] kl fr f g)) (sym (expand_only (passes_all docs []) beside ls ∙ only_all docs (expand beside ls)))
      plain_pairs
  pairs_step (t ∷ tests) =
      subst (AreAsKnown docs most both_kinds (fr.vars ++ cond fr.whole gr.vars []) (pairs_facts (t ∷ tests) kl fr f g)) (sym (expand_only (passes_all docs (t ∷ tests)) beside ls))
      (record {
        fits = fits_only plain_profile (passes_all docs (t ∷ tests)) all_rows plain_fits;
        bound = binding_only (IsBound docs most both_kinds (pairs_facts [] kl fr f g)) (passes_all docs (t ∷ tests)) all_rows plain_pairs.bound;
        apart = apart_only docs (f.keys ++ g.keys) (passes_all docs (t ∷ tests)) all_rows plain_pairs.apart;
        nodes = plain_pairs.nodes;
        leveled = tested_leveled (passes_all docs (t ∷ tests));
      })
