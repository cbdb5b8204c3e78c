-- The events of each shape have its front, where those of its inputs have theirs.
use Rattle.std.proofs.Common.{◌≡◌, inl, inr, ℕ, zero, suc, ◌+◌, ◌-◌, ◌≤◌, true, false, cond, List, [], ◌∷◌, ◌++◌, refl, sym, ap, subst, ◌∙◌, arith, length, length-append, take, map}
use Rattle.std.specs.Prelude.{Bool, ◌&&◌, ◌||◌, ◌==◌, Option, Some, None}
use Rattle.std.specs.List.{list_any}
use Rattle.std.proofs.lemmas.Bool.{cases_lt, eqb-true}
use Rattle.std.proofs.lemmas.Bool.Decides.{nat_tests}
use Rattle.std.proofs.lemmas.List.Folds.{list_any-append}
use Rattle.mix_base.specs.Events.{skip, bind}
use Rattle.mix_base.proofs.Lists.{append_nil}
use Rattle.mix_tree.specs.Keys.{key_eq, key_var, has_var}
use Rattle.mix_tree.specs.Nodes.{Documents, document_node}
use Rattle.mix_tree.specs.declared.comparing.Test.{Test}
use Rattle.mix_tree.specs.declared.var.Key.{Key}
use Rattle.mix_tree.specs.declared.var.Key.TheVariants.{Node as node_key, LabelOf as label_key}
use Rattle.path_expr.specs.Form.{Form}
use Rattle.path_auto.specs.Visit.{visits}
use Rattle.path_auto.proofs.Bindings.{visits_are_matches}
use Rattle.plan_core.specs.declared.plan.Piece.{Piece}
use Rattle.plan_core.specs.Beside.{EachBinding, AreApart, AreBeside, HaveFront}
use Rattle.plan_core.specs.Events.{RowEvents, expand, each_row, only, descendants, passes_all, pairs, distinct, kept_row, extended, made_value, whole_row, skips, sorted_rows}
use Rattle.plan_core.specs.Fronts.{Front, no_front, node_keys, shared, stage_front}
use Rattle.plan_core.specs.Shapes.{Made, first_by_keys}
use Rattle.plan_core.specs.TolledRows.{TolledRow, of_source, key_values, tolled_value, tolled_restrict, row_node}
use Rattle.plan_core.specs.Valid.{Kind, a_node, a_list, Kinds, no_kinds, with_kind, kept, either_kind, made_kind, stage_kinds, AreNodes}
use Rattle.plan_core.proofs.Aparts.{apart_expand, apart_only, apart_each_row, apart_nodes, distinct_is, covered_apart}
use Rattle.plan_core.proofs.Besides.{beside_none, beside_apart, beside_only, beside_each_row, beside_distinct, beside_expand, beside_pairs}
use Rattle.plan_core.proofs.Bindings.{binding_expand, binding_nodes, binding_each_row, binding_only, binding_distinct, binding_sorted, each_binding}
use Rattle.plan_core.proofs.BoundRows.{IsBound, bound_none, bound_with, bound_restrict, bound_both, fresh_differs, restrict_value, keys_with, nodes_with, nodes_kept, keys_left, keys_right}
use Rattle.plan_core.proofs.KeyValues.{values_alike, shared_front, take_prefix, length_front, take_length}

-- what is known of an operator's events: which variables their bindings have, that its front's are nodes, and that they have the front
pub record AreFronted (docs : Documents) (kinds : Kinds) (f : Front) (es : RowEvents) : Type 0 where
  pub bound : EachBinding (IsBound kinds) es
  pub nodes : AreNodes (node_keys f.vars) kinds
  pub front : HaveFront docs f es

-- events have a front of no variables where, if it is whole, no two of them agree by no keys
none_front : (docs : Documents) (whole : Bool) (es : RowEvents) → (whole ≡ true → AreApart docs [] es) → HaveFront docs (no_front whole) es
none_front docs whole es h = record { beside = beside; whole = h }
  where
    beside : (j : ℕ) → j ≤ length (no_front whole).vars → AreBeside docs (node_keys (take j [])) es
    beside zero l = beside_none docs es
    beside (suc j) l = absurd (omega (arith, l))

-- KEYS OF FRONTS

-- the node keys of two lists of variables are those of the first and then those of the second
node_keys-append : (vs ws : List ℕ) → node_keys (vs ++ ws) ≡ node_keys vs ++ node_keys ws
node_keys-append [] ws = refl
node_keys-append (v ∷ vs) ws = ap (λ (z : List Key). node_key v ∷ z) (node_keys-append vs ws)

-- keys of nodes and more keys of nodes are together keys of nodes
nodes_append : (keys more : List Key) (kinds : Kinds) → AreNodes keys kinds → AreNodes more kinds → AreNodes (keys ++ more) kinds
nodes_append keys more kinds h k v t =
    (elim (has_var keys v) as (λ w. has_var keys v ≡ w → (w || has_var more v) ≡ true → kinds v ≡ Some a_node) [
      | true ↦ λ e g. h v e
      | false ↦ λ e g. k v g
    ]) refl (sym (list_any-append (λ k. key_var k == v) keys more) ∙ t)

-- the first node keys of a list are of nodes where all are
nodes_take : (vs : List ℕ) (j : ℕ) (kinds : Kinds) → AreNodes (node_keys vs) kinds → AreNodes (node_keys (take j vs)) kinds
nodes_take vs zero kinds h v t = cc
nodes_take [] (suc j) kinds h v t = cc
nodes_take (u ∷ vs) (suc j) kinds h v t =
    (elim (u == v) as (λ w. (u == v) ≡ w → (w || has_var (node_keys (take j vs)) v) ≡ true → kinds v ≡ Some a_node) [
      | true ↦ λ e g. h v (rw e refl)
      | false ↦ λ e g. nodes_take vs j kinds (λ x y. h x (later x y)) v g
    ]) refl t
  where
    later : (x : ℕ) → has_var (node_keys vs) x ≡ true → has_var (node_keys (u ∷ vs)) x ≡ true
    later x y = elim (u == x) as (λ w. (w || has_var (node_keys vs) x) ≡ true) [ true ↦ refl | false ↦ y ]

-- a variable whose node is a key is a variable of the keys
eq_var : (u : ℕ) (keys : List Key) → list_any (key_eq (node_key u)) keys ≡ true → has_var keys u ≡ true
eq_var u [] h = cc
eq_var u (node_key v ∷ keys) h =
    (elim (u == v) as (λ w. (u == v) ≡ w → (w || list_any (key_eq (node_key u)) keys) ≡ true → has_var (node_key v ∷ keys) u ≡ true) [
      | true ↦ λ e g. (let t : (v == u) ≡ true = grind (arith, nat_tests, e) in rw t refl)
      | false ↦ λ e g. (let r = eq_var u keys g in elim (v == u) as (λ w. (w || has_var keys u) ≡ true) [ true ↦ refl | false ↦ r ])
    ]) refl h
eq_var u (label_key v ∷ keys) h = (let r = eq_var u keys h in elim (v == u) as (λ w. (w || has_var keys u) ≡ true) [ true ↦ refl | false ↦ r ])

-- a variable that keys share with a front is one of the keys' variables
shared_has : (keys : List Key) (vars : List ℕ) (j v : ℕ) → has_var (node_keys (take j (shared keys vars))) v ≡ true → has_var keys v ≡ true
shared_has keys vars zero v h = cc
shared_has keys [] (suc j) v h = cc
shared_has keys (u ∷ vars) (suc j) v h =
    let later = shared_has keys vars j v in
    (elim (list_any (key_eq (node_key u)) keys)
    as (λ w. list_any (key_eq (node_key u)) keys ≡ w → has_var (node_keys (take (suc j) (cond w (u ∷ shared keys vars) []))) v ≡ true → has_var keys v ≡ true) [
      | true ↦ λ e g. here later e g
      | false ↦ λ e g. cc
    ]) refl h
  where
    here : (has_var (node_keys (take j (shared keys vars))) v ≡ true → has_var keys v ≡ true) → list_any (key_eq (node_key u)) keys ≡ true
        → ((u == v) || has_var (node_keys (take j (shared keys vars))) v) ≡ true → has_var keys v ≡ true
    here later e g =
        (elim (u == v) as (λ w. (u == v) ≡ w → (w || has_var (node_keys (take j (shared keys vars))) v) ≡ true → has_var keys v ≡ true) [
          | true ↦ λ t k. subst (λ (z : ℕ). has_var keys z ≡ true) (eqb-true u v t) (eq_var u keys e)
          | false ↦ λ t k. later k
        ]) refl g

-- SOURCES AND VISITS

-- a source's events have its front
pub source_fronted : (docs : Documents) (s out : ℕ) → AreFronted docs (with_kind out a_node no_kinds) (no_front true) (bind ((out, of_source (document_node s)) ∷ []) ∷ [])
source_fronted docs s out = record {
  bound = (bound_with no_kinds out a_node (of_source (document_node s)) [] bound_none, tt);
  nodes = λ v t. cc;
  front = none_front docs true (bind ((out, of_source (document_node s)) ∷ []) ∷ []) (λ e. (tt, tt));
}

module _ (docs : Documents) (kinds : Kinds) (f : Front) (es : RowEvents) (known : AreFronted docs kinds f es) where
  module _ (start : ℕ) (path : Form) (out : ℕ) (fresh : kinds out ≡ None) where
    abbrev found : RowEvents
    found = expand (descendants docs start path out) es

    -- what a visit binds agrees with its start by keys of the input's variables
    visit_same : (keys : List Key) → AreNodes keys kinds → (row : TolledRow) → EachBinding (λ a. key_values docs keys a ≡ key_values docs keys row) (descendants docs start path out row)
    visit_same keys n row =
        binding_nodes (λ a. key_values docs keys a ≡ key_values docs keys row) out (row_node row start) row
        (λ place. keys_with docs kinds keys out (of_source (record { source = (row_node row start).source; place = place })) row n fresh) (visits docs path (row_node row start))

    -- where the input's front is whole, no two bindings of a visit agree by it and the new variable
    visit_apart : f.whole ≡ true → AreApart docs (node_keys (f.vars ++ out ∷ [])) found
    visit_apart e =
        subst (λ (ks : List Key). AreApart docs ks found) (sym (node_keys-append f.vars (out ∷ [])))
        (apart_expand docs (node_keys f.vars) (node_key out ∷ []) (IsBound kinds) (descendants docs start path out) (λ row b. visit_same (node_keys f.vars) known.nodes row)
        (λ row b. apart_nodes docs out (row_node row start) row (visits docs path (row_node row start)) (visits_are_matches docs path (row_node row start)).ascending) es known.bound (known.front.whole e))

    -- by the first variables of the input's front the bindings of a visit stand side by side
    visit_beside : (j : ℕ) → j ≤ length f.vars → AreBeside docs (node_keys (take j f.vars)) found
    visit_beside j h =
        beside_expand docs (node_keys (take j f.vars)) (IsBound kinds) (descendants docs start path out) (λ row b. visit_same (node_keys (take j f.vars)) (nodes_take f.vars j kinds known.nodes) row) es
        known.bound (known.front.beside j h)

    -- by the first variables of the input's whole front and the new variable the bindings of a visit stand side by side
    longer_beside : f.whole ≡ true → (j : ℕ) → j ≤ length (f.vars ++ out ∷ []) → AreBeside docs (node_keys (take j (f.vars ++ out ∷ []))) found
    longer_beside e j h =
        elim (cases_lt j (suc (length f.vars))) [
          | inl b ↦
              (let l : j ≤ length f.vars = omega (arith, b) in
              subst (λ (vs : List ℕ). AreBeside docs (node_keys vs) found) (sym (take_prefix j f.vars (out ∷ []) l)) (visit_beside j l))
          | inr b ↦
              (let n = one_longer f.vars in
              let s : j ≡ length (f.vars ++ out ∷ []) = omega (arith, h, b, n) in
              let q : take j (f.vars ++ out ∷ []) ≡ f.vars ++ out ∷ [] = ap (λ (n : ℕ). take n (f.vars ++ out ∷ [])) s ∙ take_length (f.vars ++ out ∷ []) in
              subst (λ (vs : List ℕ). AreBeside docs (node_keys vs) found) (sym q) (beside_apart docs (node_keys (f.vars ++ out ∷ [])) found (visit_apart e)))
        ]
      where
        one_longer : (vs : List ℕ) → length (vs ++ out ∷ []) ≡ suc (length vs)
        one_longer [] = refl
        one_longer (v ∷ vs) = (let h = one_longer vs in omega (arith, h))

    -- the new variable is a node
    own_node : AreNodes (node_key out ∷ []) (with_kind out a_node kinds)
    own_node v t = elim (out == v) as (λ w. (w || false) ≡ true → cond w (Some a_node) (kinds v) ≡ Some a_node) [ true ↦ λ g. refl | false ↦ λ g. cc ] t

    -- a getDescendants' events have its front where its input's have theirs
    pub visits_fronted : AreFronted docs (with_kind out a_node kinds) (record { vars = f.vars ++ cond f.whole (out ∷ []) []; whole = f.whole }) found
    visits_fronted =
        (elim f.whole as (λ w. f.whole ≡ w → AreFronted docs (with_kind out a_node kinds) (record { vars = f.vars ++ cond w (out ∷ []) []; whole = w }) found) [
          | true ↦ λ e.
              record {
                bound = all_bound;
                nodes =
                    subst (λ (ks : List Key). AreNodes ks (with_kind out a_node kinds)) (sym (node_keys-append f.vars (out ∷ [])))
                    (nodes_append (node_keys f.vars) (node_key out ∷ []) (with_kind out a_node kinds) (nodes_with kinds (node_keys f.vars) out a_node known.nodes fresh) own_node);
                front = record { beside = longer_beside e; whole = λ t. visit_apart e };
              }
          | false ↦ λ e.
              subst (λ (vs : List ℕ). AreFronted docs (with_kind out a_node kinds) (record { vars = vs; whole = false }) found) (sym (append_nil f.vars))
              (record { bound = all_bound; nodes = nodes_with kinds (node_keys f.vars) out a_node known.nodes fresh; front = record { beside = visit_beside; whole = λ t. cc } })
        ]) refl
      where
        all_bound : EachBinding (IsBound (with_kind out a_node kinds)) found
        all_bound =
            binding_expand (IsBound kinds) (IsBound (with_kind out a_node kinds)) (descendants docs start path out)
            (λ row b.
            binding_nodes (IsBound (with_kind out a_node kinds)) out (row_node row start) row
            (λ place. bound_with kinds out a_node (of_source (record { source = (row_node row start).source; place = place })) row b) (visits docs path (row_node row start))) es known.bound

  -- STAGES

  -- a comparison's events have the front of its input
  pub filtered_fronted : (test : TolledRow → Bool) → AreFronted docs kinds f (only test es)
  filtered_fronted test = record {
    bound = binding_only (IsBound kinds) test es known.bound;
    nodes = known.nodes;
    front = record {
      beside = λ j h. beside_only docs (node_keys (take j f.vars)) test es (known.front.beside j h);
      whole = λ e. apart_only docs (node_keys f.vars) test es (known.front.whole e);
    };
  }

  -- events with one variable more have the front of the input
  pub extended_fronted : (out : ℕ) (made : Made) → kinds out ≡ None → AreFronted docs (with_kind out (made_kind made) kinds) f (each_row (extended docs out made) es)
  extended_fronted out made fresh = record {
    bound =
        binding_each_row (IsBound kinds) (IsBound (with_kind out (made_kind made) kinds)) (extended docs out made) (λ row b. bound_with kinds out (made_kind made) (made_value docs made row) row b) es
        known.bound;
    nodes = nodes_with kinds (node_keys f.vars) out (made_kind made) known.nodes fresh;
    front = record {
      beside = λ j h.
          beside_each_row docs (node_keys (take j f.vars)) (IsBound kinds) (extended docs out made)
          (λ row b. keys_with docs kinds (node_keys (take j f.vars)) out (made_value docs made row) row (nodes_take f.vars j kinds known.nodes) fresh) es known.bound (known.front.beside j h);
      whole = λ e.
          apart_each_row docs (node_keys f.vars) (IsBound kinds) (extended docs out made)
          (λ row b. keys_with docs kinds (node_keys f.vars) out (made_value docs made row) row known.nodes fresh) es known.bound (known.front.whole e);
    };
  }

  -- the one group of all bindings has the front of one binding
  pub grouped_fronted : (piece : Piece) (out : ℕ) → AreFronted docs (with_kind out a_list no_kinds) (no_front true) (bind (whole_row docs piece out es) ∷ [])
  grouped_fronted piece out = record {
    bound = (bound_with no_kinds out a_list _ [] bound_none, tt);
    nodes = λ v t. cc;
    front = none_front docs true (bind (whole_row docs piece out es) ∷ []) (λ e. (tt, tt));
  }

  -- an order's events have the front without variables
  pub ordered_fronted : (v : ℕ) (desc : Bool) → AreFronted docs kinds (no_front false) (skips es ++ map bind (sorted_rows docs v desc es))
  ordered_fronted v desc = record {
    bound = binding_sorted (IsBound kinds) _ es known.bound;
    nodes = λ v t. cc;
    front = none_front docs false (skips es ++ map bind (sorted_rows docs v desc es)) (λ e. cc);
  }

  module _ (keys : List Key) (nodes : AreNodes keys kinds) where
    -- what the group's list is bound to is bound by nothing else
    abbrev IsFreshGroup : Option (Piece × ℕ) → Type 0
    IsFreshGroup None = Unit {0}
    IsFreshGroup (Some group) = kinds group.1 ≡ None

    -- the first binding by keys has the values of the keys' variables
    kept_value : (stops : Bool) (group : Option (Piece × ℕ)) → IsFreshGroup group → (row : TolledRow) (rest : RowEvents) (v : ℕ) → has_var keys v ≡ true
        → tolled_value (kept_row docs keys stops group row rest) v ≡ tolled_value row v
    kept_value stops None fresh row rest v t = restrict_value keys row v t
    kept_value stops (Some group) fresh row rest v t = (let d = fresh_differs kinds group.1 v a_node fresh (nodes v t) in rw d (restrict_value keys row v t))

    -- the first binding by keys, with its group's list if it has one, has values of exactly its own variables
    kept_bound : (stops : Bool) (group : Option (Piece × ℕ)) (row : TolledRow) (rest : RowEvents) → IsBound (stage_kinds (first_by_keys keys group) kinds) (kept_row docs keys stops group row rest)
    kept_bound stops None row rest = bound_restrict kinds keys row nodes
    kept_bound stops (Some group) row rest = bound_with (kept keys kinds) group.1 a_list _ (tolled_restrict keys row) (bound_restrict kinds keys row nodes)

    -- a variable of the front that keys share is among as many of its first ones as there are
    all_shared : (v : ℕ) → has_var (node_keys (shared keys f.vars)) v ≡ true → has_var (node_keys (take (length (shared keys f.vars)) (shared keys f.vars))) v ≡ true
    all_shared v t = subst (λ (vs : List ℕ). has_var (node_keys vs) v ≡ true) (sym (take_length (shared keys f.vars))) t

    -- the variables of the front are among the keys'
    kept_nodes : (group : Option (Piece × ℕ)) → IsFreshGroup group → AreNodes (node_keys (shared keys f.vars)) (stage_kinds (first_by_keys keys group) kinds)
    kept_nodes None fresh v t = nodes_kept kinds keys nodes v (shared_has keys f.vars (length (shared keys f.vars)) v (all_shared v t))
    kept_nodes (Some group) fresh v t =
        let h : has_var keys v ≡ true = shared_has keys f.vars (length (shared keys f.vars)) v (all_shared v t) in
        let d = fresh_differs kinds group.1 v a_node fresh (nodes v h) in rw d (nodes_kept kinds keys nodes v h)

    -- the first bindings by keys have the variables that the keys share with the input's front as their front
    pub kept_fronted : (stops : Bool) (group : Option (Piece × ℕ)) → IsFreshGroup group
        → AreFronted docs (stage_kinds (first_by_keys keys group) kinds) (stage_front (first_by_keys keys group) f) (distinct docs keys (kept_row docs keys stops group) [] es)
    kept_fronted stops group fresh = record {
      bound = binding_distinct (IsBound kinds) (IsBound (stage_kinds (first_by_keys keys group) kinds)) docs keys (kept_row docs keys stops group) (λ row rest b. kept_bound stops group row rest) [] es known.bound;
      nodes = kept_nodes group fresh;
      front = record {
        beside = λ j h.
            beside_distinct docs (node_keys (take j (shared keys f.vars))) keys (kept_row docs keys stops group)
            (λ row rest. values_alike docs (node_keys (take j (shared keys f.vars))) (kept_row docs keys stops group row rest) row
            (λ v t. kept_value stops group fresh row rest v (shared_has keys f.vars j v t))) [] es (shared_beside j h);
        whole = λ c.
            covered_apart docs (node_keys (shared keys f.vars)) keys c (distinct docs keys (kept_row docs keys stops group) [] es)
            (distinct_is docs keys (kept_row docs keys stops group) (λ row rest. values_alike docs keys (kept_row docs keys stops group row rest) row (λ v t. kept_value stops group fresh row rest v t)) [] es).apart;
      };
    }
      where
        shared_beside : (j : ℕ) → j ≤ length (shared keys f.vars) → AreBeside docs (node_keys (take j (shared keys f.vars))) es
        shared_beside j h =
            let s = shared_front keys f.vars in
            let l : length (shared keys f.vars) ≤ length f.vars = subst (λ (z : List ℕ). length (shared keys f.vars) ≤ length z) s.1 (length_front (shared keys f.vars) s.0) in
            let same : take j f.vars ≡ take j (shared keys f.vars) = subst (λ (z : List ℕ). take j z ≡ take j (shared keys f.vars)) s.1 (take_prefix j (shared keys f.vars) s.0 h) in
            subst (λ (vs : List ℕ). AreBeside docs (node_keys vs) es) same (known.front.beside j (omega (arith, h, l)))

-- PAIRS

-- what passes a test of one list of events after another is what passes it of the one, and then of the other
only-append : (test : TolledRow → Bool) (xs ys : RowEvents) → only test (xs ++ ys) ≡ only test xs ++ only test ys
only-append test [] ys = refl
only-append test (skip ∷ xs) ys = ap (λ (z : RowEvents). skip ∷ z) (only-append test xs ys)
only-append test (bind row ∷ xs) ys = ap (λ (z : RowEvents). cond (test row) (bind row) skip ∷ z) (only-append test xs ys)

-- what passes a test of all that each binding gives is what passes it of the whole expansion
expand-only : (test : TolledRow → Bool) (g : TolledRow → RowEvents) (es : RowEvents) → expand (λ row. only test (g row)) es ≡ only test (expand g es)
expand-only test g [] = refl
expand-only test g (skip ∷ es) = ap (λ (z : RowEvents). skip ∷ z) (expand-only test g es)
expand-only test g (bind row ∷ es) =
    ap (λ (z : RowEvents). skip ∷ (only test (g row) ++ z)) (expand-only test g es) ∙ ap (λ (z : RowEvents). skip ∷ z) (sym (only-append test (g row) (expand g es)))

-- the first members of one list after another, more than the one has, are all of the one and the first of the other
take_both : (xs ys : List ℕ) (k : ℕ) → take (length xs + k) (xs ++ ys) ≡ xs ++ take k ys
take_both [] ys k = (let e : 0 + k ≡ k = omega arith in ap (λ (m : ℕ). take m ys) e)
take_both (x ∷ xs) ys k = (let e : suc (length xs) + k ≡ suc (length xs + k) = omega arith in ap (λ (m : ℕ). take m (x ∷ (xs ++ ys))) e ∙ ap (λ (z : List ℕ). x ∷ z) (take_both xs ys k))

module _ (docs : Documents) (kl kr : Kinds) (f g : Front) (ls rs : RowEvents) (left : AreFronted docs kl f ls) (right : AreFronted docs kr g rs)
    (fresh : (v : ℕ) (k : Kind) → kr v ≡ Some k → kl v ≡ None) where
  abbrev beside : TolledRow → RowEvents
  beside row = each_row (λ r. row ++ r) rs

  abbrev both_kinds : Kinds
  both_kinds v = either_kind (kl v) (kr v)

  abbrev paired : RowEvents
  paired = expand beside ls

  -- the right side's bindings, each with nothing said of it
  any_right : EachBinding (λ r. Unit {0}) rs
  any_right = each_binding (λ r. Unit {0}) (λ r. tt) rs

  -- pairs of one binding agree with it by the left side's keys
  left_same : (keys : List Key) → AreNodes keys kl → (row : TolledRow) → IsBound kl row → EachBinding (λ a. key_values docs keys a ≡ key_values docs keys row) (beside row)
  left_same keys n row b =
      binding_each_row (λ r. Unit {0}) (λ a. key_values docs keys a ≡ key_values docs keys row) (λ r. row ++ r) (λ r u. keys_left docs kl keys row r n b) rs any_right

  -- pairs have values of exactly the variables of both sides
  paired_bound : EachBinding (IsBound both_kinds) paired
  paired_bound =
      binding_expand (IsBound kl) (IsBound both_kinds) beside
      (λ row b. binding_each_row (IsBound kr) (IsBound both_kinds) (λ r. row ++ r) (λ r h. bound_both kl kr row r b h) rs right.bound) ls left.bound

  -- keys of the left side are of nodes of the pairs
  left_nodes : (keys : List Key) → AreNodes keys kl → AreNodes keys both_kinds
  left_nodes keys n v t = ap (λ (k : Option Kind). either_kind k (kr v)) (n v t)

  -- keys of the right side are of nodes of the pairs
  right_nodes : (keys : List Key) → AreNodes keys kr → AreNodes keys both_kinds
  right_nodes keys n v t = ap (λ (k : Option Kind). either_kind k (kr v)) (fresh v a_node (n v t)) ∙ n v t

  -- by the first variables of the left front pairs stand side by side
  left_beside : (j : ℕ) → j ≤ length f.vars → AreBeside docs (node_keys (take j f.vars)) paired
  left_beside j h =
      beside_expand docs (node_keys (take j f.vars)) (IsBound kl) beside (λ row b. left_same (node_keys (take j f.vars)) (nodes_take f.vars j kl left.nodes) row b) ls left.bound
      (left.front.beside j h)

  -- by all variables of the whole left front and the first of the right one pairs stand side by side
  both_beside : f.whole ≡ true → (k : ℕ) → k ≤ length g.vars → AreBeside docs (node_keys (f.vars ++ take k g.vars)) paired
  both_beside e k h =
      let more : List Key = node_keys (take k g.vars) in
      subst (λ (ks : List Key). AreBeside docs ks paired) (sym (node_keys-append f.vars (take k g.vars)))
      (beside_pairs docs (node_keys f.vars) more (IsBound kl) beside (λ row b. left_same (node_keys f.vars) left.nodes row b)
      (λ row b.
      beside_each_row docs more (λ r. Unit {0}) (λ r. row ++ r) (λ r u. keys_right docs kl kr more row r (nodes_take g.vars k kr right.nodes) fresh b) rs any_right (right.front.beside k h))
      ls left.bound (left.front.whole e))

  -- where both fronts are whole, no two pairs agree by all variables of both
  both_apart : f.whole ≡ true → g.whole ≡ true → AreApart docs (node_keys (f.vars ++ g.vars)) paired
  both_apart e d =
      subst (λ (ks : List Key). AreApart docs ks paired) (sym (node_keys-append f.vars g.vars))
      (apart_expand docs (node_keys f.vars) (node_keys g.vars) (IsBound kl) beside (λ row b. left_same (node_keys f.vars) left.nodes row b)
      (λ row b.
      apart_each_row docs (node_keys g.vars) (λ r. Unit {0}) (λ r. row ++ r) (λ r u. keys_right docs kl kr (node_keys g.vars) row r right.nodes fresh b) rs any_right (right.front.whole d))
      ls left.bound (left.front.whole e))

  -- by the first variables of the whole left front and the right one pairs stand side by side
  longer_beside_both : f.whole ≡ true → (j : ℕ) → j ≤ length (f.vars ++ g.vars) → AreBeside docs (node_keys (take j (f.vars ++ g.vars))) paired
  longer_beside_both e j h =
      elim (cases_lt j (length f.vars)) [
        | inl b ↦
            (let l : j ≤ length f.vars = omega (arith, b) in
            subst (λ (vs : List ℕ). AreBeside docs (node_keys vs) paired) (sym (take_prefix j f.vars g.vars l)) (left_beside j l))
        | inr b ↦
            (let n = length-append f.vars g.vars in
            let k : ℕ = j - length f.vars in
            let s : j ≡ length f.vars + k = omega (arith, b) in
            let l : k ≤ length g.vars = omega (arith, h, n, s, b) in
            let q : take j (f.vars ++ g.vars) ≡ f.vars ++ take k g.vars = ap (λ (m : ℕ). take m (f.vars ++ g.vars)) s ∙ take_both f.vars g.vars k in
            subst (λ (vs : List ℕ). AreBeside docs (node_keys vs) paired) (sym q) (both_beside e k l))
      ]

  -- all pairs have the front of a join, before its comparisons
  paired_fronted : AreFronted docs both_kinds (record { vars = f.vars ++ cond f.whole g.vars []; whole = f.whole && g.whole }) paired
  paired_fronted =
      (elim f.whole as (λ w. f.whole ≡ w → AreFronted docs both_kinds (record { vars = f.vars ++ cond w g.vars []; whole = w && g.whole }) paired) [
        | true ↦ λ e.
            record {
              bound = paired_bound;
              nodes =
                  subst (λ (ks : List Key). AreNodes ks both_kinds) (sym (node_keys-append f.vars g.vars))
                  (nodes_append (node_keys f.vars) (node_keys g.vars) both_kinds (left_nodes (node_keys f.vars) left.nodes) (right_nodes (node_keys g.vars) right.nodes));
              front = record { beside = longer_beside_both e; whole = λ d. both_apart e d };
            }
        | false ↦ λ e.
            subst (λ (vs : List ℕ). AreFronted docs both_kinds (record { vars = vs; whole = false }) paired) (sym (append_nil f.vars))
            (record { bound = paired_bound; nodes = left_nodes (node_keys f.vars) left.nodes; front = record { beside = left_beside; whole = λ t. cc } })
      ]) refl

  -- a join's events have its front where those of both sides have theirs
  pub pairs_fronted : (tests : List Test) → AreFronted docs both_kinds (record { vars = f.vars ++ cond f.whole g.vars []; whole = f.whole && g.whole }) (expand (pairs docs tests rs) ls)
  pairs_fronted tests =
      subst (AreFronted docs both_kinds (record { vars = f.vars ++ cond f.whole g.vars []; whole = f.whole && g.whole })) (sym (expand-only (passes_all docs tests) beside ls))
      (filtered_fronted docs both_kinds (record { vars = f.vars ++ cond f.whole g.vars []; whole = f.whole && g.whole }) paired paired_fronted (passes_all docs tests))
