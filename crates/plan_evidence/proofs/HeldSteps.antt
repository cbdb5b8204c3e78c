-- Of each shape: no two bindings agree by the keys that it holds, where so it is of its inputs.
use Rattle.std.proofs.Common.{◌≡◌, ℕ, true, false, cond, List, [], ◌∷◌, ◌++◌, refl, sym, ap, ◌∙◌, map}
use Rattle.std.specs.Prelude.{Bool, ◌||◌, ◌==◌, Option, Some, None}
use Rattle.std.proofs.lemmas.List.Folds.{list_any-append}
use Rattle.mix_base.specs.Events.{bind}
use Rattle.mix_tree.specs.Keys.{key_var, has_var}
use Rattle.mix_tree.specs.Nodes.{Documents, document_node}
use Rattle.mix_tree.specs.declared.comparing.Test.{Test}
use Rattle.mix_tree.specs.declared.var.Key.{Key}
use Rattle.mix_tree.specs.declared.var.Key.TheVariants.{Node as node_key}
use Rattle.path_expr.specs.Form.{Form}
use Rattle.path_auto.specs.Visit.{visits}
use Rattle.path_auto.proofs.Bindings.{visits_are_matches}
use Rattle.plan_core.specs.declared.plan.Piece.{Piece}
use Rattle.plan_core.specs.Beside.{EachBinding, AreApart}
use Rattle.plan_core.specs.Events.{RowEvents, expand, each_row, only, descendants, passes_all, pairs, distinct, kept_row, extended, made_value, whole_row, skips, sorted_rows}
use Rattle.plan_core.specs.Shapes.{Made, first_by_keys}
use Rattle.plan_core.specs.TolledRows.{TolledRow, of_source, key_values, tolled_value, tolled_restrict, row_node}
use Rattle.plan_core.specs.Valid.{Kind, a_node, a_list, Kinds, no_kinds, with_kind, kept, either_kind, made_kind, stage_kinds, AreNodes}
use Rattle.plan_core.proofs.Aparts.{apart_expand, apart_only, apart_each_row, apart_nodes, distinct_is}
use Rattle.plan_core.proofs.Bindings.{binding_expand, binding_nodes, binding_each_row, binding_only, binding_distinct, binding_sorted, each_binding}
use Rattle.plan_core.proofs.BoundRows.{IsBound, bound_none, bound_with, bound_restrict, bound_both, fresh_differs, restrict_value, keys_with, nodes_with, nodes_kept, keys_left, keys_right}
use Rattle.plan_core.proofs.KeyValues.{values_alike}
use Rattle.browse_class.proofs.Sorts.{sorted_apart}

-- events bind variables of these kinds, keys are of nodes, and no two of the bindings agree by them
pub record AreHeld (docs : Documents) (kinds : Kinds) (keys : List Key) (es : RowEvents) : Type 0 where
  pub bound : EachBinding (IsBound kinds) es
  pub nodes : AreNodes keys kinds
  pub apart : AreApart docs keys es

-- where keys are of nodes and others are, both together are
nodes_both : (keys more : List Key) (kinds : Kinds) → AreNodes keys kinds → AreNodes more kinds → AreNodes (keys ++ more) kinds
nodes_both keys more kinds h k v t =
    (elim (has_var keys v) as (λ w. has_var keys v ≡ w → (w || has_var more v) ≡ true → kinds v ≡ Some a_node) [
      | true ↦ λ e g. h v e
      | false ↦ λ e g. k v g
    ]) refl (sym (list_any-append (λ k. key_var k == v) keys more) ∙ t)

-- the key of a node that is bound anew is of a node
own_node : (out : ℕ) (kinds : Kinds) → AreNodes (node_key out ∷ []) (with_kind out a_node kinds)
own_node out kinds v t = elim (out == v) as (λ w. (w || false) ≡ true → cond w (Some a_node) (kinds v) ≡ Some a_node) [ true ↦ λ g. refl | false ↦ λ g. cc ] t

-- the binding of a source agrees with no other by its node
pub source_held : (docs : Documents) (s out : ℕ) → AreHeld docs (with_kind out a_node no_kinds) (node_key out ∷ []) (bind ((out, of_source (document_node s)) ∷ []) ∷ [])
source_held docs s out = record {
  bound = (bound_with no_kinds out a_node (of_source (document_node s)) [] bound_none, tt);
  nodes = own_node out no_kinds;
  apart = (tt, tt);
}

module _ (docs : Documents) (kinds : Kinds) (keys : List Key) (es : RowEvents) (known : AreHeld docs kinds keys es) where
  -- no two bindings of a getDescendants agree by its input's held keys and the node that it binds
  pub visits_held : (start : ℕ) (path : Form) (out : ℕ) → kinds out ≡ None → AreHeld docs (with_kind out a_node kinds) (keys ++ node_key out ∷ []) (expand (descendants docs start path out) es)
  visits_held start path out fresh = record {
    bound =
        binding_expand (IsBound kinds) (IsBound (with_kind out a_node kinds)) (descendants docs start path out)
        (λ row b.
        binding_nodes (IsBound (with_kind out a_node kinds)) out (row_node row start) row
        (λ place. bound_with kinds out a_node (of_source (record { source = (row_node row start).source; place = place })) row b) (visits docs path (row_node row start))) es known.bound;
    nodes = nodes_both keys (node_key out ∷ []) (with_kind out a_node kinds) (nodes_with kinds keys out a_node known.nodes fresh) (own_node out kinds);
    apart =
        apart_expand docs keys (node_key out ∷ []) (IsBound kinds) (descendants docs start path out)
        (λ row b.
        binding_nodes (λ a. key_values docs keys a ≡ key_values docs keys row) out (row_node row start) row
        (λ place. keys_with docs kinds keys out (of_source (record { source = (row_node row start).source; place = place })) row known.nodes fresh) (visits docs path (row_node row start)))
        (λ row b. apart_nodes docs out (row_node row start) row (visits docs path (row_node row start)) (visits_are_matches docs path (row_node row start)).ascending) es known.bound known.apart;
  }

  -- no two bindings that pass a comparison agree by the held keys
  pub filtered_held : (test : TolledRow → Bool) → AreHeld docs kinds keys (only test es)
  filtered_held test = record { bound = binding_only (IsBound kinds) test es known.bound; nodes = known.nodes; apart = apart_only docs keys test es known.apart }

  -- no two bindings with a variable more agree by the held keys
  pub extended_held : (out : ℕ) (made : Made) → kinds out ≡ None → AreHeld docs (with_kind out (made_kind made) kinds) keys (each_row (extended docs out made) es)
  extended_held out made fresh = record {
    bound =
        binding_each_row (IsBound kinds) (IsBound (with_kind out (made_kind made) kinds)) (extended docs out made) (λ row b. bound_with kinds out (made_kind made) (made_value docs made row) row b) es
        known.bound;
    nodes = nodes_with kinds keys out (made_kind made) known.nodes fresh;
    apart =
        apart_each_row docs keys (IsBound kinds) (extended docs out made) (λ row b. keys_with docs kinds keys out (made_value docs made row) row known.nodes fresh) es known.bound known.apart;
  }

  -- the binding of one group of all agrees with no other, by no keys
  pub grouped_held : (piece : Piece) (out : ℕ) → AreHeld docs (with_kind out a_list no_kinds) [] (bind (whole_row docs piece out es) ∷ [])
  grouped_held piece out = record { bound = (bound_with no_kinds out a_list _ [] bound_none, tt); nodes = λ v t. cc; apart = (tt, tt) }

  -- no two bindings in order agree by the held keys
  pub ordered_held : (v : ℕ) (desc : Bool) → AreHeld docs kinds keys (skips es ++ map bind (sorted_rows docs v desc es))
  ordered_held v desc = record { bound = binding_sorted (IsBound kinds) _ es known.bound; nodes = known.nodes; apart = sorted_apart docs keys _ es known.apart }

  module _ (own : List Key) (nodes : AreNodes own kinds) where
    -- the variable of a group's list, where there is one, isn't bound before
    abbrev pub IsFresh : Option (Piece × ℕ) → Type 0
    IsFresh None = Unit {0}
    IsFresh (Some group) = kinds group.1 ≡ None

    -- what is made of the first binding by keys has that binding's values of the keys' variables
    pub kept_value : (stops : Bool) (group : Option (Piece × ℕ)) → IsFresh group → (row : TolledRow) (rest : RowEvents) (v : ℕ) → has_var own v ≡ true
        → tolled_value (kept_row docs own stops group row rest) v ≡ tolled_value row v
    kept_value stops None fresh row rest v t = restrict_value own row v t
    kept_value stops (Some group) fresh row rest v t = (let d = fresh_differs kinds group.1 v a_node fresh (nodes v t) in rw d (restrict_value own row v t))

    -- what is made of the first binding by keys binds the keys' variables, and that of the group's list
    kept_bound : (stops : Bool) (group : Option (Piece × ℕ)) (row : TolledRow) (rest : RowEvents) → IsBound (stage_kinds (first_by_keys own group) kinds) (kept_row docs own stops group row rest)
    kept_bound stops None row rest = bound_restrict kinds own row nodes
    kept_bound stops (Some group) row rest = bound_with (kept own kinds) group.1 a_list _ (tolled_restrict own row) (bound_restrict kinds own row nodes)

    -- the keys are of nodes of what is made of first bindings by them
    kept_nodes : (group : Option (Piece × ℕ)) → IsFresh group → AreNodes own (stage_kinds (first_by_keys own group) kinds)
    kept_nodes None fresh v t = nodes_kept kinds own nodes v t
    kept_nodes (Some group) fresh v t = (let d = fresh_differs kinds group.1 v a_node fresh (nodes v t) in rw d (nodes_kept kinds own nodes v t))

    -- no two of what is made of first bindings by keys agree by the keys
    pub kept_held : (stops : Bool) (group : Option (Piece × ℕ)) → IsFresh group
        → AreHeld docs (stage_kinds (first_by_keys own group) kinds) own (distinct docs own (kept_row docs own stops group) [] es)
    kept_held stops group fresh = record {
      bound = binding_distinct (IsBound kinds) (IsBound (stage_kinds (first_by_keys own group) kinds)) docs own (kept_row docs own stops group) (λ row rest b. kept_bound stops group row rest) [] es known.bound;
      nodes = kept_nodes group fresh;
      apart =
          (distinct_is docs own (kept_row docs own stops group) (λ row rest. values_alike docs own (kept_row docs own stops group row rest) row (λ v t. kept_value stops group fresh row rest v t)) [] es).apart;
    }

module _ (docs : Documents) (kl kr : Kinds) (own more : List Key) (ls rs : RowEvents) (left : AreHeld docs kl own ls) (right : AreHeld docs kr more rs)
    (fresh : (v : ℕ) (k : Kind) → kr v ≡ Some k → kl v ≡ None) where
  -- the right side's bindings beside one of the left side
  abbrev beside : TolledRow → RowEvents
  beside row = each_row (λ r. row ++ r) rs

  -- the kinds of the variables that either side binds
  abbrev both_kinds : Kinds
  both_kinds v = either_kind (kl v) (kr v)

  -- nothing at all is said of each of the right side's bindings
  any_right : EachBinding (λ r. Unit {0}) rs
  any_right = each_binding (λ r. Unit {0}) (λ r. tt) rs

  -- no two bindings of a join agree by the held keys of both of its sides, where no two of either side do by its own
  pub pairs_held : (tests : List Test) → AreHeld docs both_kinds (own ++ more) (expand (pairs docs tests rs) ls)
  pairs_held tests = record {
    bound =
        binding_expand (IsBound kl) (IsBound both_kinds) (pairs docs tests rs)
        (λ row b. binding_only (IsBound both_kinds) (passes_all docs tests) (beside row) (binding_each_row (IsBound kr) (IsBound both_kinds) (λ r. row ++ r) (λ r h. bound_both kl kr row r b h) rs right.bound))
        ls left.bound;
    nodes =
        nodes_both own more both_kinds (λ v t. ap (λ (k : Option Kind). either_kind k (kr v)) (left.nodes v t))
        (λ v t. ap (λ (k : Option Kind). either_kind k (kr v)) (fresh v a_node (right.nodes v t)) ∙ right.nodes v t);
    apart =
        apart_expand docs own more (IsBound kl) (pairs docs tests rs)
        (λ row b.
        binding_only (λ a. key_values docs own a ≡ key_values docs own row) (passes_all docs tests) (beside row)
        (binding_each_row (λ r. Unit {0}) (λ a. key_values docs own a ≡ key_values docs own row) (λ r. row ++ r) (λ r u. keys_left docs kl own row r left.nodes b) rs any_right))
        (λ row b.
        apart_only docs more (passes_all docs tests) (beside row)
        (apart_each_row docs more (λ r. Unit {0}) (λ r. row ++ r) (λ r u. keys_right docs kl kr more row r right.nodes fresh b) rs any_right right.apart)) ls left.bound left.apart;
  }
