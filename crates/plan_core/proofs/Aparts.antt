-- Bindings of which no two agree, and what operators make of them.
use Rattle.std.proofs.Common.{◌≡◌, inl, inr, ℕ, true, false, cond, List, [], ◌∷◌, ◌++◌, refl, sym, ap, subst, ◌∙◌, arith, map}
use Rattle.std.specs.Prelude.{Bool, ◌&&◌, ◌||◌, ◌==◌}
use Rattle.std.specs.List.{AllByRecursion}
use Rattle.std.proofs.lemmas.Bool.Decides.{nat_tests}
use Rattle.std.proofs.lemmas.List.Folds.{list_any-append}
use Rattle.mix_base.specs.Ascents.{Ascending}
use Rattle.mix_base.specs.Events.{Event, skip, bind, without_skips}
use Rattle.mix_tree.specs.Nodes.{Documents, Node, same_node, PlaceBefore}
use Rattle.mix_tree.specs.declared.var.Key.{Key}
use Rattle.mix_tree.specs.declared.var.Key.TheVariants.{Node as node_key}
use Rattle.mix_tree.proofs.SameKeys.{same_node-true}
use Rattle.plan_core.specs.Beside.{EachBinding, Differ, AreApart}
use Rattle.plan_core.specs.Events.{RowEvents, expand, each_row, only, nodes_found, with_node, distinct}
use Rattle.plan_core.specs.Fronts.{covers}
use Rattle.plan_core.specs.TolledRows.{TolledRow, KeyValue, key_value, key_values, same_value, same_values, is_seen, row_node}
use Rattle.plan_core.proofs.Bindings.{binding_append, binding_weaker, binding_only}
use Rattle.plan_core.proofs.KeyValues.{covered_differ}

-- a conjunction of which one part fails
and_false : (a b : Bool) → a ≡ false → (a && b) ≡ false
and_false true b h = cc
and_false false b h = refl

false_and : (a b : Bool) → b ≡ false → (a && b) ≡ false
false_and true b h = h
false_and false b h = refl

module _ (docs : Documents) where
  -- what differs by keys differs by these and more
  pub differ_left : (keys more : List Key) (a b : ℕ → Node) → same_values (map (key_value docs a) keys) (map (key_value docs b) keys) ≡ false
      → same_values (map (key_value docs a) (keys ++ more)) (map (key_value docs b) (keys ++ more)) ≡ false
  differ_left [] more a b h = cc
  differ_left (k ∷ keys) more a b h =
      (elim (same_value (key_value docs a k) (key_value docs b k)) as (λ w. (w && same_values (map (key_value docs a) keys) (map (key_value docs b) keys)) ≡ false
      → (w && same_values (map (key_value docs a) (keys ++ more)) (map (key_value docs b) (keys ++ more))) ≡ false) [
        | true ↦ λ g. differ_left keys more a b g
        | false ↦ λ g. refl
      ]) h

  -- nodes that differ by keys differ by these keys after others
  differ_right : (keys more : List Key) (a b : ℕ → Node) → same_values (map (key_value docs a) more) (map (key_value docs b) more) ≡ false
      → same_values (map (key_value docs a) (keys ++ more)) (map (key_value docs b) (keys ++ more)) ≡ false
  differ_right [] more a b h = h
  differ_right (k ∷ keys) more a b h =
      false_and (same_value (key_value docs a k) (key_value docs b k)) (same_values (map (key_value docs a) (keys ++ more)) (map (key_value docs b) (keys ++ more))) (differ_right keys more a b h)

  -- bindings whose keys have the values of others that differ, differ
  differ_same : (keys : List Key) (a b c d : TolledRow) → key_values docs keys a ≡ key_values docs keys c → key_values docs keys b ≡ key_values docs keys d → Differ docs keys c d → Differ docs keys a b
  differ_same keys a b c d e f h = ap (λ (x : List KeyValue). same_values x (key_values docs keys b)) e ∙ ap (same_values (key_values docs keys c)) f ∙ h

  -- events of which no two agree, before others that differ from them, are events of which no two agree
  apart_append : (keys : List Key) (xs ys : RowEvents) → AreApart docs keys xs → AreApart docs keys ys → EachBinding (λ a. EachBinding (Differ docs keys a) ys) xs → AreApart docs keys (xs ++ ys)
  apart_append keys [] ys h k d = k
  apart_append keys (skip ∷ xs) ys h k d = apart_append keys xs ys h k d
  apart_append keys (bind row ∷ xs) ys h k d = (binding_append (Differ docs keys row) xs ys h.0 d.0, apart_append keys xs ys h.1 k d.1)

  -- where no two bindings agree by some keys, no two agree by these after others
  apart_right : (keys more : List Key) (es : RowEvents) → AreApart docs more es → AreApart docs (keys ++ more) es
  apart_right keys more [] h = tt
  apart_right keys more (skip ∷ es) h = apart_right keys more es h
  apart_right keys more (bind row ∷ es) h =
      (binding_weaker (Differ docs more row) (Differ docs (keys ++ more) row) (λ b d. differ_right keys more (row_node row) (row_node b) d) es h.0, apart_right keys more es h.1)

  -- each binding replaced by bindings that agree with it by its keys, and differ by more keys
  module _ (keys more : List Key) (P : TolledRow → Type 0) (f : TolledRow → RowEvents)
      (extends : (row : TolledRow) → P row → EachBinding (λ a. key_values docs keys a ≡ key_values docs keys row) (f row)) (inner : (row : TolledRow) → P row → AreApart docs more (f row)) where
    -- what two different bindings give
    pair_differ : (row other a : TolledRow) → key_values docs keys a ≡ key_values docs keys row → Differ docs keys row other → (es : RowEvents)
        → EachBinding (λ b. key_values docs keys b ≡ key_values docs keys other) es → EachBinding (Differ docs (keys ++ more) a) es
    pair_differ row other a e d es h =
        binding_weaker (λ b. key_values docs keys b ≡ key_values docs keys other) (Differ docs (keys ++ more) a) (λ b g. differ_left keys more (row_node a) (row_node b) (differ_same keys a b row other e g d)) es h

    -- what a binding gives differs from all that the bindings after it give, where these differ from it
    others_differ : (row a : TolledRow) → key_values docs keys a ≡ key_values docs keys row → (es : RowEvents) → EachBinding P es → EachBinding (Differ docs keys row) es → EachBinding (Differ docs (keys ++ more) a) (expand f es)
    others_differ row a e [] p d = tt
    others_differ row a e (skip ∷ es) p d = others_differ row a e es p d
    others_differ row a e (bind other ∷ es) p d =
        binding_append (Differ docs (keys ++ more) a) (f other) (expand f es) (pair_differ row other a e d.0 (f other) (extends other p.0)) (others_differ row a e es p.1 d.1)

    -- no two of all of them agree by the keys together
    pub apart_expand : (es : RowEvents) → EachBinding P es → AreApart docs keys es → AreApart docs (keys ++ more) (expand f es)
    apart_expand [] p d = tt
    apart_expand (skip ∷ es) p d = apart_expand es p d
    apart_expand (bind row ∷ es) p d =
        apart_append (keys ++ more) (f row) (expand f es) (apart_right keys more (f row) (inner row p.0)) (apart_expand es p.1 d.1)
        (binding_weaker (λ a. key_values docs keys a ≡ key_values docs keys row) (λ a. EachBinding (Differ docs (keys ++ more) a) (expand f es)) (λ a e. others_differ row a e es p.1 d.0) (f row) (extends row p.0))

  -- where no two bindings agree, no two of those that pass a test agree
  pub apart_only : (keys : List Key) (test : TolledRow → Bool) (es : RowEvents) → AreApart docs keys es → AreApart docs keys (only test es)
  apart_only keys test [] h = tt
  apart_only keys test (skip ∷ es) h = apart_only keys test es h
  apart_only keys test (bind row ∷ es) h =
      let r = apart_only keys test es h.1 in
      let d = binding_only (Differ docs keys row) test es h.0 in
      elim (test row) as (λ w. AreApart docs keys (cond w (bind row) skip ∷ only test es)) [ true ↦ (d, r) | false ↦ r ]

  -- where no two bindings agree, no two that are made anew with the same keys agree
  pub apart_each_row : (keys : List Key) (P : TolledRow → Type 0) (f : TolledRow → TolledRow) → ((row : TolledRow) → P row → key_values docs keys (f row) ≡ key_values docs keys row)
      → (es : RowEvents) → EachBinding P es → AreApart docs keys es → AreApart docs keys (each_row f es)
  apart_each_row keys P f e [] p h = tt
  apart_each_row keys P f e (skip ∷ es) p h = apart_each_row keys P f e es p h
  apart_each_row keys P f e (bind row ∷ es) p h = (others row p.0 es p.1 h.0, apart_each_row keys P f e es p.1 h.1)
    where
      others : (row : TolledRow) → P row → (es : RowEvents) → EachBinding P es → EachBinding (Differ docs keys row) es → EachBinding (Differ docs keys (f row)) (each_row f es)
      others row r [] p h = tt
      others row r (skip ∷ es) p h = others row r es p h
      others row r (bind b ∷ es) p h = (differ_same keys (f row) (f b) row b (e row r) (e b p.0) h.0, others row r es p.1 h.1)

  -- places in order are different
  before_itself : (p : List ℕ) → PlaceBefore p p → ⊥
  before_itself [] h = h
  before_itself (i ∷ p) (inl h) = omega (arith, h)
  before_itself (i ∷ p) (inr h) = before_itself p h.1

  -- bindings of two places in order differ by the new variable
  node_differs : (out : ℕ) (start : Node) (row : TolledRow) (p q : List ℕ) → PlaceBefore p q → Differ docs (node_key out ∷ []) (with_node out start row p) (with_node out start row q)
  node_differs out start row p q h =
      let e : (out == out) ≡ true = grind (arith, nat_tests) in
      rw e
      (and_false (same_node (record { source = start.source; place = p }) (record { source = start.source; place = q })) true (apart p q h))
    where
      apart : (p q : List ℕ) → PlaceBefore p q → same_node (record { source = start.source; place = p }) (record { source = start.source; place = q }) ≡ false
      apart p q h =
          (elim (same_node (record { source = start.source; place = p }) (record { source = start.source; place = q }))
          as (λ w. same_node (record { source = start.source; place = p }) (record { source = start.source; place = q }) ≡ w → w ≡ false) [
            | true ↦ λ e.
                (let same : p ≡ q = ap (λ (n : Node). n.place) (same_node-true (record { source = start.source; place = p }) (record { source = start.source; place = q }) e) in
                absurd (before_itself q (subst (λ (z : List ℕ). PlaceBefore z q) same h)))
            | false ↦ λ e. refl
          ]) refl

  -- a binding of a place differs by the new variable from those of all places after it
  nodes_differ : (out : ℕ) (start : Node) (row : TolledRow) (p : List ℕ) (es : List (Event (List ℕ))) → AllByRecursion (PlaceBefore p) (without_skips es)
      → EachBinding (Differ docs (node_key out ∷ []) (with_node out start row p)) (nodes_found out start row es)
  nodes_differ out start row p [] h = tt
  nodes_differ out start row p (skip ∷ es) h = nodes_differ out start row p es h
  nodes_differ out start row p (bind q ∷ es) h = (node_differs out start row p q h.0, nodes_differ out start row p es h.1)

  -- no two bindings of the nodes of a visit agree by the new variable
  pub apart_nodes : (out : ℕ) (start : Node) (row : TolledRow) (es : List (Event (List ℕ))) → Ascending PlaceBefore (without_skips es) → AreApart docs (node_key out ∷ []) (nodes_found out start row es)
  apart_nodes out start row [] h = tt
  apart_nodes out start row (skip ∷ es) h = apart_nodes out start row es h
  apart_nodes out start row (bind p ∷ es) h = (nodes_differ out start row p es h.0, apart_nodes out start row es h.1)

  -- bindings whose keys were not seen
  module _ (keys : List Key) (make : TolledRow → RowEvents → TolledRow) where
    -- no two agree, and none was seen
    pub record IsDistinct (seen : List (List KeyValue)) (es : RowEvents) : Type 0 where
      pub unseen : EachBinding (λ c. is_seen (key_values docs keys c) seen ≡ false) es
      pub apart : AreApart docs keys es

    -- what is not seen among more
    was_unseen : (k x : List KeyValue) (seen : List (List KeyValue)) → is_seen k (seen ++ x ∷ []) ≡ false → (is_seen k seen ≡ false) × (same_values x k ≡ false)
    was_unseen k x seen h =
        (elim (is_seen k seen) as (λ w. (w || (same_values x k || false)) ≡ false → (w ≡ false) × (same_values x k ≡ false)) [
          | true ↦ λ g. cc
          | false ↦ λ g. (refl, last (same_values x k) g)
        ]) (sym (list_any-append (λ s. same_values s k) seen (x ∷ [])) ∙ h)
      where
        last : (a : Bool) → (a || false) ≡ false → a ≡ false
        last true g = g
        last false g = refl

    -- the bindings that are kept as first by keys are distinct: no two agree, and the keys of none were seen
    pub distinct_is : ((row : TolledRow) (rest : RowEvents) → key_values docs keys (make row rest) ≡ key_values docs keys row) → (seen : List (List KeyValue)) (es : RowEvents) → IsDistinct seen (distinct docs keys make seen es)
    distinct_is h seen [] = record { unseen = tt; apart = tt }
    distinct_is h seen (skip ∷ es) = (let r = distinct_is h seen es in record { unseen = r.unseen; apart = r.apart })
    distinct_is h seen (bind row ∷ es) =
        let old = distinct_is h seen es in
        let new = distinct_is h (seen ++ key_values docs keys row ∷ []) es in
        let rest : RowEvents = distinct docs keys make (seen ++ key_values docs keys row ∷ []) es in
        (elim (is_seen (key_values docs keys row) seen) as (λ w. is_seen (key_values docs keys row) seen ≡ w → IsDistinct seen (cond w (skip ∷ distinct docs keys make seen es) (bind (make row es) ∷ rest))) [
          | true ↦ λ e. record { unseen = old.unseen; apart = old.apart }
          | false ↦ λ e.
              record {
                unseen = (
                  ap (λ (k : List KeyValue). is_seen k seen) (h row es) ∙ e,
                  binding_weaker (λ c. is_seen (key_values docs keys c) (seen ++ key_values docs keys row ∷ []) ≡ false) (λ c. is_seen (key_values docs keys c) seen ≡ false)
                      (λ c u. (was_unseen (key_values docs keys c) (key_values docs keys row) seen u).0) rest new.unseen,
                );
                apart = (
                  binding_weaker (λ c. is_seen (key_values docs keys c) (seen ++ key_values docs keys row ∷ []) ≡ false) (Differ docs keys (make row es))
                      (λ c u. ap (λ (k : List KeyValue). same_values k (key_values docs keys c)) (h row es) ∙ (was_unseen (key_values docs keys c) (key_values docs keys row) seen u).1) rest new.unseen,
                  new.apart,
                );
              }
        ]) refl

  -- where no two agree by keys, no two agree by those that cover them
  pub covered_apart : (keys others : List Key) → covers keys others ≡ true → (es : RowEvents) → AreApart docs others es → AreApart docs keys es
  covered_apart keys others c [] h = tt
  covered_apart keys others c (skip ∷ es) h = covered_apart keys others c es h
  covered_apart keys others c (bind row ∷ es) h =
      (binding_weaker (Differ docs others row) (Differ docs keys row) (λ b d. covered_differ docs keys others c row b d) es h.0, covered_apart keys others c es h.1)

  -- what was not seen is not seen after a binding from which it differs
  unseen_more : (keys : List Key) (row : TolledRow) (seen : List (List KeyValue)) (es : RowEvents) → EachBinding (λ c. is_seen (key_values docs keys c) seen ≡ false) es
      → EachBinding (Differ docs keys row) es → EachBinding (λ c. is_seen (key_values docs keys c) (seen ++ key_values docs keys row ∷ []) ≡ false) es
  unseen_more keys row seen [] u d = tt
  unseen_more keys row seen (skip ∷ es) u d = unseen_more keys row seen es u d
  unseen_more keys row seen (bind c ∷ es) u d = (
    list_any-append (λ s. same_values s (key_values docs keys c)) seen (key_values docs keys row ∷ []) ∙ rw (u.0, d.0) refl,
    unseen_more keys row seen es u.1 d.1,
  )

  -- where no two agree, and none was seen, none is dropped
  pub distinct_apart : (keys : List Key) (f : TolledRow → TolledRow) (seen : List (List KeyValue)) (es : RowEvents) → EachBinding (λ c. is_seen (key_values docs keys c) seen ≡ false) es
      → AreApart docs keys es → distinct docs keys (λ row rest. f row) seen es ≡ each_row f es
  distinct_apart keys f seen [] u h = refl
  distinct_apart keys f seen (skip ∷ es) u h = ap (λ (z : RowEvents). skip ∷ z) (distinct_apart keys f seen es u h)
  distinct_apart keys f seen (bind row ∷ es) u h =
      rw u.0 (ap (λ (z : RowEvents). bind (f row) ∷ z) (distinct_apart keys f (seen ++ key_values docs keys row ∷ []) es (unseen_more keys row seen es u.1 h.0) h.1))
