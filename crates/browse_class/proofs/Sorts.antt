-- Sorted bindings of which no two agree.
use Rattle.std.proofs.Common.{◌≡◌, ℕ, true, false, cond, List, [], ◌∷◌, ◌++◌, refl, sym, subst, ◌∙◌, map}
use Rattle.std.specs.Prelude.{Bool, ◌&&◌}
use Rattle.std.specs.List.{AllByRecursion}
use Rattle.std.specs.Str.{bytes_eq}
use Rattle.std.proofs.lemmas.Slice.Eq.{bytes_eq-Decides}
use Rattle.mix_base.specs.Events.{skip, bind, without_skips}
use Rattle.mix_tree.specs.Nodes.{Documents, Node, same_node}
use Rattle.mix_tree.specs.declared.var.Key.{Key}
use Rattle.mix_tree.proofs.SameKeys.{same_node-true, same_node-refl, bytes_eq-refl}
use Rattle.plan_core.specs.Events.{RowEvents, skips}
use Rattle.plan_core.specs.Sorted.{insert_by, sorted_by}
use Rattle.plan_core.specs.TolledRows.{TolledRow, KeyValue, by_node, by_label, key_values, same_value, same_values}
use Rattle.plan_core.specs.Beside.{EachBinding, Differ, AreApart}
use Rattle.plan_core.specs.Beside.{Differ, AreApart}

-- where two tests hold together, the first holds
and_left : (a b : Bool) → (a && b) ≡ true → a ≡ true
and_left true b h = refl
and_left false b h = h

-- where two tests hold together, the second holds
and_right : (a b : Bool) → (a && b) ≡ true → b ≡ true
and_right true b h = h
and_right false b h = cc

-- two tests that hold hold together
both : (a b : Bool) → a ≡ true → b ≡ true → (a && b) ≡ true
both true b h k = k
both false b h k = h

-- what is the same one way is the same the other way
value_back : (x y : KeyValue) → same_value x y ≡ true → same_value y x ≡ true
value_back (by_node m) (by_node n) h = (let e : m ≡ n = same_node-true m n h in subst (λ (z : Node). same_node z m ≡ true) e (same_node-refl m))
value_back (by_node m) (by_label y) h = h
value_back (by_label x) (by_node n) h = h
value_back (by_label x) (by_label y) h = (let e : x ≡ y = (bytes_eq-Decides x y).0 h in subst (λ (z : List ℕ). bytes_eq z x ≡ true) e (bytes_eq-refl x))

-- values that are the same one way are the same the other way
values_back : (xs ys : List KeyValue) → same_values xs ys ≡ true → same_values ys xs ≡ true
values_back [] [] h = refl
values_back [] (y ∷ ys) h = h
values_back (x ∷ xs) [] h = h
values_back (x ∷ xs) (y ∷ ys) h =
    both (same_value y x) (same_values ys xs) (value_back x y (and_left (same_value x y) (same_values xs ys) h)) (values_back xs ys (and_right (same_value x y) (same_values xs ys) h))

-- what differs one way differs the other way
differ_back : (docs : Documents) (keys : List Key) (a b : TolledRow) → Differ docs keys a b → Differ docs keys b a
differ_back docs keys a b d =
    (elim (same_values (key_values docs keys b) (key_values docs keys a)) as (λ w. same_values (key_values docs keys b) (key_values docs keys a) ≡ w → w ≡ false) [
      | true ↦ λ e. (let z : true ≡ false = sym (values_back (key_values docs keys b) (key_values docs keys a) e) ∙ d in z)
      | false ↦ λ e. refl
    ]) refl

-- no two bindings of a list agree by keys
abbrev Apart : Documents → List Key → List TolledRow → Type 0
Apart docs keys [] = Unit {0}
Apart docs keys (row ∷ rows) = AllByRecursion (Differ docs keys row) rows × Apart docs keys rows

module _ (P : TolledRow → Type 0) where
  -- what holds of each binding of events holds of each of the bindings alone
  each_without : (es : RowEvents) → EachBinding P es → AllByRecursion P (without_skips es)
  each_without [] h = tt
  each_without (skip ∷ es) h = each_without es h
  each_without (bind row ∷ es) h = (h.0, each_without es h.1)

  -- what holds of each of some bindings holds of each binding of the events that they are
  each_bound : (rows : List TolledRow) → AllByRecursion P rows → EachBinding P (map bind rows)
  each_bound [] h = tt
  each_bound (row ∷ rows) h = (h.0, each_bound rows h.1)

  -- what holds of a binding and of some others holds of each, once it is put among them
  each_insert : (less : TolledRow → TolledRow → Bool) (x : TolledRow) (rows : List TolledRow) → P x → AllByRecursion P rows → AllByRecursion P (insert_by less x rows)
  each_insert less x [] p h = (p, tt)
  each_insert less x (y ∷ rows) p h = elim (less y x) as (λ w. AllByRecursion P (cond w (y ∷ insert_by less x rows) (x ∷ y ∷ rows))) [ true ↦ (h.0, each_insert less x rows p h.1) | false ↦ (p, (h.0, h.1)) ]

  -- what holds of each of some bindings holds of each of the sorted ones
  each_sorted : (less : TolledRow → TolledRow → Bool) (rows : List TolledRow) → AllByRecursion P rows → AllByRecursion P (sorted_by less rows)
  each_sorted less [] h = tt
  each_sorted less (x ∷ rows) h = each_insert less x (sorted_by less rows) h.0 (each_sorted less rows h.1)

module _ (docs : Documents) (keys : List Key) where
  -- of events no two bindings of which agree, no two of the bindings alone agree
  apart_without : (es : RowEvents) → AreApart docs keys es → Apart docs keys (without_skips es)
  apart_without [] h = tt
  apart_without (skip ∷ es) h = apart_without es h
  apart_without (bind row ∷ es) h = (each_without (Differ docs keys row) es h.0, apart_without es h.1)

  -- of bindings no two of which agree, the events have no two that agree
  apart_bound : (rows : List TolledRow) → Apart docs keys rows → AreApart docs keys (map bind rows)
  apart_bound [] h = tt
  apart_bound (row ∷ rows) h = (each_bound (Differ docs keys row) rows h.0, apart_bound rows h.1)

  -- skips before events leave their bindings apart
  apart_after : (es more : RowEvents) → AreApart docs keys more → AreApart docs keys (skips es ++ more)
  apart_after [] more h = h
  apart_after (skip ∷ es) more h = apart_after es more h
  apart_after (bind row ∷ es) more h = apart_after es more h

  -- a binding that differs from all others, put among them, leaves them apart
  apart_insert : (less : TolledRow → TolledRow → Bool) (x : TolledRow) (rows : List TolledRow) → AllByRecursion (Differ docs keys x) rows → Apart docs keys rows → Apart docs keys (insert_by less x rows)
  apart_insert less x [] d h = (tt, tt)
  apart_insert less x (y ∷ rows) d h =
      elim (less y x) as (λ w. Apart docs keys (cond w (y ∷ insert_by less x rows) (x ∷ y ∷ rows))) [
        | true ↦ (each_insert (Differ docs keys y) less x rows (differ_back docs keys x y d.0) h.0, apart_insert less x rows d.1 h.1)
        | false ↦ ((d.0, d.1), (h.0, h.1))
      ]

  -- bindings no two of which agree stay apart when they are sorted
  apart_sorted : (less : TolledRow → TolledRow → Bool) (rows : List TolledRow) → Apart docs keys rows → Apart docs keys (sorted_by less rows)
  apart_sorted less [] h = tt
  apart_sorted less (x ∷ rows) h = apart_insert less x (sorted_by less rows) (each_sorted (Differ docs keys x) less rows h.0) (apart_sorted less rows h.1)

  -- sorted bindings, after the skips that they cost
  pub sorted_apart : (less : TolledRow → TolledRow → Bool) (es : RowEvents) → AreApart docs keys es → AreApart docs keys (skips es ++ map bind (sorted_by less (without_skips es)))
  sorted_apart less es h = apart_after es (map bind (sorted_by less (without_skips es))) (apart_bound (sorted_by less (without_skips es)) (apart_sorted less (without_skips es) (apart_without es h)))
