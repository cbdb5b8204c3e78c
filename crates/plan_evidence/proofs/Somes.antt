-- Events that have a binding as is said, and what is made of them.
use Rattle.std.proofs.Common.{◌≡◌, ◌⊎◌, inl, inr, ◌∙◌, ℕ, true, false, cond, List, [], ◌∷◌, ◌++◌, refl, sym, ap, subst, map}
use Rattle.std.specs.Prelude.{Bool}
use Rattle.std.proofs.lemmas.List.Folds.{list_any-append}
use Rattle.mix_base.specs.Ascents.{Among}
use Rattle.mix_base.specs.Events.{Event, skip, bind, without_skips}
use Rattle.mix_tree.specs.Nodes.{Documents, Node}
use Rattle.mix_tree.specs.declared.var.Key.{Key}
use Rattle.plan_core.specs.Beside.{EachBinding}
use Rattle.plan_core.specs.Events.{RowEvents, expand, each_row, only, nodes_found, with_node, distinct, skips}
use Rattle.plan_core.specs.Sorted.{insert_by, sorted_by}
use Rattle.plan_core.specs.TolledRows.{TolledRow, KeyValue, key_values, same_values, is_seen}
use Rattle.plan_evidence.specs.Laws.{SomeBinding}
use Rattle.browse_class.proofs.FirstKeys.{values_same}

-- two lists of events together have a binding as is said, where the first has
pub some_left : {B : Type 0} (P : B → Type 0) (xs ys : List (Event B)) → SomeBinding P xs → SomeBinding P (xs ++ ys)
some_left P [] ys h = absurd h
some_left P (skip ∷ xs) ys h = some_left P xs ys h
some_left P (bind b ∷ xs) ys (inl h) = inl h
some_left P (bind b ∷ xs) ys (inr h) = inr (some_left P xs ys h)

-- two lists of events together have a binding as is said, where the second has
pub some_right : {B : Type 0} (P : B → Type 0) (xs ys : List (Event B)) → SomeBinding P ys → SomeBinding P (xs ++ ys)
some_right P [] ys h = h
some_right P (skip ∷ xs) ys h = some_right P xs ys h
some_right P (bind b ∷ xs) ys h = inr (some_right P xs ys h)

-- events that have a binding as is said have one of which holds what follows
pub some_weaker : {B : Type 0} (P Q : B → Type 0) → ((b : B) → P b → Q b) → (es : List (Event B)) → SomeBinding P es → SomeBinding Q es
some_weaker P Q f [] h = absurd h
some_weaker P Q f (skip ∷ es) h = some_weaker P Q f es h
some_weaker P Q f (bind b ∷ es) (inl h) = inl (f b h)
some_weaker P Q f (bind b ∷ es) (inr h) = inr (some_weaker P Q f es h)

-- events all of whose bindings are of one kind, and that have one of another, have one of both
pub some_both : {B : Type 0} (P Q : B → Type 0) (es : List (Event B)) → EachBinding P es → SomeBinding Q es → SomeBinding (λ b. P b × Q b) es
some_both P Q [] h k = absurd k
some_both P Q (skip ∷ es) h k = some_both P Q es h k
some_both P Q (bind b ∷ es) h (inl k) = inl (h.0, k)
some_both P Q (bind b ∷ es) h (inr k) = inr (some_both P Q es h.1 k)

-- an expansion has a binding as is said, where the events have one that gives such a one
pub some_expand : (P Q : TolledRow → Type 0) (f : TolledRow → RowEvents) → ((row : TolledRow) → P row → SomeBinding Q (f row)) → (es : RowEvents) → SomeBinding P es → SomeBinding Q (expand f es)
some_expand P Q f h [] k = absurd k
some_expand P Q f h (skip ∷ es) k = some_expand P Q f h es k
some_expand P Q f h (bind row ∷ es) (inl k) = some_left Q (f row) (expand f es) (h row k)
some_expand P Q f h (bind row ∷ es) (inr k) = some_right Q (f row) (expand f es) (some_expand P Q f h es k)

-- a visit has a binding as is said, where that of one of its matches is
pub some_nodes : (Q : TolledRow → Type 0) (out : ℕ) (start : Node) (row : TolledRow) (place : List ℕ) → Q (with_node out start row place) → (es : List (Event (List ℕ))) → Among place (without_skips es)
    → SomeBinding Q (nodes_found out start row es)
some_nodes Q out start row place q [] a = absurd a
some_nodes Q out start row place q (skip ∷ es) a = some_nodes Q out start row place q es a
some_nodes Q out start row place q (bind p ∷ es) (inl e) = inl (subst (λ z. Q (with_node out start row z)) e q)
some_nodes Q out start row place q (bind p ∷ es) (inr a) = inr (some_nodes Q out start row place q es a)

-- events made anew have a binding as is said, where there is one of which such a one is made
pub some_each_row : (P Q : TolledRow → Type 0) (f : TolledRow → TolledRow) → ((row : TolledRow) → P row → Q (f row)) → (es : RowEvents) → SomeBinding P es → SomeBinding Q (each_row f es)
some_each_row P Q f h [] k = absurd k
some_each_row P Q f h (skip ∷ es) k = some_each_row P Q f h es k
some_each_row P Q f h (bind row ∷ es) (inl k) = inl (h row k)
some_each_row P Q f h (bind row ∷ es) (inr k) = inr (some_each_row P Q f h es k)

-- events that pass a test have a binding as is said, where there is one and each such one passes
pub some_only : (P : TolledRow → Type 0) (test : TolledRow → Bool) → ((row : TolledRow) → P row → test row ≡ true) → (es : RowEvents) → SomeBinding P es → SomeBinding P (only test es)
some_only P test h [] k = absurd k
some_only P test h (skip ∷ es) k = some_only P test h es k
some_only P test h (bind row ∷ es) (inl k) = subst (λ t. SomeBinding P (cond t (bind row) skip ∷ only test es)) (sym (h row k)) (inl k)
some_only P test h (bind row ∷ es) (inr k) =
    let r = some_only P test h es k in
    elim (test row) as (λ t. SomeBinding P (cond t (bind row) skip ∷ only test es)) [ true ↦ inr r | false ↦ r ]

module _ (P : TolledRow → Type 0) where
  -- a binding put among others is one of them, and they stay
  some_insert : (less : TolledRow → TolledRow → Bool) (x : TolledRow) (rows : List TolledRow) → P x ⊎ SomeBinding P (map bind rows) → SomeBinding P (map bind (insert_by less x rows))
  some_insert less x [] (inl h) = inl h
  some_insert less x [] (inr h) = absurd h
  some_insert less x (y ∷ rows) h =
      elim (less y x) as (λ w. SomeBinding P (map bind (cond w (y ∷ insert_by less x rows) (x ∷ y ∷ rows)))) [
        | true ↦ later_one (some_insert less x rows) h
        | false ↦ h
      ]
    where
      later_one : (P x ⊎ SomeBinding P (map bind rows) → SomeBinding P (map bind (insert_by less x rows))) → P x ⊎ SomeBinding P (map bind (y ∷ rows))
          → SomeBinding P (map bind (y ∷ insert_by less x rows))
      later_one more (inl k) = inr (more (inl k))
      later_one more (inr (inl k)) = inl k
      later_one more (inr (inr k)) = inr (more (inr k))

  -- the sorted bindings of events have one as is said, where the events have
  some_sorted : (less : TolledRow → TolledRow → Bool) (es : RowEvents) → SomeBinding P es → SomeBinding P (map bind (sorted_by less (without_skips es)))
  some_sorted less [] h = absurd h
  some_sorted less (skip ∷ es) h = some_sorted less es h
  some_sorted less (bind row ∷ es) (inl h) = some_insert less row (sorted_by less (without_skips es)) (inl h)
  some_sorted less (bind row ∷ es) (inr h) = some_insert less row (sorted_by less (without_skips es)) (inr (some_sorted less es h))

  -- events in order, after the skips that they cost, have a binding as is said, where the events have
  pub some_ordered : (less : TolledRow → TolledRow → Bool) (es : RowEvents) → SomeBinding P es → SomeBinding P (skips es ++ map bind (sorted_by less (without_skips es)))
  some_ordered less es h = some_right P (skips es) (map bind (sorted_by less (without_skips es))) (some_sorted less es h)

module _ (docs : Documents) (keys : List Key) (make : TolledRow → RowEvents → TolledRow) (same : (row : TolledRow) (rest : RowEvents) → key_values docs keys (make row rest) ≡ key_values docs keys row)
    (k : List KeyValue) where
  -- a binding has these values of the keys
  abbrev Has : TolledRow → Type 0
  Has row = k ≡ key_values docs keys row

  -- first bindings by keys have one with values of the keys that weren't seen, where the events have
  pub some_distinct : (seen : List (List KeyValue)) → is_seen k seen ≡ false → (es : RowEvents) → SomeBinding Has es → SomeBinding Has (distinct docs keys make seen es)
  some_distinct seen u [] h = absurd h
  some_distinct seen u (skip ∷ es) h = some_distinct seen u es h
  some_distinct seen u (bind row ∷ es) h =
      let x : List KeyValue = key_values docs keys row in
      (elim (is_seen x seen) as (λ w. is_seen x seen ≡ w → SomeBinding Has (cond w (skip ∷ distinct docs keys make seen es) (bind (make row es) ∷ distinct docs keys make (seen ++ x ∷ []) es))) [
        | true ↦ λ e. some_distinct seen u es (later e h)
        | false ↦ λ e. kept (λ v. some_distinct (seen ++ x ∷ []) v es) h
      ]) refl
    where
      later : is_seen (key_values docs keys row) seen ≡ true → Has row ⊎ SomeBinding Has es → SomeBinding Has es
      later e (inl g) = absurd (let z : true ≡ false = sym e ∙ ap (λ y. is_seen y seen) (sym g) ∙ u in let f : ⊥ = cc in f)
      later e (inr g) = g

      kept : (is_seen k (seen ++ key_values docs keys row ∷ []) ≡ false → SomeBinding Has es → SomeBinding Has (distinct docs keys make (seen ++ key_values docs keys row ∷ []) es))
          → Has row ⊎ SomeBinding Has es → Has (make row es) ⊎ SomeBinding Has (distinct docs keys make (seen ++ key_values docs keys row ∷ []) es)
      kept more (inl g) = inl (g ∙ sym (same row es))
      kept more (inr g) =
          let x : List KeyValue = key_values docs keys row in
          (elim (same_values x k) as (λ w. same_values x k ≡ w → Has (make row es) ⊎ SomeBinding Has (distinct docs keys make (seen ++ x ∷ []) es)) [
            | true ↦ λ e. inl (sym (values_same x k e) ∙ sym (same row es))
            | false ↦ λ e. inr (more (list_any-append (λ s. same_values s k) seen (x ∷ []) ∙ rw (u, e) refl) g)
          ]) refl
