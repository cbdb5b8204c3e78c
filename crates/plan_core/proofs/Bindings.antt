-- Laws of what is said of each binding among events.
use Rattle.std.proofs.Common.{◌++◌, ℕ, true, false, cond, List, [], ◌∷◌, map}
use Rattle.std.specs.Prelude.{Bool}
use Rattle.std.specs.List.{AllByRecursion}
use Rattle.mix_base.specs.Events.{Event, skip, bind, without_skips}
use Rattle.mix_tree.specs.Nodes.{Documents, Node}
use Rattle.mix_tree.specs.declared.var.Key.{Key}
use Rattle.plan_core.specs.Beside.{EachBinding, StandsFirst, AreBeside}
use Rattle.plan_core.specs.Events.{RowEvents, expand, each_row, only, with_node, nodes_found, distinct, skips}
use Rattle.plan_core.specs.Sorted.{insert_by, sorted_by}
use Rattle.plan_core.specs.TolledRows.{TolledRow, KeyValue, key_values, is_seen}

-- what holds of all bindings holds of each among events
pub each_binding : {B : Type 0} (P : B → Type 0) → ((b : B) → P b) → (es : List (Event B)) → EachBinding P es
each_binding P h [] = tt
each_binding P h (skip ∷ es) = each_binding P h es
each_binding P h (bind b ∷ es) = (h b, each_binding P h es)

-- what follows from what holds of each binding among events holds of each
pub binding_weaker : {B : Type 0} (P Q : B → Type 0) → ((b : B) → P b → Q b) → (es : List (Event B)) → EachBinding P es → EachBinding Q es
binding_weaker P Q h [] k = tt
binding_weaker P Q h (skip ∷ es) k = binding_weaker P Q h es k
binding_weaker P Q h (bind b ∷ es) k = (h b k.0, binding_weaker P Q h es k.1)

-- what holds of each binding of two lists of events holds of each of the one after the other
pub binding_append : {B : Type 0} (P : B → Type 0) (xs ys : List (Event B)) → EachBinding P xs → EachBinding P ys → EachBinding P (xs ++ ys)
binding_append P [] ys h k = k
binding_append P (skip ∷ xs) ys h k = binding_append P xs ys h k
binding_append P (bind b ∷ xs) ys h k = (h.0, binding_append P xs ys h.1 k)

-- what holds of all that each binding gives holds of each binding of an expansion
pub binding_expand : (P Q : TolledRow → Type 0) (f : TolledRow → RowEvents) → ((row : TolledRow) → P row → EachBinding Q (f row)) → (es : RowEvents) → EachBinding P es
    → EachBinding Q (expand f es)
binding_expand P Q f h [] b = tt
binding_expand P Q f h (skip ∷ es) b = binding_expand P Q f h es b
binding_expand P Q f h (bind row ∷ es) b = binding_append Q (f row) (expand f es) (h row b.0) (binding_expand P Q f h es b.1)

-- what holds of a binding with any place more holds of each binding of a visit
pub binding_nodes : (Q : TolledRow → Type 0) (out : ℕ) (start : Node) (row : TolledRow) → ((place : List ℕ) → Q (with_node out start row place))
    → (es : List (Event (List ℕ))) → EachBinding Q (nodes_found out start row es)
binding_nodes Q out start row h [] = tt
binding_nodes Q out start row h (skip ∷ es) = binding_nodes Q out start row h es
binding_nodes Q out start row h (bind place ∷ es) = (h place, binding_nodes Q out start row h es)

-- what holds of each binding made anew holds of each among the events made anew
pub binding_each_row : (P Q : TolledRow → Type 0) (f : TolledRow → TolledRow) → ((row : TolledRow) → P row → Q (f row)) → (es : RowEvents) → EachBinding P es
    → EachBinding Q (each_row f es)
binding_each_row P Q f h [] b = tt
binding_each_row P Q f h (skip ∷ es) b = binding_each_row P Q f h es b
binding_each_row P Q f h (bind row ∷ es) b = (h row b.0, binding_each_row P Q f h es b.1)

-- what holds of each binding holds of each that passes a test
pub binding_only : (P : TolledRow → Type 0) (test : TolledRow → Bool) (es : RowEvents) → EachBinding P es → EachBinding P (only test es)
binding_only P test [] b = tt
binding_only P test (skip ∷ es) b = binding_only P test es b
binding_only P test (bind row ∷ es) b =
    let r = binding_only P test es b.1 in
    elim (test row) as (λ w. EachBinding P (cond w (bind row) skip ∷ only test es)) [ true ↦ (b.0, r) | false ↦ r ]

-- what holds of all that is made of bindings holds of each that is made of those whose keys were not seen
pub binding_distinct : (P Q : TolledRow → Type 0) (docs : Documents) (keys : List Key) (make : TolledRow → RowEvents → TolledRow)
    → ((row : TolledRow) (es : RowEvents) → P row → Q (make row es)) → (seen : List (List KeyValue)) (es : RowEvents) → EachBinding P es → EachBinding Q (distinct docs keys make seen es)
binding_distinct P Q docs keys make h seen [] b = tt
binding_distinct P Q docs keys make h seen (skip ∷ es) b = binding_distinct P Q docs keys make h seen es b
binding_distinct P Q docs keys make h seen (bind row ∷ es) b =
    let r = binding_distinct P Q docs keys make h seen es b.1 in
    let s = binding_distinct P Q docs keys make h (seen ++ key_values docs keys row ∷ []) es b.1 in
    elim (is_seen (key_values docs keys row) seen)
    as (λ w. EachBinding Q (cond w (skip ∷ distinct docs keys make seen es) (bind (make row es) ∷ distinct docs keys make (seen ++ key_values docs keys row ∷ []) es))) [
      | true ↦ r
      | false ↦ (h row es b.0, s)
    ]

-- a relation holds of each binding among events and the events after it
abbrev pub EachSuffix : (TolledRow → RowEvents → Type 0) → RowEvents → Type 0
EachSuffix R [] = Unit {0}
EachSuffix R (skip ∷ es) = EachSuffix R es
EachSuffix R (bind row ∷ es) = R row es × EachSuffix R es

-- a relation that holds of all bindings and events holds of each binding and the events after it
pub suffix_all : (R : TolledRow → RowEvents → Type 0) → ((row : TolledRow) (es : RowEvents) → R row es) → (es : RowEvents) → EachSuffix R es
suffix_all R h [] = tt
suffix_all R h (skip ∷ es) = suffix_all R h es
suffix_all R h (bind row ∷ es) = (h row es, suffix_all R h es)

-- what follows from a relation of each binding and the events after it holds of each
pub suffix_weaker : (R S : TolledRow → RowEvents → Type 0) → ((row : TolledRow) (es : RowEvents) → R row es → S row es) → (es : RowEvents) → EachSuffix R es → EachSuffix S es
suffix_weaker R S h [] k = tt
suffix_weaker R S h (skip ∷ es) k = suffix_weaker R S h es k
suffix_weaker R S h (bind row ∷ es) k = (h row es k.0, suffix_weaker R S h es k.1)

-- where bindings that agree stand side by side, those that agree with a binding come first after it
pub suffix_beside : (docs : Documents) (keys : List Key) (es : RowEvents) → AreBeside docs keys es → EachSuffix (StandsFirst docs keys) es
suffix_beside docs keys [] h = tt
suffix_beside docs keys (skip ∷ es) h = suffix_beside docs keys es h
suffix_beside docs keys (bind row ∷ es) h = (h.0, suffix_beside docs keys es h.1)

module _ (P : TolledRow → Type 0) where
  -- what holds of each binding among events holds of each in the list of bindings
  each_without : (es : RowEvents) → EachBinding P es → AllByRecursion P (without_skips es)
  each_without [] h = tt
  each_without (skip ∷ es) h = each_without es h
  each_without (bind row ∷ es) h = (h.0, each_without es h.1)

  -- what holds of each binding in a list holds of each of them as events
  each_bound : (rows : List TolledRow) → AllByRecursion P rows → EachBinding P (map bind rows)
  each_bound [] h = tt
  each_bound (row ∷ rows) h = (h.0, each_bound rows h.1)

  -- what holds of each binding among events holds of each after skips are put before them
  each_after : (es more : RowEvents) → EachBinding P more → EachBinding P (skips es ++ more)
  each_after [] more h = h
  each_after (skip ∷ es) more h = each_after es more h
  each_after (bind row ∷ es) more h = each_after es more h

  -- what holds of a binding and of each in a list holds of each once it is put into the list
  each_insert : (less : TolledRow → TolledRow → Bool) (x : TolledRow) (rows : List TolledRow) → P x → AllByRecursion P rows → AllByRecursion P (insert_by less x rows)
  each_insert less x [] p h = (p, tt)
  each_insert less x (y ∷ rows) p h =
      elim (less y x) as (λ w. AllByRecursion P (cond w (y ∷ insert_by less x rows) (x ∷ y ∷ rows))) [ true ↦ (h.0, each_insert less x rows p h.1) | false ↦ (p, (h.0, h.1)) ]

  -- what holds of each binding in a list holds of each in the sorted list
  each_sorted : (less : TolledRow → TolledRow → Bool) (rows : List TolledRow) → AllByRecursion P rows → AllByRecursion P (sorted_by less rows)
  each_sorted less [] h = tt
  each_sorted less (x ∷ rows) h = each_insert less x (sorted_by less rows) h.0 (each_sorted less rows h.1)

  -- what holds of each binding among events holds of each of the sorted ones, after the skips that they cost
  pub binding_sorted : (less : TolledRow → TolledRow → Bool) (es : RowEvents) → EachBinding P es → EachBinding P (skips es ++ map bind (sorted_by less (without_skips es)))
  binding_sorted less es h =
      let rows : List TolledRow = sorted_by less (without_skips es) in
      each_after es (map bind rows) (each_bound rows (each_sorted less (without_skips es) (each_without es h)))
