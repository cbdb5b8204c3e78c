-- Lists of bindings of which no two agree by keys, and the members of a group among them.
use Rattle.std.proofs.Common.{◌≡◌, ℕ, true, false, cond, List, [], ◌∷◌, refl, sym, subst, ◌∙◌, zero, suc, ap}
use Rattle.std.specs.Prelude.{Bool, Some, slice_get}
use Rattle.std.specs.List.{AllByRecursion, filter}
use Rattle.mix_base.specs.Events.{skip, bind, without_skips}
use Rattle.mix_tree.specs.Nodes.{Documents}
use Rattle.mix_tree.specs.declared.var.Key.{Key}
use Rattle.plan_core.specs.Events.{RowEvents, events}
use Rattle.plan_core.specs.TolledRows.{TolledRow, key_values, same_values}
use Rattle.plan_core.specs.Beside.{EachBinding, Differ, AreApart}
use Rattle.mix_base.proofs.Choices.{some_is, none_some}
use Rattle.plan_core.specs.Plans.{Operator}
use Rattle.plan_core.proofs.KeyValues.{all_itself}
use Rattle.plan_evidence.specs.Named.{members}
use Rattle.mix_base.proofs.Firsts.{each_filter}

-- no two bindings of a list agree by keys
abbrev Apart : Documents → List Key → List TolledRow → Type 0
Apart docs keys [] = Unit {0}
Apart docs keys (row ∷ rows) = AllByRecursion (Differ docs keys row) rows × Apart docs keys rows

-- what holds of each member of a list holds of the one at an index
pub at_index : {X : Type 0} (P : X → Type 0) (xs : List X) (i : ℕ) (x : X) → AllByRecursion P xs → slice_get xs i ≡ Some x → P x
at_index P [] i x h e = none_some x e
at_index P (y ∷ xs) zero x h e = subst P (some_is y x e) h.0
at_index P (y ∷ xs) (suc i) x h e = at_index P xs i x h.1 e

module _ (P : TolledRow → Type 0) where
  -- what holds of each binding of events holds of each of the bindings alone
  pub each_without : (es : RowEvents) → EachBinding P es → AllByRecursion P (without_skips es)
  each_without [] h = tt
  each_without (skip ∷ es) h = each_without es h
  each_without (bind row ∷ es) h = (h.0, each_without es h.1)

module _ (docs : Documents) (keys : List Key) where
  -- of events no two bindings of which agree, no two of the bindings alone agree
  apart_without : (es : RowEvents) → AreApart docs keys es → Apart docs keys (without_skips es)
  apart_without [] h = tt
  apart_without (skip ∷ es) h = apart_without es h
  apart_without (bind row ∷ es) h = (each_without (Differ docs keys row) es h.0, apart_without es h.1)

  -- of bindings no two of which agree, no two of those that pass a test agree
  apart_filter : (test : TolledRow → Bool) (rows : List TolledRow) → Apart docs keys rows → Apart docs keys (filter test rows)
  apart_filter test [] h = tt
  apart_filter test (row ∷ rows) h =
      let r = apart_filter test rows h.1 in
      let d = each_filter (Differ docs keys row) test rows h.0 in
      elim (test row) as (λ t. Apart docs keys (cond t (row ∷ filter test rows) (filter test rows))) [ true ↦ (d, r) | false ↦ r ]

  -- bindings with the same values of keys don't differ by them
  differs : (x y : TolledRow) → key_values docs keys x ≡ key_values docs keys y → Differ docs keys x y → ⊥
  differs x y e d = let t : true ≡ false = sym (all_itself (key_values docs keys x)) ∙ ap (same_values (key_values docs keys x)) e ∙ d in let f : ⊥ = cc in f

  -- of bindings no two of which agree, two that have the same values of keys stand at one index
  pub one_index : (rows : List TolledRow) → Apart docs keys rows → (i j : ℕ) (x y : TolledRow) → slice_get rows i ≡ Some x → slice_get rows j ≡ Some y → key_values docs keys x ≡ key_values docs keys y → i ≡ j
  one_index [] h i j x y e f k = none_some x e
  one_index (row ∷ rows) h zero zero x y e f k = refl
  one_index (row ∷ rows) h zero (suc j) x y e f k =
      absurd (differs x y k (subst (λ z. Differ docs keys z y) (some_is row x e) (at_index (Differ docs keys row) rows j y h.0 f)))
  one_index (row ∷ rows) h (suc i) zero x y e f k =
      absurd (differs y x (sym k) (subst (λ z. Differ docs keys z x) (some_is row y f) (at_index (Differ docs keys row) rows i x h.0 e)))
  one_index (row ∷ rows) h (suc i) (suc j) x y e f k = ap suc (one_index rows h.1 i j x y e f k)

  -- where no two bindings of an operator agree, no two members of a group of them do
  pub members_apart : (ops : List Operator) (n : ℕ) (own : List Key) (row : TolledRow) → AreApart docs keys (events docs ops n) → Apart docs keys (members docs ops n own row)
  members_apart ops n own row h = apart_filter (λ r. same_values (key_values docs own row) (key_values docs own r)) (without_skips (events docs ops n)) (apart_without (events docs ops n) h)
