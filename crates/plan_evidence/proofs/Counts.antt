-- How many trees a walk over a list has left.
use Rattle.std.proofs.Common.{◌≡◌, ℕ, zero, suc, ◌+◌, Some, List, [], ◌∷◌, ◌++◌, take, drop, refl, sym, ap, ◌∙◌, arith, length}
use Rattle.std.specs.Prelude.{slice_get}
use Rattle.std.specs.List.{AllByRecursion}
use Rattle.mix_base.proofs.Choices.{none_some, some_is}
use Rattle.mix_base.specs.Events.{skip, bind, without_skips}
use Rattle.mix_tree.specs.Forest.{Forest, none, tree, followed, joined}
use Rattle.mix_tree.specs.Nodes.{Documents, label_at}
use Rattle.plan_core.specs.declared.plan.Piece.{Piece}
use Rattle.plan_core.specs.declared.plan.Piece.TheVariants.{Var as var_piece, LabelOf as label_piece, Text as text_piece}
use Rattle.plan_core.specs.Events.{RowEvents}
use Rattle.plan_core.specs.Tolled.{Tolled, ends, item, dearer, plain}
use Rattle.plan_core.specs.TolledRows.{TolledRow, TolledValue, source_node, piece_items, all_items, collected}
use Rattle.plan_core.proofs.Plains.{plain_piece}
use Rattle.plan_evidence.specs.Named.{count_trees}
use Rattle.plan_evidence.specs.Remains.{IsSameIn}
use Rattle.plan_evidence.proofs.Shown.{shown, shown_by, shown_plain, count-plain}
use Rattle.plan_evidence.proofs.TreeLists.{count, count-followed, AreOnes}

-- what holds of all holds of those after the first few
pub each_drop : {X : Type 0} (P : X → Type 0) (n : ℕ) (xs : List X) → AllByRecursion P xs → AllByRecursion P (drop n xs)
each_drop P zero xs h = h
each_drop P (suc n) [] h = tt
each_drop P (suc n) (x ∷ xs) h = each_drop P n xs h.1

-- after the first members of a list stands the next one
pub get_after : {X : Type 0} (xs : List X) (x : X) (ys : List X) → slice_get (xs ++ x ∷ ys) (length xs) ≡ Some x
get_after [] x ys = refl
get_after (z ∷ xs) x ys = get_after xs x ys

module _ (docs : Documents) where
  -- what a piece shows over two bindings where its variable has one value is the same
  same_shown : (here row : TolledRow) (q : Piece) → IsSameIn here row q → shown docs row q ≡ shown docs here q
  same_shown here row (var_piece v) e = ap (shown_by docs) e
  same_shown here row (label_piece v) e = ap (λ (x : TolledValue). tree (label_at docs (source_node x)) none none) e
  same_shown here row (text_piece label) e = refl

  -- a piece has as many trees as it shows, before those after it
  pub piece_count : (q : Piece) (row : TolledRow) (rest : Tolled) → count_trees (piece_items docs q row rest) ≡ count (shown docs row q) + count_trees rest
  piece_count q row rest =
      count-plain docs (piece_items docs q row rest)
      ∙ ap count (plain_piece docs q row rest ∙ ap (λ (f : Forest). followed f (plain rest)) (shown_plain docs row q))
      ∙ count-followed (shown docs row q) (plain rest) ∙ ap (λ (n : ℕ). count (shown docs row q) + n) (sym (count-plain docs rest))

  -- pieces have as many trees as they show over a binding in which their variables have the same values, before those after them
  pub items_count : (here row : TolledRow) (pieces : List Piece) (rest : Tolled) → AllByRecursion (IsSameIn here row) pieces
      → count_trees (all_items docs pieces row rest) ≡ count (joined (shown docs here) pieces) + count_trees rest
  items_count here row [] rest h = omega arith
  items_count here row (q ∷ pieces) rest h =
      let a = piece_count q row (all_items docs pieces row rest) in
      let b = items_count here row pieces rest h.1 in
      let c = ap count (same_shown here row q h.0) in
      let d = count-followed (shown docs here q) (joined (shown docs here) pieces) in
      omega (arith, a, b, c, d)

  -- more tolls are no more trees
  dearer_count : (t : ℕ) (f : Tolled) → count_trees (dearer t f) ≡ count_trees f
  dearer_count t (ends n) = refl
  dearer_count t (item n label kids rest) = refl

  -- the bindings that events give have as many trees as the piece shows over them, before those after them
  pub collected_count : (q : Piece) (es : RowEvents) (rest : Tolled)
      → count_trees (collected docs q es rest) ≡ count (joined (λ r. shown docs r q) (without_skips es)) + count_trees rest
  collected_count q [] rest = omega arith
  collected_count q (skip ∷ es) rest = dearer_count 1 (collected docs q es rest) ∙ collected_count q es rest
  collected_count q (bind row ∷ es) rest =
      let z = dearer_count 1 (piece_items docs q row (collected docs q es rest)) in
      let a = piece_count q row (collected docs q es rest) in
      let b = collected_count q es rest in
      let d = count-followed (shown docs row q) (joined (λ r. shown docs r q) (without_skips es)) in
      omega (arith, z, a, b, d)

module _ {X : Type 0} (f : X → Forest) where
  -- the trees of members are those of the members before one, its own, and those of the members after it
  pub count_split : (xs : List X) (n : ℕ) (x : X) → slice_get xs n ≡ Some x
      → count (joined f xs) ≡ count (joined f (take n xs)) + (count (f x) + count (joined f (drop (suc n) xs)))
  count_split [] n x e = none_some x e
  count_split (y ∷ xs) zero x e =
      let a = count-followed (f y) (joined f xs) in
      let b = ap (λ (y : X). count (f y)) (some_is y x e) in
      omega (arith, a, b)
  count_split (y ∷ xs) (suc n) x e =
      let a = count-followed (f y) (joined f xs) in
      let b = count-followed (f y) (joined f (take n xs)) in
      let c = count_split xs n x e in
      omega (arith, a, b, c)

  -- where each member is one tree, before the trees of the members after one are as many as there are members up to it
  pub ones_split : (before : List X) (x : X) (after : List X) → AreOnes f (before ++ x ∷ after)
      → count (joined f (before ++ x ∷ after)) ≡ length before + suc (count (joined f after))
  ones_split [] x after h =
      let a = count-followed (f x) (joined f after) in
      let b = ap count h.0.2 in
      omega (arith, a, b)
  ones_split (y ∷ before) x after h =
      let a = count-followed (f y) (joined f (before ++ x ∷ after)) in
      let b = ap count h.0.2 in
      let c = ones_split before x after h.1 in
      omega (arith, a, b, c)
