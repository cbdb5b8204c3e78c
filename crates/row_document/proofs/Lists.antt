-- The lists of a document of rows keep what a source promises.
use Rattle.std.proofs.Common.{◌≡◌, ◌∙◌, ℕ, ◌+◌, ◌<◌, ◌≤◌, ◌^◌, Bool, true, false, List, [], ◌∷◌, ◌++◌, length, map, refl, ap, arith}
use Rattle.std.specs.List.{AllByRecursion}
use Rattle.std.proofs.lemmas.List.{map-append}
use Rattle.mix_tree.specs.Forest.{Forest, none, tree, followed, LabelledTree, forest_of}
use Rattle.mix_tree.specs.Weight.{nodes_of}
use Rattle.mix_tree.proofs.Forests.{followed-none, forest_of-append}
use Rattle.lxp_core.specs.declared.open_tree.HoleId.{HoleId}
use Rattle.lxp_core.specs.Open.{Open, nil, node, hole, closed, weight_of, AllHoles, IsApart, IsProgress, is_nil, has_node, begins_with_hole, open_followed, without_holes}
use Rattle.lxp_core.specs.Small.{IsSmall, IsSmallWithin, tops_of}
use Rattle.lxp_core.proofs.Opens.{closed-open_followed, closed-without_holes, weight_of-open_followed, AllHoles-open_followed, AllHoles-without_holes, IsApart-without_holes}
use Rattle.row_document.specs.Rows.{name_given, rest_given, row_forest, row_tree, rows_given}

-- what holds of the hole behind rows, and of no hole, holds of what is given for the rows that are left
pub rest_by : (P : Open → Type 0) (more : Bool) (rest : HoleId) → (more ≡ true → P (hole rest nil)) → (more ≡ false → P nil) → P (rest_given more rest)
rest_by P true rest h k = h refl
rest_by P false rest h k = k refl

-- the trees of rows in two pieces are those of the first, followed by those of the second
pub row_forest-append : {R : Type 0} (cells : R → List LabelledTree) (xs ys : List R) → row_forest cells (xs ++ ys) ≡ followed (row_forest cells xs) (row_forest cells ys)
row_forest-append {R} cells xs ys =
    let tree_of : R → LabelledTree = λ r. row_tree (cells r) in
    ap forest_of (map-append tree_of xs ys) ∙ forest_of-append (map tree_of xs) (map tree_of ys)

-- holes stay apart after trees without holes
apart_after : (f : Forest) (o : Open) → IsApart o → IsApart (open_followed (without_holes f) o)
apart_after none o h = h
apart_after (tree label kids rest) o h = (IsApart-without_holes kids, apart_after rest o h)

-- whole rows before a list that is empty where there are no rows have a node at the top, and no hole first
top_of : {R : Type 0} (cells : R → List LabelledTree) (rows : List R) (o : Open) → (rows ≡ [] → o ≡ nil)
    → (is_nil (open_followed (without_holes (row_forest cells rows)) o) ≡ false → has_node (open_followed (without_holes (row_forest cells rows)) o) ≡ true)
    × (begins_with_hole (open_followed (without_holes (row_forest cells rows)) o) ≡ false)
top_of cells [] o h = (λ k. absurd (cc (h refl, k)), cc (h refl))
top_of cells (r ∷ rows) o h = (λ k. refl, refl)

-- the trees of rows with one row more, before a list, are theirs before that row's tree and the list
pub row_more : {R : Type 0} (cells : R → List LabelledTree) (rows : List R) (r : R) (rest : Open)
    → open_followed (without_holes (row_forest cells (rows ++ r ∷ []))) rest
    ≡ open_followed (without_holes (row_forest cells rows)) (node (114 ∷ 111 ∷ 119 ∷ []) (without_holes (forest_of (cells r))) rest)
row_more cells [] r rest = refl
row_more cells (s ∷ rows) r rest = ap (node (114 ∷ 111 ∷ 119 ∷ []) (without_holes (forest_of (cells s)))) (row_more cells rows r rest)

-- rows before a list stand side by side with its trees
tops_rows : {R : Type 0} (cells : R → List LabelledTree) (rows : List R) (o : Open) → tops_of (open_followed (without_holes (row_forest cells rows)) o) ≡ length rows + tops_of o
tops_rows cells [] o = omega arith
tops_rows cells (r ∷ rows) o = omega (arith, tops_rows cells rows o)

-- the cells of a row are a list small enough to stand below it
pub record AreSmallCells (cells : List LabelledTree) : Type 0 where
  pub few : tops_of (without_holes (forest_of cells)) < 2 ^ 32
  pub small : IsSmallWithin 199 (without_holes (forest_of cells))

-- rows of small cells before a small list are a small list
small_rows : {R : Type 0} (cells : R → List LabelledTree) (rows : List R) (o : Open) → AllByRecursion (λ r. AreSmallCells (cells r)) rows → IsSmallWithin 200 o
    → IsSmallWithin 200 (open_followed (without_holes (row_forest cells rows)) o)
small_rows cells [] o h small = small
small_rows cells (r ∷ rows) o h small = (omega arith, h.0.few, h.0.small, small_rows cells rows o h.1 small)

-- at most one hole stands behind rows
rest_few : (more : Bool) (rest : HoleId) → tops_of (rest_given more rest) ≤ 1
rest_few true rest = omega arith
rest_few false rest = omega arith

-- the list of a whole document keeps progress
pub name_progress : (name : List ℕ) (all : HoleId) → IsProgress (name_given name all)
name_progress name all = record { top = λ k. refl; apart = ((refl, tt), tt) }

-- the list of a whole document closes to its name above the trees of the hole
pub name_closes : (forest : HoleId → Forest) (name : List ℕ) (all : HoleId) → closed forest (name_given name all) ≡ tree name (forest all) none
name_closes forest name all = ap (λ f. tree name f none) (followed-none (forest all))

-- the list of a whole document of a short name is small enough for a wire
pub name_small : (name : List ℕ) (all : HoleId) → length name < 2 ^ 32 → IsSmall (name_given name all)
name_small name all h = (omega arith, (h, omega arith, tt, tt))

-- a list without holes weighs as many nodes as it has
without_light : (weight : HoleId → ℕ) (f : Forest) → weight_of weight (without_holes f) ≡ nodes_of f
without_light weight none = refl
without_light weight (tree label kids rest) = omega (arith, without_light weight kids, without_light weight rest)

module _ {R : Type 0} (cells : R → List LabelledTree) (rows : List R) (more : Bool) (rest : HoleId) where
  -- the list of some rows closes to their trees, followed by those of what is left
  pub rows_close : (forest : HoleId → Forest) → closed forest (rows_given cells rows more rest) ≡ followed (row_forest cells rows) (closed forest (rest_given more rest))
  rows_close forest =
      closed-open_followed forest (without_holes (row_forest cells rows)) (rest_given more rest)
      ∙ ap (λ f. followed f (closed forest (rest_given more rest))) (closed-without_holes forest (row_forest cells rows))

  -- all holes of the list are known where the one behind the rows is
  pub rows_known : (knows : HoleId → Bool) → (more ≡ true → knows rest ≡ true) → AllHoles knows (rows_given cells rows more rest)
  rows_known knows h =
      AllHoles-open_followed knows (without_holes (row_forest cells rows)) (rest_given more rest) (AllHoles-without_holes knows (row_forest cells rows))
      (rest_by (AllHoles knows) more rest (λ k. (h k, tt)) (λ k. tt))

  -- the list of some rows weighs as many nodes as these have, and what is left
  pub rows_weigh : (weight : HoleId → ℕ) → weight_of weight (rows_given cells rows more rest) ≡ nodes_of (row_forest cells rows) + weight_of weight (rest_given more rest)
  rows_weigh weight = omega (arith, weight_of-open_followed weight (without_holes (row_forest cells rows)) (rest_given more rest), without_light weight (row_forest cells rows))

  -- a list of rows with small cells, not too many of them, is small enough for a wire
  pub rows_small : AllByRecursion (λ r. AreSmallCells (cells r)) rows → length rows + 1 < 2 ^ 32 → IsSmall (rows_given cells rows more rest)
  rows_small h few = (
    omega (arith, tops_rows cells rows (rest_given more rest), rest_few more rest, few),
    small_rows cells rows (rest_given more rest) h (rest_by (IsSmallWithin 200) more rest (λ k. tt) (λ k. tt)),
  )

  module _ (last : rows ≡ [] → more ≡ false) where
    -- no hole stands where no row does
    none_left : rows ≡ [] → rest_given more rest ≡ nil
    none_left e = ap (λ b. rest_given b rest) (last e)

    -- the list of some rows keeps progress, where no hole stands alone
    pub rows_progress : IsProgress (rows_given cells rows more rest)
    rows_progress = record {
      top = (top_of cells rows (rest_given more rest) none_left).0;
      apart = apart_after (row_forest cells rows) (rest_given more rest) (rest_by IsApart more rest (λ k. (refl, tt)) (λ k. tt));
    }

    -- the list of some rows begins with no hole, where no hole stands alone
    pub rows_forward : begins_with_hole (rows_given cells rows more rest) ≡ false
    rows_forward = (top_of cells rows (rest_given more rest) none_left).1
