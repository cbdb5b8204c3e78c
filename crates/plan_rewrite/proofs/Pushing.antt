-- The bindings of a tree whose selections are moved are those of the tree.
use Rattle.std.proofs.Common.{◌≡◌, ℕ, Bool, true, false, cond, List, [], ◌∷◌, ◌++◌, map, refl, ◌∙◌, sym, ap, subst}
use Rattle.std.specs.Prelude.{◌||◌, ◌==◌, None, Some}
use Rattle.std.specs.List.{AllByRecursion, list_any, list_all, filter}
use Rattle.std.proofs.lemmas.List.Folds.{list_any-append}
use Rattle.mix_base.specs.Groups.{firsts}
use Rattle.mix_base.proofs.Firsts.{filter-comm, filter-map, filter_same, each_filter, each_weaker, each_map, each_all}
use Rattle.mix_tree.specs.Comparisons.{operand_label, is_same, passes}
use Rattle.mix_tree.specs.Forest.{none}
use Rattle.mix_tree.specs.Keys.{has_var, key_var}
use Rattle.mix_tree.specs.LabelOrder.{compares}
use Rattle.mix_tree.specs.Nodes.{Documents, Node, label_at}
use Rattle.mix_tree.specs.declared.comparing.Operand.{Operand}
use Rattle.mix_tree.specs.declared.comparing.Operand.TheVariants.{Var as var_operand, Text as text_operand}
use Rattle.mix_tree.specs.declared.comparing.Test.{Test}
use Rattle.mix_tree.specs.declared.comparing.TestOp.{TestOp}
use Rattle.mix_tree.specs.declared.comparing.TestOp.TheVariants.{Eq, Ne, Lt, Le, Gt, Ge, Same}
use Rattle.mix_tree.specs.declared.var.Key.{Key}
use Rattle.plan_core.specs.Plans.{World, descended, joined_rows}
use Rattle.plan_core.specs.Rows.{Value, listed, Row, value, node_in, nodes_in}
use Rattle.plan_core.specs.Sorted.{insert_by, sorted_by}
use Rattle.plan_core.specs.Unary.{Unary, select, order_by, project, group_by, concatenate, create_element, holds, restrict, same_rows, unary}
use Rattle.plan_core.specs.Valid.{Kind, a_node, an_element, a_list, Kinds, no_kinds, with_kind, kept, either_kind, unary_kinds, AreDistinct, AreNodes, IsUnaryFit, unary_outs}
use Rattle.plan_make.specs.Trees.{Tree, begin, descend, both, above, tree_rows}
use Rattle.plan_make.proofs.TreeParts.{tree_kinds}
use Rattle.plan_rewrite.specs.Rewritten.{is_bound, binds_operand, binds_test, pushed, rewritten}
use Rattle.xmas_rule.proofs.Members.{flat_map_same}
use Rattle.plan_rewrite.proofs.Lists.{each_flat, filter-flat_map, flat_map-filter, filter_const, filter_both, list_all-more}
use Rattle.plan_core.proofs.Fresh.{distinct_after}
use Rattle.plan_rewrite.proofs.Cases.{pushed_cases, put_cases, rewritten-outs, distinct_prefix, sides_apart, first_true, second_true, rewritten_fits}
use Rattle.plan_make.proofs.TreeParts.{tree_outs, TreeFits}

-- WHAT A ROW HAS

-- whether a row has a variable
abbrev pub has : Row → ℕ → Bool
has row v = list_any (λ p. p.0 == v) row

-- a row has the variables that are bound
abbrev pub IsRowOf : Kinds → Row → Type 0
IsRowOf kinds row = (v : ℕ) → has row v ≡ is_bound (kinds v)

-- a row with one variable more has exactly the variables of the longer kinds
has_with : (out : ℕ) (k : Kind) (x : Value) (kinds : Kinds) (row : Row) → IsRowOf kinds row → IsRowOf (with_kind out k kinds) ((out, x) ∷ row)
has_with out k x kinds row h v = elim (out == v) as (λ w. (w || has row v) ≡ is_bound (cond w (Some k) (kinds v))) [ true ↦ refl | false ↦ h v ]

-- a binding restricted to keys has exactly the variables of the keys
has-restrict : (keys : List Key) (row : Row) (v : ℕ) → has (restrict keys row) v ≡ has_var keys v
has-restrict [] row v = refl
has-restrict (k ∷ keys) row v = ap (λ (x : Bool). (key_var k == v) || x) (has-restrict keys row v)

-- a row of the keys' variables has exactly the variables that are kept
has_restrict : (keys : List Key) (kinds : Kinds) → AreNodes keys kinds → (row : Row) → IsRowOf (kept keys kinds) (restrict keys row)
has_restrict keys kinds nodes row v =
    has-restrict keys row v
    ∙ (elim (has_var keys v) as (λ w. has_var keys v ≡ w → w ≡ is_bound (cond w (kinds v) None)) [ true ↦ λ e. sym (ap is_bound (nodes v e)) | false ↦ λ e. refl ]) refl

-- a pair of rows has exactly the variables of both sides
has_both : (a b : Kinds) (x y : Row) → IsRowOf a x → IsRowOf b y → IsRowOf (λ v. either_kind (a v) (b v)) (x ++ y)
has_both a b x y h g v =
    list_any-append (λ p. p.0 == v) x y ∙ rw (h v, g v) (elim (a v) as (λ w. (is_bound w || is_bound (b v)) ≡ is_bound (either_kind w (b v))) [ None ↦ refl | Some j ↦ refl ])

-- what holds of a member and of each in a list holds of each once it is put in by order
each_insert : {X : Type 0} (P : X → Type 0) (less : X → X → Bool) (x : X) (xs : List X) → P x → AllByRecursion P xs → AllByRecursion P (insert_by less x xs)
each_insert P less x [] p h = (p, tt)
each_insert {X} P less x (y ∷ xs) p h = elim (less y x) as (λ w. AllByRecursion P (cond w (y ∷ insert_by less x xs) (x ∷ y ∷ xs))) [ true ↦ (h.0, each_insert P less x xs p h.1) | false ↦ (p, h) ]

-- what holds of each in a list holds of each in the sorted list
each_sorted : {X : Type 0} (P : X → Type 0) (less : X → X → Bool) (xs : List X) → AllByRecursion P xs → AllByRecursion P (sorted_by less xs)
each_sorted P less [] h = tt
each_sorted P less (x ∷ xs) h = each_insert P less x (sorted_by less xs) h.0 (each_sorted P less xs h.1)

-- the bindings of an operator with one input have the variables that it binds
unary_bound : (docs : Documents) (op : Unary) (kinds : Kinds) (rows : List Row) → IsUnaryFit kinds op → AllByRecursion (IsRowOf kinds) rows → AllByRecursion (IsRowOf (unary_kinds op kinds)) (unary docs op rows)
unary_bound docs (select test) kinds rows f h = each_filter (IsRowOf kinds) (holds docs test) rows h
unary_bound docs (order_by v desc) kinds rows f h = each_sorted (IsRowOf kinds) _ rows h
unary_bound docs (project keys) kinds rows f h =
    each_map (IsRowOf (kept keys kinds)) (restrict keys) (firsts (same_rows docs keys) rows) (each_all (λ row. IsRowOf (kept keys kinds) (restrict keys row)) (has_restrict keys kinds f) (firsts (same_rows docs keys) rows))
unary_bound docs (group_by [] piece out) kinds rows f h = (has_with out a_list (listed none) (kept [] kinds) [] (λ v. refl), tt)
unary_bound docs (group_by (k ∷ keys) piece out) kinds rows f h =
    each_map (IsRowOf (with_kind out a_list (kept (k ∷ keys) kinds))) _ (firsts (same_rows docs (k ∷ keys)) rows)
    (each_all _ (λ row. has_with out a_list (listed none) (kept (k ∷ keys) kinds) (restrict (k ∷ keys) row) (has_restrict (k ∷ keys) kinds f.0 row)) (firsts (same_rows docs (k ∷ keys)) rows))
unary_bound docs (concatenate pieces out) kinds rows f h =
    each_map (IsRowOf (with_kind out a_list kinds)) _ rows (each_weaker (IsRowOf kinds) _ (λ row g. has_with out a_list (listed none) kinds row g) rows h)
unary_bound docs (create_element label list out) kinds rows f h =
    each_map (IsRowOf (with_kind out an_element kinds)) _ rows (each_weaker (IsRowOf kinds) _ (λ row g. has_with out an_element (listed none) kinds row g) rows h)

-- each row of a tree has the variables that the tree binds
pub tree_bound : (world : World) (x : Tree) → TreeFits x → AllByRecursion (IsRowOf (tree_kinds x)) (tree_rows world x)
unfolding TreeFits tree_kinds
tree_bound world (begin s out) h = (has_with out a_node (listed none) no_kinds [] (λ v. refl), tt)
tree_bound world (descend x start path out) h =
    each_flat (IsRowOf (with_kind out a_node (tree_kinds x))) _ (tree_rows world x)
    (each_weaker (IsRowOf (tree_kinds x)) _
    (λ row g. each_map (IsRowOf (with_kind out a_node (tree_kinds x))) _ (world.matches path (nodes_in row start)) (each_all _ (λ place. has_with out a_node (listed none) (tree_kinds x) row g) (world.matches path (nodes_in row start))))
    (tree_rows world x) (tree_bound world x h.0))
tree_bound world (both l r tests) h =
    let ks : Kinds = λ v. either_kind (tree_kinds l v) (tree_kinds r v) in
    let p : Row → Bool = λ row. list_all (λ t. holds world.docs t row) tests in
    each_flat (IsRowOf ks) _ (tree_rows world l)
    (each_weaker (IsRowOf (tree_kinds l)) _
    (λ a g. each_filter (IsRowOf ks) p (map (λ b. a ++ b) (tree_rows world r))
    (each_map (IsRowOf ks) (λ b. a ++ b) (tree_rows world r) (each_weaker (IsRowOf (tree_kinds r)) (λ b. IsRowOf ks (a ++ b)) (λ b k. has_both (tree_kinds l) (tree_kinds r) a b g k) (tree_rows world r) (tree_bound world r h.1))))
    (tree_rows world l) (tree_bound world l h.0))
tree_bound world (above x op) h = unary_bound world.docs op (tree_kinds x) (tree_rows world x) h.1 (tree_bound world x h.0)

-- A TEST OF TWO ROWS

-- the value of a variable in a pair is the left row's where that has it, and else the right row's
value-both : (a b : Row) (v : ℕ) → value (a ++ b) v ≡ cond (has a v) (value a v) (value b v)
value-both [] b v = refl
value-both (p ∷ a) b v = elim (p.0 == v) as (λ w. cond w p.1 (value (a ++ b) v) ≡ cond (w || has a v) (cond w p.1 (value a v)) (value b v)) [ true ↦ refl | false ↦ value-both a b v ]

-- a variable of the left row has in the pair the node of the left row
node-left : (a b : Row) (v : ℕ) → has a v ≡ true → nodes_in (a ++ b) v ≡ nodes_in a v
node-left a b v h = ap node_in (value-both a b v ∙ ap (λ (x : Bool). cond x (value a v) (value b v)) h)

-- a variable that the left row has not has in the pair the node of the right row
node-right : (a b : Row) (v : ℕ) → has a v ≡ false → nodes_in (a ++ b) v ≡ nodes_in b v
node-right a b v h = ap node_in (value-both a b v ∙ ap (λ (x : Bool). cond x (value a v) (value b v)) h)

-- nodes that agree on what is compared with
abbrev SameOperand : Operand → (ℕ → Node) → (ℕ → Node) → Type 0
SameOperand (var_operand v) m n = m v ≡ n v
SameOperand (text_operand label) m n = Unit {0}

-- the label of an operand reads its variable alone
same_label : (docs : Documents) (o : Operand) (m n : ℕ → Node) → SameOperand o m n → operand_label docs o m ≡ operand_label docs o n
same_label docs (var_operand v) m n h = ap (label_at docs) h
same_label docs (text_operand label) m n h = refl

-- whether an operand is the same node depends on the node of its variable alone
same_same : (op : TestOp) (k : Node) (o : Operand) (m n : ℕ → Node) → SameOperand o m n → is_same op k o m ≡ is_same op k o n
same_same Eq k o m n h = refl
same_same Ne k o m n h = refl
same_same Lt k o m n h = refl
same_same Le k o m n h = refl
same_same Gt k o m n h = refl
same_same Ge k o m n h = refl
same_same Same k (var_operand v) m n h = ap (λ (x : Node). is_same Same k (var_operand v) (λ (w : ℕ). x)) h
same_same Same k (text_operand label) m n h = refl

-- a comparison reads its variables alone
same_passes : (docs : Documents) (t : Test) (m n : ℕ → Node) → m t.left ≡ n t.left → SameOperand t.right m n → passes docs t m ≡ passes docs t n
same_passes docs t m n h g =
    ap (λ (k : Node). compares t.op (label_at docs k) (operand_label docs t.right m) || is_same t.op k t.right m) h
    ∙ ap (λ (y : List ℕ). compares t.op (label_at docs (n t.left)) y || is_same t.op (n t.left) t.right m) (same_label docs t.right m n g)
    ∙ ap (λ (z : Bool). compares t.op (label_at docs (n t.left)) (operand_label docs t.right n) || z) (same_same t.op (n t.left) t.right m n g)

-- a comparison of the left side holds of a pair where it holds there
holds_left : (docs : Documents) (t : Test) (ks : Kinds) (a b : Row) → IsRowOf ks a → binds_test ks t ≡ true → holds docs t (a ++ b) ≡ holds docs t a
holds_left docs t ks a b h e =
    same_passes docs t (nodes_in (a ++ b)) (nodes_in a) (node-left a b t.left (h t.left ∙ first_true (is_bound (ks t.left)) (binds_operand ks t.right) e))
    (operand t.right (second_true (is_bound (ks t.left)) (binds_operand ks t.right) e))
  where
    operand : (o : Operand) → binds_operand ks o ≡ true → SameOperand o (nodes_in (a ++ b)) (nodes_in a)
    operand (var_operand v) g = node-left a b v (h v ∙ g)
    operand (text_operand label) g = tt

-- a comparison whose variables the right side binds holds of a pair where it holds of the right row
holds_right : (docs : Documents) (t : Test) (ks js : Kinds) → ((v : ℕ) → is_bound (js v) ≡ true → is_bound (ks v) ≡ false) → (a b : Row) → IsRowOf ks a → binds_test js t ≡ true → holds docs t (a ++ b) ≡ holds docs t b
holds_right docs t ks js apart a b h e =
    same_passes docs t (nodes_in (a ++ b)) (nodes_in b) (node-right a b t.left (h t.left ∙ apart t.left (first_true (is_bound (js t.left)) (binds_operand js t.right) e)))
    (operand t.right (second_true (is_bound (js t.left)) (binds_operand js t.right) e))
  where
    operand : (o : Operand) → binds_operand js o ≡ true → SameOperand o (nodes_in (a ++ b)) (nodes_in b)
    operand (var_operand v) g = node-right a b v (h v ∙ apart v g)
    operand (text_operand label) g = tt

-- A SELECTION OVER A JOIN

module _ (docs : Documents) (tests : List Test) (t : Test) where
  -- whether a comparison holds of a binding
  abbrev p : Row → Bool
  p row = list_all (λ s. holds docs s row) tests

  -- the comparison, over a binding
  abbrev q : Row → Bool
  q row = holds docs t row

  -- the pairs of one left binding that pass
  abbrev beside : List Row → Row → List Row
  beside rights a = filter p (map (λ b. a ++ b) rights)

  -- where the left side binds a selection's variables, selecting left rows before a join is selecting after it
  pub join_left : (ks : Kinds) (lefts rights : List Row) → AllByRecursion (IsRowOf ks) lefts → binds_test ks t ≡ true → joined_rows docs tests (filter q lefts) rights ≡ filter q (joined_rows docs tests lefts rights)
  join_left ks lefts rights h e =
      flat_map-filter q (beside rights) lefts
      ∙ flat_map_same (λ a. cond (q a) (beside rights a) []) (λ a. filter q (beside rights a)) lefts
      (each_weaker (IsRowOf ks) (λ a. cond (q a) (beside rights a) [] ≡ filter q (beside rights a))
      (λ a g. sym (filter_const q (q a) (beside rights a)
      (each_filter (λ x. q x ≡ q a) p (map (λ b. a ++ b) rights) (each_map (λ x. q x ≡ q a) (λ b. a ++ b) rights (each_all (λ b. q (a ++ b) ≡ q a) (λ b. holds_left docs t ks a b g e) rights)))))
      lefts h)
      ∙ sym (filter-flat_map q (beside rights) lefts)

  -- where the right side binds a selection's variables, selecting right rows before a join is selecting after it
  pub join_right : (ks js : Kinds) (lefts rights : List Row) → ((v : ℕ) → is_bound (js v) ≡ true → is_bound (ks v) ≡ false) → AllByRecursion (IsRowOf ks) lefts → binds_test js t ≡ true →
      joined_rows docs tests lefts (filter q rights) ≡ filter q (joined_rows docs tests lefts rights)
  join_right ks js lefts rights apart h e =
      flat_map_same (beside (filter q rights)) (λ a. filter q (beside rights a)) lefts
      (each_weaker (IsRowOf ks) (λ a. beside (filter q rights) a ≡ filter q (beside rights a))
      (λ a g. sym (filter-comm q p (map (λ b. a ++ b) rights)
      ∙ ap (filter p) (filter-map q (λ b. a ++ b) rights
      ∙ ap (map (λ b. a ++ b)) (filter_same (λ b. q (a ++ b)) q rights (each_all (λ b. q (a ++ b) ≡ q b) (λ b. holds_right docs t ks js apart a b g e) rights)))))
      lefts h)
      ∙ sym (filter-flat_map q (beside rights) lefts)

  -- a join with the selection's comparison added is the selection after the join
  pub join_more : (lefts rights : List Row) → joined_rows docs (tests ++ t ∷ []) lefts rights ≡ filter q (joined_rows docs tests lefts rights)
  join_more lefts rights =
      flat_map_same (λ a. filter (λ row. list_all (λ s. holds docs s row) (tests ++ t ∷ [])) (map (λ b. a ++ b) rights)) (λ a. filter q (beside rights a)) lefts
      (each_all (λ a. filter (λ row. list_all (λ s. holds docs s row) (tests ++ t ∷ [])) (map (λ b. a ++ b) rights) ≡ filter q (beside rights a))
      (λ a. sym (filter_both p q (λ row. list_all (λ s. holds docs s row) (tests ++ t ∷ [])) (λ row. list_all-more (λ s. holds docs s row) tests t) (map (λ b. a ++ b) rights)))
      lefts)
      ∙ sym (filter-flat_map q (beside rights) lefts)

-- the bindings of a tree with a selection pushed into it are those of the tree of which the comparison holds
pub pushed-rows : (world : World) (t : Test) (x : Tree) → TreeFits x → AreDistinct (tree_outs x) → tree_rows world (pushed t x) ≡ filter (holds world.docs t) (tree_rows world x)
unfolding TreeFits tree_outs
pushed-rows world t (begin s out) h d = refl
pushed-rows world t (descend x start path out) h d = refl
pushed-rows world t (above x op) h d = refl
pushed-rows world t (both l r tests) h d =
    pushed_cases (λ y. tree_rows world y ≡ filter (holds world.docs t) (tree_rows world (both l r tests))) t l r tests
    (λ e. ap (λ (rows : List Row). joined_rows world.docs tests rows (tree_rows world r)) (pushed-rows world t l h.0 (distinct_prefix (tree_outs l) (tree_outs r) d))
    ∙ join_left world.docs tests t (tree_kinds l) (tree_rows world l) (tree_rows world r) (tree_bound world l h.0) e)
    (λ e. ap (joined_rows world.docs tests (tree_rows world l)) (pushed-rows world t r h.1 (distinct_after (tree_outs l) (tree_outs r) d))
    ∙ join_right world.docs tests t (tree_kinds l) (tree_kinds r) (tree_rows world l) (tree_rows world r) (sides_apart l r d) (tree_bound world l h.0) e)
    (join_more world.docs tests t (tree_rows world l) (tree_rows world r))

-- the bindings of a rewritten tree are those of the tree
pub rewritten-rows : (world : World) (x : Tree) → TreeFits x → AreDistinct (tree_outs x) → tree_rows world (rewritten x) ≡ tree_rows world x
unfolding TreeFits tree_outs
rewritten-rows world (begin s out) h d = refl
rewritten-rows world (descend x start path out) h d = ap (descended world start path out) (rewritten-rows world x h.0 (distinct_prefix (tree_outs x) (out ∷ []) d))
rewritten-rows world (both l r tests) h d =
    ap (λ (rows : List Row). joined_rows world.docs tests rows (tree_rows world (rewritten r))) (rewritten-rows world l h.0 (distinct_prefix (tree_outs l) (tree_outs r) d))
    ∙ ap (joined_rows world.docs tests (tree_rows world l)) (rewritten-rows world r h.1 (distinct_after (tree_outs l) (tree_outs r) d))
rewritten-rows world (above x op) h d =
    let dx = distinct_prefix (tree_outs x) (unary_outs op) d in
    put_cases (λ y. tree_rows world y ≡ unary world.docs op (tree_rows world (rewritten x))) op (rewritten x)
    (λ t e. pushed-rows world t (rewritten x) (rewritten_fits x h.0 dx) (subst AreDistinct (sym (rewritten-outs x)) dx) ∙ ap (λ (o : Unary). unary world.docs o (tree_rows world (rewritten x))) (sym e))
    refl
    ∙ ap (unary world.docs op) (rewritten-rows world x h.0 dx)
