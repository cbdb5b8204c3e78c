-- The body of a rule's plan holds the node of each variable, and uses what is held.
use Rattle.std.proofs.Common.{◌≡◌, ℕ, suc, ◌<◌, Bool, true, false, cond, List, [], ◌∷◌, ◌++◌, Option, None, Some, refl, ◌∙◌, sym, ap, subst}
use Rattle.std.specs.Prelude.{◌==◌, ◌||◌}
use Rattle.std.specs.List.{AllByRecursion}
use Rattle.std.proofs.lemmas.Bool.{and_from}
use Rattle.mix_tree.specs.Comparisons.{compares_nodes}
use Rattle.mix_tree.specs.Keys.{stands}
use Rattle.mix_tree.specs.declared.comparing.Operand.{Operand}
use Rattle.mix_tree.specs.declared.comparing.Operand.TheVariants.{Var as var_operand, Text as text_operand}
use Rattle.mix_tree.specs.declared.comparing.Test.{Test}
use Rattle.mix_tree.specs.declared.var.Key.{Key}
use Rattle.mix_tree.specs.declared.var.Key.TheVariants.{Node as node_key, LabelOf as label_key}
use Rattle.xmas_rule.specs.Conditions.{Binder, from_source, from_var, binder_var, binder_vars, has, flat, binders, comparisons, components, OperandBelow, AreCompared, HasFewPositions}
use Rattle.xmas_rule.specs.Reached.{source_of}
use Rattle.xmas_rule.specs.Rules.{RuleValue, IsAccepted, IsOrdered, variables}
use Rattle.xmas_rule.specs.declared.condition.OrderBy.{OrderBy}
use Rattle.xmas_rule.proofs.Components.{AreApart, components-apart, components_each, no_vars, nothing_apart}
use Rattle.plan_core.specs.Fronts.{covers}
use Rattle.plan_core.specs.Unary.{Unary}
use Rattle.plan_core.specs.Valid.{a_node, Kinds, either_kind}
use Rattle.plan_core.proofs.Chained.{kinds_after}
use Rattle.plan_evidence.specs.Held.{operand_uses, test_uses}
use Rattle.plan_make.specs.Operators.{with_binder, with_binders, component_tree, with_components, components_tree, selects, orders, body_tree}
use Rattle.plan_make.specs.Trees.{Tree, begin, descend, both, above}
use Rattle.plan_make.proofs.BodyKinds.{body_fit}
use Rattle.plan_make.proofs.TreeParts.{tree_kinds, TreeFits}
use Rattle.plan_make.proofs.Whole.{all_below}
use Rattle.plan_uses.proofs.Keys.{stands_node, stands_left, stands_right, covers_one}
use Rattle.plan_uses.proofs.Trees.{tree_held, TreeUses, held_after, AreUnaryUses, stacked-held, stacked_uses, held-append, uses_append}

-- COMPONENTS

-- a tree of sources and visits, and of joins without comparisons
unfoldable IsJoined : Tree → Type 0
IsJoined (begin s out) = Unit {0}
IsJoined (descend t start path out) = IsJoined t
IsJoined (both l r tests) = IsJoined l × IsJoined r × (tests ≡ [])
IsJoined (above t op) = ⊥

-- visits over a tree of sources, visits and joins are one
binders_joined : (cs : List Binder) (t : Tree) (d : ℕ) → IsJoined t → IsJoined (with_binders t d cs)
unfolding IsJoined
binders_joined [] t d h = h
binders_joined (from_source s path var ∷ cs) t d h = binders_joined cs (with_binder t d (from_source s path var)) d h
binders_joined (from_var x path var ∷ cs) t d h = binders_joined cs (with_binder t d (from_var x path var)) d h

-- a component is a tree of a source and visits
component_joined : (comp : List Binder) (d : ℕ) → IsJoined (component_tree d comp)
unfolding IsJoined
component_joined comp d = binders_joined comp (begin (source_of comp) d) d tt

-- further components joined to such a tree make one
more_joined : (comps : List (List Binder)) (d : ℕ) (t : Tree) → IsJoined t → IsJoined (with_components d t comps)
unfolding IsJoined
more_joined [] d t h = h
more_joined (comp ∷ comps) d t h = more_joined comps (suc d) (both t (component_tree d comp) []) (h, component_joined comp d, refl)

-- the components of a body are a tree of sources, visits and joins
components_joined : (comps : List (List Binder)) (d : ℕ) → IsJoined (components_tree d comps)
unfolding IsJoined
components_joined [] d = tt
components_joined (comp ∷ comps) d = more_joined comps (suc d) (component_tree d comp) (component_joined comp d)

-- with the node of a variable that is bound anew, each node is held
with_node : (out v : ℕ) (ks : Kinds) (keys : List Key) → (ks v ≡ Some a_node → stands keys (node_key v) ≡ true) → cond (out == v) (Some a_node) (ks v) ≡ Some a_node → stands (keys ++ node_key out ∷ []) (node_key v) ≡ true
with_node out v ks keys f h =
    (elim (out == v) as (λ w. (out == v) ≡ w → cond w (Some a_node) (ks v) ≡ Some a_node → stands (keys ++ node_key out ∷ []) (node_key v) ≡ true) [
      | true ↦ λ e g. stands_right keys (node_key out ∷ []) (node_key v) (ap (λ (b : Bool). b || false) e)
      | false ↦ λ e g. stands_left keys (node_key out ∷ []) (node_key v) (f g)
    ]) refl h

-- a tree of sources, visits and joins holds the node of each variable that it binds to a node
nodes_held : (x : Tree) → IsJoined x → (v : ℕ) → tree_kinds x v ≡ Some a_node → stands (tree_held x) (node_key v) ≡ true
unfolding IsJoined tree_held tree_kinds
nodes_held (begin s out) j v h = with_node out v (λ w. None) [] (λ e. cc) h
nodes_held (descend x start path out) j v h = with_node out v (tree_kinds x) (tree_held x) (nodes_held x j v) h
nodes_held (both l r tests) j v h =
    (elim (tree_kinds l v) as (λ w. tree_kinds l v ≡ w → either_kind w (tree_kinds r v) ≡ Some a_node → stands (tree_held l ++ tree_held r) (node_key v) ≡ true) [
      | None ↦ λ e g. stands_right (tree_held l) (tree_held r) (node_key v) (nodes_held r j.1 v g)
      | Some k ↦ λ e g. stands_left (tree_held l) (tree_held r) (node_key v) (nodes_held l j.0 v (e ∙ g))
    ]) refl h
nodes_held (above x op) j v h = absurd j

-- a tree of sources, visits and joins that is fit uses what is held
joined_uses : (x : Tree) → IsJoined x → TreeFits x → TreeUses x
unfolding IsJoined TreeFits TreeUses
joined_uses (begin s out) j f = tt
joined_uses (descend x start path out) j f = (joined_uses x j f.0, covers_one (tree_held x) (node_key start) (nodes_held x j start f.1))
joined_uses (both l r tests) j f =
    (joined_uses l j.0 f.0, joined_uses r j.1 f.1, subst (λ (ts : List Test). AllByRecursion (λ t. covers (tree_held l ++ tree_held r) (test_uses t) ≡ true) ts) (sym j.2) tt)
joined_uses (above x op) j f = absurd j

-- COMPARISONS AND ORDER

module _ (top : ℕ) (keys : List Key) (base : (v : ℕ) → v < top → stands keys (node_key v) ≡ true) where
  -- the node and the label of a variable stand where the node does
  either_stands : (of : Bool) (v : ℕ) → v < top → stands keys (cond of (node_key v) (label_key v)) ≡ true
  either_stands true v h = base v h
  either_stands false v h = stands_node keys (label_key v) (base v h)

  -- the key by which a comparison's right side is told is covered
  operand_held : (of : Bool) (o : Operand) → OperandBelow top o → covers keys (operand_uses of o) ≡ true
  operand_held of (var_operand v) h = covers_one keys (cond of (node_key v) (label_key v)) (either_stands of v h)
  operand_held of (text_operand label) h = refl

  -- selections use what is held, and hold it
  selects_use : (kinds : Kinds) (ts : List Test) → AreCompared top ts → AreUnaryUses kinds keys (selects ts) × (held_after keys (selects ts) ≡ keys)
  selects_use kinds [] h = (tt, refl)
  selects_use kinds (t ∷ ts) h =
      let r = selects_use kinds ts h.1 in
      let of : Bool = compares_nodes t.op in
      ((and_from (stands keys (cond of (node_key t.left) (label_key t.left))) (covers keys (operand_uses of t.right)) (either_stands of t.left h.0.0) (operand_held of t.right h.0.1), r.0), r.1)

  -- an order uses what is held, and holds it
  orders_use : (kinds : Kinds) (o : Option OrderBy) → IsOrdered top o → AreUnaryUses kinds keys (orders o) × (held_after keys (orders o) ≡ keys)
  orders_use kinds None h = (tt, refl)
  orders_use kinds (Some o) h = ((covers_one keys (label_key o.var) (stands_node keys (label_key o.var) (base o.var h)), tt), refl)

-- a body that uses what is held, and holds the node of each variable below a number
pub record IsUsedBody (top : ℕ) (body : Tree) : Type 0 where
  pub uses : TreeUses body
  pub nodes : (v : ℕ) → v < top → stands (tree_held body) (node_key v) ≡ true

-- the body of an accepted rule uses what is held, and holds the nodes of the rule's variables
pub body_used : (sources : ℕ) (r : RuleValue) → IsAccepted sources r → IsUsedBody (variables r) (body_tree r)
body_used sources r a =
    let top : ℕ = variables r in
    let comps : List (List Binder) = components r.conds in
    let t : Tree = components_tree top comps in
    let first : has (binder_vars (flat comps)) 0 ≡ true = (a.all 0).0 a.some in
    let apart : AreApart comps = components-apart (binders r.conds) [] [] no_vars a.bound nothing_apart in
    let small : AllByRecursion (λ c. binder_var c < top) (flat comps) = all_below top (flat comps) (λ v h. (a.all v).1 h) in
    let few : AllByRecursion HasFewPositions (flat comps) = components_each HasFewPositions (binders r.conds) [] [] no_vars a.bound tt a.few_positions in
    let b = body_fit top comps first apart small few in
    let j = components_joined comps top in
    let base : (v : ℕ) → v < top → stands (tree_held t) (node_key v) ≡ true = λ v h. nodes_held t j v (b.binds.nodes v ((a.all v).0 h)) in
    let sel : List Unary = selects (comparisons r.conds) in
    let ord : List Unary = orders r.order in
    let s = selects_use top (tree_held t) base (tree_kinds t) (comparisons r.conds) a.compared in
    let o = orders_use top (tree_held t) base (kinds_after (tree_kinds t) sel) r.order a.ordered in
    let same : tree_held (body_tree r) ≡ tree_held t = stacked-held (sel ++ ord) t ∙ held-append sel ord (tree_held t) ∙ ap (λ (k : List Key). held_after k ord) s.1 ∙ o.1 in
    record {
      uses = stacked_uses (sel ++ ord) t (joined_uses t j b.fits)
          (uses_append sel ord (tree_kinds t) (tree_held t) s.0 (subst (λ (k : List Key). AreUnaryUses (kinds_after (tree_kinds t) sel) k ord) (sym s.1) o.0));
      nodes = λ v h. ap (λ (k : List Key). stands k (node_key v)) same ∙ base v h;
    }
