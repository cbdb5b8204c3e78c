-- The operators of a rule's body: they are written, and bind each variable of the rule.
use Rattle.std.proofs.Common.{◌≡◌, ◌<◌, ◌≤◌, ◌+◌, ℕ, suc, true, false, List, [], ◌∷◌, ◌++◌, length, length-append, refl, ◌∙◌, sym, ap, subst, arith, inl, inr, Option, None, Some}
use Rattle.std.specs.List.{AllByRecursion}
use Rattle.std.proofs.lemmas.Grind.{flat_map-append}
use Rattle.mix_base.specs.Ascents.{Among}
use Rattle.mix_base.proofs.Ascents.{among_left, among_right, among_cases}
use Rattle.mix_base.proofs.Lists.{append_nil}
use Rattle.mix_tree.specs.Names.{IsName}
use Rattle.mix_tree.specs.declared.comparing.Test.{Test}
use Rattle.xmas_rule.specs.Conditions.{Binder, from_source, from_var, binder_var, binder_vars, has, flat, binders, comparisons, components}
use Rattle.xmas_rule.specs.Rules.{RuleValue, IsAccepted, variables}
use Rattle.xmas_rule.specs.declared.condition.OrderBy.{OrderBy}
use Rattle.xmas_rule.specs.Reached.{source_of}
use Rattle.xmas_rule.proofs.Components.{components_each, no_vars}
use Rattle.xmas_rule.proofs.Members.{each_append, each-append}
use Rattle.xmas_rule.proofs.TupleLaws.{binder_vars-append}
use Rattle.plan_core.specs.Unary.{Unary}
use Rattle.plan_core.specs.Valid.{unary_outs}
use Rattle.plan_make.specs.Operators.{with_binder, with_binders, component_tree, with_components, components_tree, selects, orders, body_tree, body_next}
use Rattle.plan_make.specs.Trees.{Tree, begin, both}
use Rattle.plan_make.proofs.BodyParts.{bound_vars, body-outs}
use Rattle.plan_make.proofs.BranchParts.{stacked-outs}
use Rattle.plan_make.proofs.Rising.{outs}
use Rattle.plan_make.proofs.TreeParts.{tree_outs}
use Rattle.plan_make.proofs.Whole.{all_below}
use Rattle.plan_written.proofs.Counts.{IsCounted}
use Rattle.plan_written.proofs.Pigeonhole.{all_stand, has_among}
use Rattle.plan_written.proofs.Templates.{AreWrittenItems, IsMade}
use Rattle.plan_written.proofs.Trees.{IsWrittenPath, IsWrittenTest, IsWrittenUnary, IsWrittenTree, stacked_written}

-- the path of a condition is written
abbrev pub IsWrittenBinder : Binder → Type 0
IsWrittenBinder (from_source s path var) = IsWrittenPath path
IsWrittenBinder (from_var x path var) = IsWrittenPath path

-- a rule of which the paths, names and labels are written
pub record IsWrittenRule (r : RuleValue) : Type 0 where
  pub label : IsName r.label
  pub items : AreWrittenItems r.items
  pub binders : AllByRecursion IsWrittenBinder (binders r.conds)
  pub tests : AllByRecursion IsWrittenTest (comparisons r.conds)

-- PATHS AND LABELS

-- conditions with written paths over a written tree make a written tree
binders_written : (cs : List Binder) (t : Tree) (d : ℕ) → IsWrittenTree t → AllByRecursion IsWrittenBinder cs → IsWrittenTree (with_binders t d cs)
unfolding IsWrittenTree
binders_written [] t d h w = h
binders_written (from_source s path var ∷ cs) t d h w = binders_written cs (with_binder t d (from_source s path var)) d (h, w.0) w.1
binders_written (from_var x path var ∷ cs) t d h w = binders_written cs (with_binder t d (from_var x path var)) d (h, w.0) w.1

-- a component of conditions with written paths is a written tree
component_written : (comp : List Binder) (d : ℕ) → AllByRecursion IsWrittenBinder comp → IsWrittenTree (component_tree d comp)
unfolding IsWrittenTree
component_written comp d w = binders_written comp (begin (source_of comp) d) d tt w

-- a written tree joined with further components of written paths is written
more_written : (comps : List (List Binder)) (d : ℕ) (t : Tree) → IsWrittenTree t → AllByRecursion IsWrittenBinder (flat comps) → IsWrittenTree (with_components d t comps)
unfolding IsWrittenTree
more_written [] d t h w = h
more_written (comp ∷ comps) d t h w =
    let s = each-append IsWrittenBinder comp (flat comps) w in more_written comps (suc d) (both t (component_tree d comp) []) (h, component_written comp d s.0, tt) s.1

-- the joined components of conditions with written paths are a written tree
components_written : (comps : List (List Binder)) (d : ℕ) → AllByRecursion IsWrittenBinder (flat comps) → IsWrittenTree (components_tree d comps)
unfolding IsWrittenTree
components_written [] d w = tt
components_written (comp ∷ comps) d w = let s = each-append IsWrittenBinder comp (flat comps) w in more_written comps (suc d) (component_tree d comp) (component_written comp d s.0) s.1

-- the selections of written comparisons are written
selects_written : (ts : List Test) → AllByRecursion IsWrittenTest ts → AllByRecursion IsWrittenUnary (selects ts)
selects_written [] h = tt
selects_written (t ∷ ts) h = (h.0, selects_written ts h.1)

-- the operator of an order has no label, and so is written
orders_written : (o : Option OrderBy) → AllByRecursion IsWrittenUnary (orders o)
orders_written None = tt
orders_written (Some o) = (tt, tt)

-- VARIABLES

-- selections bind nothing anew
selects_outs : (ts : List Test) → outs (selects ts) ≡ []
selects_outs [] = refl
selects_outs (t ∷ ts) = selects_outs ts

-- an order binds nothing anew
orders_outs : (o : Option OrderBy) → outs (orders o) ≡ []
orders_outs None = refl
orders_outs (Some o) = refl

-- the comparisons and the order of a rule bind nothing anew
over_outs : (ts : List Test) (o : Option OrderBy) → outs (selects ts ++ orders o) ≡ []
over_outs ts o = flat_map-append unary_outs (selects ts) (orders o) ∙ ap (λ (vs : List ℕ). vs ++ outs (orders o)) (selects_outs ts) ∙ orders_outs o

-- how many variables components bind: one for each of their sources, and those of their conditions
bound_many : (comps : List (List Binder)) (d : ℕ) → length (bound_vars d comps) ≡ length comps + length (binder_vars (flat comps))
unfolding bound_vars
bound_many [] d = refl
bound_many (comp ∷ comps) d =
    let h = bound_many comps (suc d) in
    let a = length-append (binder_vars comp) (bound_vars (suc d) comps) in
    let b = ap (λ (vs : List ℕ). length vs) (binder_vars-append comp (flat comps)) in
    let c = length-append (binder_vars comp) (binder_vars (flat comps)) in omega (arith, h, a, b, c)

-- the variables of conditions that are all below a number lie below a greater one
vars_below : (top n : ℕ) (cs : List Binder) → top ≤ n → AllByRecursion (λ c. binder_var c < top) cs → AllByRecursion (λ v. v < n) (binder_vars cs)
vars_below top n [] l h = tt
vars_below top n (c ∷ cs) l h = (let x = h.0 in omega (arith, x, l), vars_below top n cs l h.1)

-- the variables that components bind lie below the next new variable
bound_below : (top n : ℕ) (comps : List (List Binder)) (d : ℕ) → top ≤ d → d + length comps ≤ n → AllByRecursion (λ c. binder_var c < top) (flat comps) → AllByRecursion (λ v. v < n) (bound_vars d comps)
unfolding bound_vars
bound_below top n [] d l m h = tt
bound_below top n (comp ∷ comps) d l m h =
    let s = each-append (λ c. binder_var c < top) comp (flat comps) h in (
      omega (arith, m),
      each_append (λ v. v < n) (binder_vars comp) (bound_vars (suc d) comps) (vars_below top n comp (omega (arith, l, m)) s.0) (bound_below top n comps (suc d) (omega (arith, l)) (omega (arith, m)) s.1),
    )

-- each variable of a condition is among those that its components bind
bound_among : (comps : List (List Binder)) (d v : ℕ) → Among v (binder_vars (flat comps)) → Among v (bound_vars d comps)
unfolding bound_vars
bound_among [] d v a = a
bound_among (comp ∷ comps) d v a =
    elim (among_cases (binder_vars comp) (binder_vars (flat comps)) v (subst (Among v) (binder_vars-append comp (flat comps)) a)) [
      | inl x ↦ inr (among_left (binder_vars comp) (bound_vars (suc d) comps) v x)
      | inr x ↦ inr (among_right (binder_vars comp) (bound_vars (suc d) comps) v (bound_among comps (suc d) v x))
    ]

-- the tree of the components of a rule with a variable binds anew what the components bind
components_outs : (comps : List (List Binder)) (d : ℕ) → has (binder_vars (flat comps)) 0 ≡ true → tree_outs (components_tree d comps) ≡ bound_vars d comps
components_outs [] d h = (let c : false ≡ true = h in cc)
components_outs (comp ∷ comps) d h = body-outs comp comps d

-- what is known of the body of a written rule that is accepted: its operators are written, and bind each variable of the rule
pub record IsMadeBody (r : RuleValue) : Type 0 where
  pub made : IsMade (body_tree r) (body_tree r) (body_next r)
  pub binds : (v : ℕ) → v < variables r → Among v (tree_outs (body_tree r))

-- the body of a written rule that is accepted has written operators, which bind each variable of the rule
pub body_made : (sources : ℕ) (r : RuleValue) → IsAccepted sources r → IsWrittenRule r → IsMadeBody r
body_made sources r a w =
    let top : ℕ = variables r in
    let comps : List (List Binder) = components r.conds in
    let ops : List Unary = selects (comparisons r.conds) ++ orders r.order in
    let t : Tree = components_tree top comps in
    let stand : (v : ℕ) → v < top → has (binder_vars (flat comps)) v ≡ true = λ v l. (a.all v).0 l in
    let small : AllByRecursion (λ c. binder_var c < top) (flat comps) = all_below top (flat comps) (λ v h. (a.all v).1 h) in
    let paths : AllByRecursion IsWrittenBinder (flat comps) = components_each IsWrittenBinder (binders r.conds) [] [] no_vars a.bound tt w.binders in
    let some : has (binder_vars (flat comps)) 0 ≡ true = stand 0 a.some in
    let same : tree_outs (body_tree r) ≡ bound_vars top comps =
    stacked-outs ops t ∙ ap (λ (vs : List ℕ). tree_outs t ++ vs) (over_outs (comparisons r.conds) r.order) ∙ append_nil (tree_outs t) ∙ components_outs comps top some in
    let many = bound_many comps top in
    let full = all_stand top (binder_vars (flat comps)) stand in
    record {
      made = record {
        written = stacked_written ops t (components_written comps top paths) (each_append IsWrittenUnary (selects (comparisons r.conds)) (orders r.order) (selects_written (comparisons r.conds) w.tests) (orders_written r.order));
        counted = subst (λ (vs : List ℕ). IsCounted 0 vs (body_next r)) (sym same)
            (record { below = bound_below top (body_next r) comps top (omega arith) (omega arith) small; count = omega (arith, many, full); up = omega arith });
        keeps = λ v x. x;
      };
      binds = λ v l. subst (Among v) (sym same) (bound_among comps top v (has_among (binder_vars (flat comps)) v (stand v l)));
    }
