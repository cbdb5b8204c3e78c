-- The tree of a rule's canonical form has no refusal where that of the rule has none, and it has the same value.
use Rattle.std.proofs.Common.{◌≡◌, ◌∙◌, ◌+◌, ◌<◌, ◌≤◌, ℕ, Bool, true, false, cond, nat_lt, List, [], ◌∷◌, ◌++◌, Option, Some, None, refl, ap, sym, subst, length, map, arith, bytes_eq}
use Rattle.std.specs.List.{list_any, AllByRecursion}
use Rattle.std.proofs.lemmas.Bool.Decides.{nat_tests}
use Rattle.std.proofs.lemmas.List.{length-append}
use Rattle.mix_base.specs.Groups.{firsts}
use Rattle.mix_base.proofs.Firsts.{each_firsts, each_weaker}
use Rattle.mix_tree.specs.declared.var.Key.{Key as ValueKey}
use Rattle.xmas_text.specs.Groups.{GroupForm}
use Rattle.xmas_text.specs.Contents.{Contents, ElementForm}
use Rattle.xmas_text.specs.Elements.{contents_of}
use Rattle.xmas_text.specs.Grammar.{Keys, none, first, more, Group, absent, braced, Items, nothing, element, Conds, Order}
use Rattle.xmas_text.specs.Grammar as written
use Rattle.xmas_text.specs.Parsed.{keys_at, key_at, group_at, items_at, close_place, conds_at, order_at}
use Rattle.xmas_text.specs.declared.var.VarText.{VarText}
use Rattle.xmas_text.specs.declared.var.KeyText.{KeyText}
use Rattle.xmas_text.specs.declared.cond.CondText.{CondText}
use Rattle.xmas_rule.specs.Items as items
use Rattle.xmas_rule.specs.Rules.{RuleValue}
use Rattle.xmas_rule.specs.declared.condition.Cond.{Cond as ValueCond}
use Rattle.xmas_rule.specs.declared.condition.OrderBy.{OrderBy}
use Rattle.xmas_read.specs.Tree.{Tree, contents_vars, group_vars, template_vars, conds_vars, order_vars, vars_of, bound_names, items_in}
use Rattle.xmas_read.specs.Value.{own_keys, items_value, cond_value, order_value, rule_value}
use Rattle.xmas_read.specs.Refusals.{has_name, unless, different_vars, is_nested, has_many, has_path, differing_tags, unknown_sources, bound_again, unbound_vars, unbound_in, outer_keys, loose_items}
use Rattle.xmas_read.proofs.Templates.{unless_none, unbound_append}
use Rattle.xmas_read.proofs.Bodies.{bound_apart}
use Rattle.xmas_read.proofs.NamePlaces.{among_themselves}
use Rattle.xmas_read.proofs.CleanForm.{clean_keys, clean_group, clean_items, clean_conds, clean_order}
use Rattle.xmas_read.proofs.CleanText.{KnownGroup, KnownItems}
use Rattle.xmas_read.proofs.CleanItems.{own_same, items_same, none_both, unless_same, none_differs}
use Rattle.xmas_read.proofs.CleanLevels.{counted, none_of_both, all_items, items_counted, loose_in, loose_counted}
use Rattle.xmas_read.proofs.CleanNames.{bound_both, items_known, items_bound, group_known, group_bound, clean_known, clean_group_known}
use Rattle.xmas_read.proofs.CleanPaths.{KeptConds}
use Rattle.xmas_read.proofs.CleanConds.{unplaced, KnownCond, conds_same, names_unplaced, values_unplaced, paths_unplaced, length_unplaced, unknown_unplaced, again_unplaced, unbound_unplaced}
use Rattle.xmas_read.proofs.CleanBound.{no_more, firsts_different, among_firsts, has_left, has_right, var_names, names_both, bound_among, vars_unplaced, bound_are_known, all_both, conds_known, known_vars, order_same, order_names, same_names_bound}
use Rattle.xmas_read.proofs.Unrefused.{Unrefused}

-- the parts of a written rule: the gap, the name, the items, the blanks, the closing name and the group label of its element, the conditions
-- and the order
pub record Parts : Type 0 where
  pub gap : List ℕ
  pub name : List ℕ
  pub inside : Items
  pub blanks : List ℕ
  pub close : List ℕ
  pub group : Group
  pub conds : Conds
  pub order : Order

-- the items of a written template that has these parts
abbrev pub template_of : Parts → Items
template_of p = element nothing p.gap p.name p.inside p.blanks p.close p.group

-- the parts of the canonical form
abbrev pub clean_parts : Parts → Parts
clean_parts p = record { gap = 32 ∷ []; name = p.name; inside = clean_items p.inside; blanks = 32 ∷ []; close = p.name; group = clean_group none p.group; conds = clean_conds p.conds; order = clean_order p.order }

-- where the items of the element begin
abbrev pub inside_at : ℕ → Parts → ℕ
inside_at n p = n + length {A = ℕ} [] + length p.gap + 1 + length p.name + 1

-- where the group label of the outer element may begin
abbrev pub group_place : ℕ → Parts → ℕ
group_place n p = n + length (written.items_text (element nothing p.gap p.name p.inside p.blanks p.close absent))

-- the outer element of parts that begin at a place
abbrev pub element_at : ℕ → Parts → ElementForm
element_at n p =
    let here = n + length {A = ℕ} [] + length p.gap in
    record { at = here; name = p.name; contents = contents_of (items_at (here + 1 + length p.name + 1) p.inside); close_at = close_place here p.name p.inside p.blanks; close_name = p.close; group = group_at (group_place n p) p.group }

-- the tree of parts that begin at places
abbrev pub tree_at : ℕ → ℕ → ℕ → Parts → Tree
tree_at n m k p = record { template = element_at n p; conds = conds_at m p.conds; order = order_at k p.order }

-- where the outer element has no keys, it has none in the canonical form
outer_none : (n m : ℕ) (e : Group) → outer_keys (group_at m e) ≡ [] → outer_keys (group_at n (clean_group none e)) ≡ []
outer_none n m absent h = refl
outer_none n m (braced g none b) h = refl
outer_none n m (braced g (first f k) b) h = cc
outer_none n m (braced g (more ks f d k) b) h =
    let before = keys_at (m + length g + 1) ks in
    let last = key_at (m + length g + 1 + length (written.keys_text ks) + length f + 1 + length d) k in
    let e = unless_none (nat_lt (length (before ++ last ∷ [])) 1) (m + length g) h in
    let l = length-append before (last ∷ []) in
    absurd (grind (arith, nat_tests))

-- the value of a tree by the names of sources and of variables
abbrev value_by : List (List ℕ) → List (List ℕ) → Tree → RuleValue
value_by sources names t =
    record { label = t.template.name; items = items_value names t.template.contents; keys = own_keys names [] t.template.group; conds = map (cond_value sources names) t.conds; order = order_value names t.order; names = names }

-- the value of a rule with these parts
abbrev value_of : List ℕ → items.Items → List ValueKey → List ValueCond → Option OrderBy → List (List ℕ) → RuleValue
value_of l is ks cs o names = record { label = l; items = is; keys = ks; conds = cs; order = o; names = names }

-- the names that the conditions of the canonical form bind are the same
pub names_same : (m k : ℕ) (cs : Conds) → KeptConds cs → bound_names (conds_at m (clean_conds cs)) ≡ bound_names (conds_at k cs)
names_same m k cs h = sym (names_unplaced (conds_at m (clean_conds cs))) ∙ ap bound_names (conds_same m k cs h) ∙ names_unplaced (conds_at k cs)

-- the value of a rule's tree is the same in the canonical form
pub value_same : (sources : List (List ℕ)) (n m k n' m' k' : ℕ) (p : Parts) → KeptConds p.conds → rule_value sources (tree_at n' m' k' (clean_parts p)) ≡ rule_value sources (tree_at n m k p)
value_same sources n m k n' m' k' p h =
    let q = clean_parts p in
    let names = bound_names (conds_at m p.conds) in
    let values = sym (values_unplaced sources names (conds_at m' q.conds)) ∙ ap (map (cond_value sources names)) (conds_same m' m p.conds h) ∙ values_unplaced sources names (conds_at m p.conds) in
    ap (λ ns. value_by sources ns (tree_at n' m' k' q)) (names_same m' m p.conds h)
    ∙ ap (λ is. value_of p.name is (own_keys names [] (group_at (group_place n' q) q.group)) (map (cond_value sources names) (conds_at m' q.conds)) (order_value names (order_at k' q.order)) names)
    (items_same names (inside_at n' q) (inside_at n p) p.inside)
    ∙ ap (λ (ks : List ValueKey). value_of p.name (items_value names (contents_of (items_at (inside_at n p) p.inside))) ks (map (cond_value sources names) (conds_at m' q.conds)) (order_value names (order_at k' q.order)) names)
    (own_same names (group_place n' q) (group_place n p) none [] [] p.group (λ i. refl))
    ∙ ap (λ (cs : List ValueCond). value_of p.name (items_value names (contents_of (items_at (inside_at n p) p.inside))) (own_keys names [] (group_at (group_place n p) p.group)) cs (order_value names (order_at k' q.order)) names)
    values
    ∙ ap (λ (o : Option OrderBy). value_of p.name (items_value names (contents_of (items_at (inside_at n p) p.inside))) (own_keys names [] (group_at (group_place n p) p.group)) (map (cond_value sources names) (conds_at m p.conds)) o names)
    (order_same names k' k p.order)

-- what is known of the names of a tree without a refusal
pub record Known (sources : List (List ℕ)) (m k : ℕ) (p : Parts) : Type 0 where
  pub items : KnownItems (bound_names (conds_at m p.conds)) p.inside
  pub group : KnownGroup (bound_names (conds_at m p.conds)) p.group
  pub conds : AllByRecursion (KnownCond sources (bound_names (conds_at m p.conds))) (conds_at m p.conds)
  pub order : unbound_vars (bound_names (conds_at m p.conds)) (order_vars (order_at k p.order)) ≡ []

-- the variables and sources of a tree without a refusal are known
pub names_known : (sources : List (List ℕ)) (n m k : ℕ) (p : Parts) → Unrefused sources (tree_at n m k p) → Known sources m k p
names_known sources n m k p u =
    let names = bound_names (conds_at m p.conds) in
    let vars = unbound_append names (contents_vars (contents_of (items_at (inside_at n p) p.inside))) (group_vars (group_at (group_place n p) p.group)) u.shown in
    record {
      items = items_known names (inside_at n p) p.inside vars.0;
      group = group_known names (group_place n p) p.group vars.1;
      conds = conds_known sources names [] (conds_at m p.conds) tt (among_themselves names) u.known u.used;
      order = u.sorted;
    }

-- what holds of the names of three lists of variables, each, holds of those of all three
all_names : (P : List ℕ → Type 0) (vs ws us : List VarText) → AllByRecursion P (var_names vs) → AllByRecursion P (var_names ws) → AllByRecursion P (var_names us) → AllByRecursion P (var_names (vs ++ ws ++ us))
all_names P vs ws us h k l =
    subst (AllByRecursion P) (sym (names_both (vs ++ ws) us)) (all_both P (var_names (vs ++ ws)) (var_names us) (subst (AllByRecursion P) (sym (names_both vs ws)) (all_both P (var_names vs) (var_names ws) h k)) l)

-- a name of the second part is among those of three
second_name : (vs ws us : List VarText) (n : List ℕ) → has_name (var_names ws) n ≡ true → has_name (var_names (vs ++ ws ++ us)) n ≡ true
second_name vs ws us n h =
    subst (λ xs. has_name xs n ≡ true) (sym (names_both (vs ++ ws) us)) (has_left (var_names (vs ++ ws)) (var_names us) n
    (subst (λ xs. has_name xs n ≡ true) (sym (names_both vs ws)) (has_right (var_names vs) (var_names ws) n h)))

-- a tree without a refusal has at least as many variables as its conditions bind
bound_few : (sources : List (List ℕ)) (t : Tree) → Unrefused sources t → length (bound_names t.conds) ≤ different_vars t
bound_few sources t u =
    no_more (bound_names t.conds) (firsts bytes_eq (var_names (vars_of t))) (bound_apart [] t.conds u.again).1
    (each_weaker (λ n. has_name (var_names (conds_vars t.conds)) n ≡ true) (λ n. has_name (firsts bytes_eq (var_names (vars_of t))) n ≡ true)
    (λ n h. among_firsts (var_names (vars_of t)) n (second_name (template_vars t.template) (conds_vars t.conds) (order_vars t.order) n h))
    (bound_names t.conds) (bound_among t.conds))

-- a tree whose variables are among names has no more than those
few_vars : (names : List (List ℕ)) (t : Tree) → AllByRecursion (λ n. has_name names n ≡ true) (var_names (template_vars t.template)) → AllByRecursion (λ n. has_name names n ≡ true) (var_names (conds_vars t.conds))
    → AllByRecursion (λ n. has_name names n ≡ true) (var_names (order_vars t.order)) → different_vars t ≤ length names
few_vars names t h k l =
    no_more (firsts bytes_eq (var_names (vars_of t))) names (firsts_different (var_names (vars_of t)))
    (each_firsts (λ n. has_name names n ≡ true) bytes_eq (var_names (vars_of t)) (all_names (λ n. has_name names n ≡ true) (template_vars t.template) (conds_vars t.conds) (order_vars t.order) h k l))

-- the variables of the canonical form's template are bound
shown_bound : (names : List (List ℕ)) (n : ℕ) (p : Parts) → KnownItems names p.inside → KnownGroup names p.group → unbound_vars names (template_vars (element_at n (clean_parts p))) ≡ []
shown_bound names n p h w =
    let q = clean_parts p in
    bound_both names (contents_vars (contents_of (items_at (inside_at n q) q.inside))) (group_vars (group_at (group_place n q) q.group))
    (items_bound names (inside_at n q) q.inside (clean_known names p.inside h)) (group_bound names (group_place n q) q.group (clean_group_known names none p.group tt w))

-- what is no more than something of at most 60 is at most 60
still_few : (a b c : ℕ) → a ≤ b → b ≤ c → nat_lt 60 c ≡ false → nat_lt 60 a ≡ false
still_few a b c h k e = grind (arith, nat_tests)

-- the canonical form has no refusal
pub clean_unrefused : (sources : List (List ℕ)) (n m k n' m' k' : ℕ) (p : Parts) → KeptConds p.conds → Unrefused sources (tree_at n m k p) → Unrefused sources (tree_at n' m' k' (clean_parts p))
clean_unrefused sources n m k n' m' k' p h u =
    let q = clean_parts p in
    let cs = conds_at m p.conds in
    let ds = conds_at m' q.conds in
    let names = bound_names cs in
    let same : map unplaced ds ≡ map unplaced cs = conds_same m' m p.conds h in
    let names_are : names ≡ bound_names ds = sym (names_same m' m p.conds h) in
    let w = names_known sources n m k p u in
    let c = contents_of (items_at (inside_at n p) p.inside) in
    let d = contents_of (items_at (inside_at n' q) q.inside) in
    let value : items_value names d ≡ items_value names c = items_same names (inside_at n' q) (inside_at n p) p.inside in
    let shown = shown_bound names n' p w.items w.group in
    let order : AllByRecursion (λ n. has_name names n ≡ true) (var_names (order_vars (order_at k' q.order))) =
    subst (AllByRecursion (λ n. has_name names n ≡ true)) (sym (order_names k' k p.order)) (bound_are_known names (order_vars (order_at k p.order)) w.order) in
    let conds : AllByRecursion (λ n. has_name names n ≡ true) (var_names (conds_vars ds)) =
    subst (AllByRecursion (λ n. has_name names n ≡ true)) (sym (vars_unplaced cs) ∙ ap (λ xs. var_names (conds_vars xs)) (sym same) ∙ vars_unplaced ds) (known_vars sources names cs w.conds) in
    record {
      items = ap (nat_lt 1000) (items_counted names d ∙ ap all_items value ∙ sym (items_counted names c)) ∙ u.items;
      vars = still_few (different_vars (tree_at n' m' k' q)) (length names) (different_vars (tree_at n m k p)) (few_vars names (tree_at n' m' k' q) (bound_are_known names (template_vars (element_at n' q)) shown) conds order) (bound_few sources (tree_at n m k p) u) u.vars;
      conds = ap (nat_lt 100) (sym (length_unplaced ds) ∙ ap (λ xs. length xs) same ∙ length_unplaced cs) ∙ u.conds;
      nested = sym (paths_unplaced is_nested ds) ∙ ap (list_any (has_path is_nested)) same ∙ paths_unplaced is_nested cs ∙ u.nested;
      many = sym (paths_unplaced has_many ds) ∙ ap (list_any (has_path has_many)) same ∙ paths_unplaced has_many cs ∙ u.many;
      tags = none_both (differing_tags d) _ (none_differs (inside_at n' q) p.inside) (unless_same p.name _);
      known = none_of_both (unknown_sources sources cs) (unknown_sources sources ds) (unknown_unplaced sources cs ∙ ap (unknown_sources sources) (sym same) ∙ sym (unknown_unplaced sources ds)) u.known;
      again = none_of_both (bound_again [] cs) (bound_again [] ds) (again_unplaced [] cs ∙ ap (bound_again []) (sym same) ∙ sym (again_unplaced [] ds)) u.again;
      shown = subst (λ ns. unbound_vars ns (template_vars (element_at n' q)) ≡ []) names_are shown;
      used = subst (λ ns. unbound_in ns [] ds ≡ []) names_are
          (none_of_both (unbound_in names [] cs) (unbound_in names [] ds) (unbound_unplaced names [] cs ∙ ap (unbound_in names []) (sym same) ∙ sym (unbound_unplaced names [] ds)) u.used);
      sorted = subst (λ ns. unbound_vars ns (order_vars (order_at k' q.order)) ≡ []) names_are (same_names_bound names (order_vars (order_at k' q.order)) order);
      outer = outer_none (group_place n' q) (group_place n p) p.group u.outer;
      loose = subst (λ ns. loose_items ns [] d ≡ []) names_are
          (none_of_both (loose_items names [] c) (loose_items names [] d) (loose_counted names [] c ∙ ap (loose_in []) (sym value) ∙ sym (loose_counted names [] d)) u.loose);
    }
