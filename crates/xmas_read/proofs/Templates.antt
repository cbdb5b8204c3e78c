-- A template that isn't refused is accepted.
use Rattle.std.proofs.Common.{◌≡◌, ◌∙◌, ◌+◌, ◌<◌, ◌≤◌, ℕ, Bool, true, false, cond, ◌||◌, ◌&&◌, ◌==◌, not, nat_lt, List, [], ◌∷◌, ◌++◌, Option, Some, None, refl, ap, sym, subst, length, map, arith}
use Rattle.std.proofs.lemmas.Bool.Decides.{nat_tests}
use Rattle.mix_tree.specs.declared.var.Key.{Key}
use Rattle.mix_tree.specs.declared.var.Key.TheVariants.{Node as node_key, LabelOf as label_key}
use Rattle.mix_tree.specs.Keys.{key_var, has_var, stands, collects, in_force}
use Rattle.xmas_text.specs.Groups.{GroupForm}
use Rattle.xmas_text.specs.Contents.{Leaf, node, label_of, text, Contents, nothing, element, leaf}
use Rattle.xmas_text.specs.declared.var.VarText.{VarText}
use Rattle.xmas_text.specs.declared.var.KeyText.{KeyText}
use Rattle.xmas_text.specs.declared.var.KeyText.TheVariants as keyed
use Rattle.xmas_rule.specs.Items as items
use Rattle.xmas_read.specs.Tree.{key_var_text, keys_vars, group_vars, leaf_vars, contents_vars}
use Rattle.xmas_read.specs.Value.{place_in, key_value, own_keys, leaf_value, items_value}
use Rattle.xmas_read.specs.Refusals.{has_name, unless, unbound_vars, leaf_keys, loose_leaf, loose_items}
use Rattle.xmas_read.proofs.NamePlaces.{place_small}

-- two lists that together have no members have none each
pub both_none : {X : Type 0} (xs ys : List X) → xs ++ ys ≡ [] → (xs ≡ []) × (ys ≡ [])
both_none [] ys h = (refl, h)
both_none (x ∷ xs) ys h = cc

-- where a test gives no place, it holds
pub unless_none : (b : Bool) (at : ℕ) → unless b at ≡ [] → b ≡ true
unless_none true at h = refl
unless_none false at h = cc

-- where the variables of two lists together are bound, those of each are
pub unbound_append : (names : List (List ℕ)) (vs ws : List VarText) → unbound_vars names (vs ++ ws) ≡ [] → (unbound_vars names vs ≡ []) × (unbound_vars names ws ≡ [])
unbound_append names [] ws h = (refl, h)
unbound_append names (v ∷ vs) ws h =
    let p = both_none (unless (has_name names v.name) v.at) (unbound_vars names (vs ++ ws)) h in
    let q = unbound_append names vs ws p.1 in
    (rw p.0 q.0, q.1)

-- where a variable and others are bound, its name is among the names, and the others are bound
bound_first : (names : List (List ℕ)) (v : VarText) (vs : List VarText) → unbound_vars names (v ∷ vs) ≡ [] → (has_name names v.name ≡ true) × (unbound_vars names vs ≡ [])
bound_first names v vs h =
    let p = both_none (unless (has_name names v.name) v.at) (unbound_vars names vs) h in (unless_none (has_name names v.name) v.at p.0, p.1)

-- the variable of a key's value is the place of its name
key_place : (names : List (List ℕ)) (k : KeyText) → key_var (key_value names k) ≡ place_in names (key_var_text k).name
key_place names (keyed.Node v) = refl
key_place names (keyed.LabelOf v) = refl

-- keys of bound variables are of the rule's variables
keys_below : (names : List (List ℕ)) (keys : List KeyText) → unbound_vars names (keys_vars keys) ≡ [] → items.AreBelow (length names) (map (key_value names) keys)
keys_below names [] h v k = cc
keys_below names (key ∷ keys) h v k =
    let p = bound_first names (key_var_text key) (keys_vars keys) h in
    let s : key_var (key_value names key) < length names = subst (λ n. n < length names) (sym (key_place names key)) (place_small names (key_var_text key).name p.0) in
    elim (key_var (key_value names key) == v) as (λ w. (key_var (key_value names key) == v) ≡ w → (w || has_var (map (key_value names) keys) v) ≡ true → v < length names) [
      | true ↦ λ e q. grind (arith, nat_tests)
      | false ↦ λ e q. keys_below names keys p.1 v q
    ] refl k

-- the keys of a group label whose variables are bound, or of what stands for it, are of the rule's variables
own_below : (names : List (List ℕ)) (without : List Key) (g : Option GroupForm) → items.AreBelow (length names) without → unbound_vars names (group_vars g) ≡ [] → items.AreBelow (length names) (own_keys names without g)
own_below names without None w h = w
own_below names without (Some g) w h = keys_below names g.keys h

-- one key whose variable is one of the rule's has no other variable
one_below : (n : ℕ) (k : Key) → key_var k < n → items.AreBelow n (k ∷ [])
one_below n k h v e =
    elim (key_var k == v) as (λ w. (key_var k == v) ≡ w → (w || false) ≡ true → v < n) [ true ↦ λ d q. grind (arith, nat_tests) | false ↦ λ d q. cc ] refl e

-- of no keys all are of the rule's variables
none_below : (n : ℕ) → items.AreBelow n []
none_below n v h = cc

-- the items of a level that isn't refused are accepted
pub template_accepted :
    (names : List (List ℕ)) (force : List Key) (c : Contents) → unbound_vars names (contents_vars c) ≡ [] → loose_items names force c ≡ []
    → items.AreAccepted (length names) force (items_value names c)
template_accepted names force nothing u l = tt
template_accepted names force (leaf (node s) after) u l =
    let vars = unbound_append names (leaf_vars (node s)) (contents_vars after) u in
    let var = bound_first names s.var (group_vars s.group) vars.0 in
    let loose = both_none (loose_leaf names (in_force force (leaf_keys names (node s))) (node s)) (loose_items names force after) l in
    let k = node_key (place_in names s.var.name) in (
      unless_none (stands (in_force force (leaf_keys names (node s))) k) s.at loose.0,
      own_below names (k ∷ []) s.group (one_below (length names) k (place_small names s.var.name var.0)) var.1,
      template_accepted names force after vars.1 loose.1,
    )
template_accepted names force (leaf (label_of s) after) u l =
    let vars = unbound_append names (leaf_vars (label_of s)) (contents_vars after) u in
    let var = bound_first names s.var (group_vars s.group) vars.0 in
    let loose = both_none (loose_leaf names (in_force force (leaf_keys names (label_of s))) (label_of s)) (loose_items names force after) l in
    let k = label_key (place_in names s.var.name) in (
      unless_none (stands (in_force force (leaf_keys names (label_of s))) k) s.at loose.0,
      own_below names (k ∷ []) s.group (one_below (length names) k (place_small names s.var.name var.0)) var.1,
      template_accepted names force after vars.1 loose.1,
    )
template_accepted names force (leaf (text t) after) u l = template_accepted names force after u l
template_accepted names force (element tags inside after) u l =
    let around = in_force force (own_keys names [] tags.group) in
    let vars = unbound_append names (contents_vars inside ++ group_vars tags.group) (contents_vars after) u in
    let inner = unbound_append names (contents_vars inside) (group_vars tags.group) vars.0 in
    let loose = both_none (loose_items names around inside) (loose_items names force after) l in (
      own_below names [] tags.group (none_below (length names)) inner.1,
      template_accepted names around inside inner.0 loose.0,
      template_accepted names force after vars.1 loose.1,
    )
