-- The variables of a template are bound exactly where those of its canonical form are.
use Rattle.std.proofs.Common.{◌≡◌, ◌∙◌, ◌+◌, ℕ, Bool, true, false, cond, List, [], ◌∷◌, ◌++◌, Option, Some, None, refl, ap, sym, length, append_assoc}
use Rattle.xmas_text.specs.Groups.{GroupForm}
use Rattle.xmas_text.specs.Grammar.{Key, node, label, Keys, none, first, more, Group, absent, braced, Items, nothing, variable, literal, element}
use Rattle.xmas_text.specs.Grammar as written
use Rattle.xmas_text.specs.Elements.{contents_of}
use Rattle.xmas_text.specs.Parsed.{key_at, keys_at, group_at, items_at, shown_at}
use Rattle.xmas_text.specs.declared.var.VarText.{VarText}
use Rattle.xmas_text.specs.declared.var.KeyText.{KeyText}
use Rattle.xmas_text.specs.declared.element.ItemText.{ItemText}
use Rattle.xmas_text.specs.declared.element.ItemText.TheVariants as item
use Rattle.xmas_read.specs.Tree.{key_var_text, keys_vars, group_vars, leaf_vars, contents_vars}
use Rattle.xmas_read.specs.Refusals.{has_name, unless, unbound_vars}
use Rattle.xmas_read.proofs.CleanForm.{clean_key, clean_keys, clean_group, clean_items}
use Rattle.xmas_read.proofs.CleanText.{KnownKey, KnownKeys, KnownGroup, KnownItems}
use Rattle.xmas_read.proofs.CleanItems.{none_both}
use Rattle.xmas_read.proofs.Templates.{both_none, unless_none, unbound_append}

-- all variables of two lists are bound
pub bound_both : (names : List (List ℕ)) (vs ws : List VarText) → unbound_vars names vs ≡ [] → unbound_vars names ws ≡ [] → unbound_vars names (vs ++ ws) ≡ []
bound_both names [] ws h k = k
bound_both names (v ∷ vs) ws h k =
    let p = both_none (unless (has_name names v.name) v.at) (unbound_vars names vs) h in none_both (unless (has_name names v.name) v.at) (unbound_vars names (vs ++ ws)) p.0 (bound_both names vs ws p.1 k)

-- where a variable's name is among names and others are bound, it is bound with them
pub bound_more : (names : List (List ℕ)) (v : VarText) (vs : List VarText) → has_name names v.name ≡ true → unbound_vars names vs ≡ [] → unbound_vars names (v ∷ vs) ≡ []
bound_more names v vs h k = none_both (unless (has_name names v.name) v.at) (unbound_vars names vs) (ap (λ b. unless b v.at) h) k

-- where a variable and others are bound, its name is among the names, and the others are bound
pub bound_one : (names : List (List ℕ)) (v : VarText) (vs : List VarText) → unbound_vars names (v ∷ vs) ≡ [] → (has_name names v.name ≡ true) × (unbound_vars names vs ≡ [])
bound_one names v vs h = let p = both_none (unless (has_name names v.name) v.at) (unbound_vars names vs) h in (unless_none (has_name names v.name) v.at p.0, p.1)

-- a key whose variable is bound is known
key_known : (names : List (List ℕ)) (n : ℕ) (k : Key) → has_name names (key_var_text (key_at n k)).name ≡ true → KnownKey names k
key_known names n (node v) h = h
key_known names n (label g v) h = h

-- a key's variable is bound
key_bound : (names : List (List ℕ)) (n : ℕ) (k : Key) → KnownKey names k → has_name names (key_var_text (key_at n k)).name ≡ true
key_bound names n (node v) h = h
key_bound names n (label g v) h = h

-- the variables of keys with one more are theirs and that one's
keys_vars_push : (ks : List KeyText) (k : KeyText) → keys_vars (ks ++ k ∷ []) ≡ keys_vars ks ++ key_var_text k ∷ []
keys_vars_push [] k = refl
keys_vars_push (j ∷ ks) k = ap (λ (r : List VarText). key_var_text j ∷ r) (keys_vars_push ks k)

-- keys whose variables are bound are known
keys_known : (names : List (List ℕ)) (n : ℕ) (ks : Keys) → unbound_vars names (keys_vars (keys_at n ks)) ≡ [] → KnownKeys names ks
keys_known names n none h = tt
keys_known names n (first g k) h = key_known names (n + length g) k (bound_one names _ [] h).0
keys_known names n (more ks g b k) h =
    let at = n + length (written.keys_text ks) + length g + 1 + length b in
    let p = unbound_append names (keys_vars (keys_at n ks)) (key_var_text (key_at at k) ∷ []) (sym (ap (unbound_vars names) (keys_vars_push (keys_at n ks) (key_at at k))) ∙ h) in
    (keys_known names n ks p.0, key_known names at k (bound_one names _ [] p.1).0)

-- the variables of keys are bound
keys_bound : (names : List (List ℕ)) (n : ℕ) (ks : Keys) → KnownKeys names ks → unbound_vars names (keys_vars (keys_at n ks)) ≡ []
keys_bound names n none h = refl
keys_bound names n (first g k) h = bound_more names _ [] (key_bound names (n + length g) k h) refl
keys_bound names n (more ks g b k) h =
    let at = n + length (written.keys_text ks) + length g + 1 + length b in
    ap (unbound_vars names) (keys_vars_push (keys_at n ks) (key_at at k))
    ∙ bound_both names (keys_vars (keys_at n ks)) (key_var_text (key_at at k) ∷ []) (keys_bound names n ks h.0) (bound_more names _ [] (key_bound names at k h.1) refl)

-- a group label whose variables are bound is known
pub group_known : (names : List (List ℕ)) (n : ℕ) (e : Group) → unbound_vars names (group_vars (group_at n e)) ≡ [] → KnownGroup names e
group_known names n absent h = tt
group_known names n (braced g ks b) h = keys_known names (n + length g + 1) ks h

-- the variables of a group label are bound
pub group_bound : (names : List (List ℕ)) (n : ℕ) (e : Group) → KnownGroup names e → unbound_vars names (group_vars (group_at n e)) ≡ []
group_bound names n absent h = refl
group_bound names n (braced g ks b) h = keys_bound names (n + length g + 1) ks h

-- the variables of items with one more are theirs and that one's
vars_push : (is : List ItemText) (i : ItemText) → contents_vars (contents_of (is ++ i ∷ [])) ≡ contents_vars (contents_of is) ++ contents_vars (contents_of (i ∷ []))
vars_push [] i = refl
vars_push (item.Element e ∷ is) i =
    ap (λ (r : List VarText). (contents_vars e.contents ++ group_vars e.group) ++ r) (vars_push is i)
    ∙ sym (append_assoc (contents_vars e.contents ++ group_vars e.group) (contents_vars (contents_of is)) (contents_vars (contents_of (i ∷ []))))
vars_push (item.Node s ∷ is) i =
    ap (λ (r : List VarText). (s.var ∷ group_vars s.group) ++ r) (vars_push is i) ∙ sym (append_assoc (s.var ∷ group_vars s.group) (contents_vars (contents_of is)) (contents_vars (contents_of (i ∷ []))))
vars_push (item.LabelOf s ∷ is) i =
    ap (λ (r : List VarText). (s.var ∷ group_vars s.group) ++ r) (vars_push is i) ∙ sym (append_assoc (s.var ∷ group_vars s.group) (contents_vars (contents_of is)) (contents_vars (contents_of (i ∷ []))))
vars_push (item.Text l ∷ is) i = vars_push is i

-- where the variables of two parts are bound, those of both together are
parts_bound : (names : List (List ℕ)) (is : List ItemText) (i : ItemText) → unbound_vars names (contents_vars (contents_of (is ++ i ∷ []))) ≡ []
    → (unbound_vars names (contents_vars (contents_of is)) ≡ []) × (unbound_vars names (contents_vars (contents_of (i ∷ []))) ≡ [])
parts_bound names is i h = unbound_append names (contents_vars (contents_of is)) (contents_vars (contents_of (i ∷ []))) (sym (ap (unbound_vars names) (vars_push is i)) ∙ h)

-- where the variables of items and of one more are bound, those of all of them are
push_bound : (names : List (List ℕ)) (is : List ItemText) (i : ItemText) → unbound_vars names (contents_vars (contents_of is)) ≡ [] → unbound_vars names (contents_vars (contents_of (i ∷ []))) ≡ []
    → unbound_vars names (contents_vars (contents_of (is ++ i ∷ []))) ≡ []
push_bound names is i h k = ap (unbound_vars names) (vars_push is i) ∙ bound_both names (contents_vars (contents_of is)) (contents_vars (contents_of (i ∷ []))) h k

-- the key and the group label of an item whose variables are bound are known
shown_known : (names : List (List ℕ)) (n m : ℕ) (k : Key) (e : Group) → unbound_vars names (contents_vars (contents_of (shown_at n k (group_at m e) ∷ []))) ≡ [] → KnownKey names k × KnownGroup names e
shown_known names n m (node v) e h =
    let p = unbound_append names (record { at = n; name = v } ∷ group_vars (group_at m e)) [] h in
    let q = bound_one names (record { at = n; name = v }) (group_vars (group_at m e)) p.0 in (q.0, group_known names m e q.1)
shown_known names n m (label g v) e h =
    let at = n + 5 + length g in
    let p = unbound_append names (record { at = at; name = v } ∷ group_vars (group_at m e)) [] h in
    let q = bound_one names (record { at = at; name = v }) (group_vars (group_at m e)) p.0 in (q.0, group_known names m e q.1)

-- the variables of an item are bound
shown_bound : (names : List (List ℕ)) (n m : ℕ) (k : Key) (e : Group) → KnownKey names k → KnownGroup names e → unbound_vars names (contents_vars (contents_of (shown_at n k (group_at m e) ∷ []))) ≡ []
shown_bound names n m (node v) e h w =
    bound_both names (record { at = n; name = v } ∷ group_vars (group_at m e)) [] (bound_more names (record { at = n; name = v }) (group_vars (group_at m e)) h (group_bound names m e w)) refl
shown_bound names n m (label g v) e h w =
    let at = n + 5 + length g in
    bound_both names (record { at = at; name = v } ∷ group_vars (group_at m e)) [] (bound_more names (record { at = at; name = v }) (group_vars (group_at m e)) h (group_bound names m e w)) refl

-- items whose variables are bound are known
pub items_known : (names : List (List ℕ)) (n : ℕ) (xs : Items) → unbound_vars names (contents_vars (contents_of (items_at n xs))) ≡ [] → KnownItems names xs
items_known names n nothing h = tt
items_known names n (variable before g k e) h =
    let p = parts_bound names (items_at n before) _ h in
    let q = shown_known names _ _ k e p.1 in (items_known names n before p.0, q.0, q.1)
items_known names n (literal before g ps) h = items_known names n before (parts_bound names (items_at n before) _ h).0
items_known names n (element before g name inside b close e) h =
    let at = n + length (written.items_text before) + length g + 1 + length name + 1 in
    let end = n + length (written.items_text (element before g name inside b close absent)) in
    let p = parts_bound names (items_at n before) _ h in
    let q = unbound_append names (contents_vars (contents_of (items_at at inside)) ++ group_vars (group_at end e)) [] p.1 in
    let r = unbound_append names (contents_vars (contents_of (items_at at inside))) (group_vars (group_at end e)) q.0 in
    (items_known names n before p.0, items_known names at inside r.0, group_known names end e r.1)

-- the variables of items are bound
pub items_bound : (names : List (List ℕ)) (n : ℕ) (xs : Items) → KnownItems names xs → unbound_vars names (contents_vars (contents_of (items_at n xs))) ≡ []
items_bound names n nothing h = refl
items_bound names n (variable before g k e) h = push_bound names (items_at n before) _ (items_bound names n before h.0) (shown_bound names _ _ k e h.1 h.2)
items_bound names n (literal before g ps) h = push_bound names (items_at n before) _ (items_bound names n before h) refl
items_bound names n (element before g name inside b close e) h =
    let at = n + length (written.items_text before) + length g + 1 + length name + 1 in
    let end = n + length (written.items_text (element before g name inside b close absent)) in
    push_bound names (items_at n before) _ (items_bound names n before h.0)
    (bound_both names (contents_vars (contents_of (items_at at inside)) ++ group_vars (group_at end e)) []
    (bound_both names (contents_vars (contents_of (items_at at inside))) (group_vars (group_at end e)) (items_bound names at inside h.1) (group_bound names end e h.2)) refl)

-- a known key remains known in its canonical form
clean_key_known : (names : List (List ℕ)) (k : Key) → KnownKey names k → KnownKey names (clean_key k)
clean_key_known names (node v) h = h
clean_key_known names (label g v) h = h

-- known keys remain known in their canonical form
clean_keys_known : (names : List (List ℕ)) (ks : Keys) → KnownKeys names ks → KnownKeys names (clean_keys ks)
clean_keys_known names none h = tt
clean_keys_known names (first g k) h = clean_key_known names k h
clean_keys_known names (more ks g b k) h = (clean_keys_known names ks h.0, clean_key_known names k h.1)

-- a known group label remains known in its canonical form, where the keys without one are known
pub clean_group_known : (names : List (List ℕ)) (w : Keys) (e : Group) → KnownKeys names w → KnownGroup names e → KnownGroup names (clean_group w e)
clean_group_known names w absent k h = k
clean_group_known names w (braced g ks b) k h = clean_keys_known names ks h

-- known items remain known in their canonical form
pub clean_known : (names : List (List ℕ)) (xs : Items) → KnownItems names xs → KnownItems names (clean_items xs)
clean_known names nothing h = tt
clean_known names (variable before g k e) h =
    (clean_known names before h.0, clean_key_known names k h.1, clean_group_known names (first [] (clean_key k)) e (clean_key_known names k h.1) h.2)
clean_known names (literal before g ps) h = clean_known names before h
clean_known names (element before g name inside b close e) h = (clean_known names before h.0, clean_known names inside h.1, clean_group_known names none e tt h.2)
