-- A template in its canonical form: its value is the same, and its text is the canonical one.
use Rattle.std.proofs.Common.{◌≡◌, ◌∙◌, ◌+◌, ℕ, Bool, true, false, cond, List, [], ◌∷◌, ◌++◌, Option, Some, None, refl, ap, sym, subst, length, map, append_assoc, bytes_eq, codes}
use Rattle.std.proofs.lemmas.Slice.Eq.{bytes_eq-Decides}
use Rattle.mix_tree.specs.Spelling.{quoted}
use Rattle.mix_tree.specs.LabelGrammar.{Piece, meaning, inside_quotes}
use Rattle.mix_tree.specs.declared.var.Key.{Key as ValueKey}
use Rattle.mix_tree.specs.declared.var.Key.TheVariants.{Node as node_key, LabelOf as label_key}
use Rattle.path_expr.proofs.Again.{quoted_pieces, pieces_of}
use Rattle.xmas_text.specs.Groups.{GroupForm}
use Rattle.xmas_text.specs.Grammar.{Key, node, label, Keys, none, first, more, Group, absent, braced, Items, nothing, variable, literal, element, AreItems}
use Rattle.xmas_text.specs.Grammar as written
use Rattle.xmas_tokens.specs.Tokens.{quoted_text}
use Rattle.xmas_text.specs.Contents.{Contents}
use Rattle.xmas_text.specs.Elements.{contents_of}
use Rattle.xmas_text.specs.Parsed.{key_at, keys_at, group_at, items_at, shown_at, close_place}
use Rattle.xmas_text.specs.declared.var.KeyText.{KeyText}
use Rattle.xmas_text.specs.declared.element.ItemText.{ItemText}
use Rattle.xmas_text.specs.declared.element.ItemText.TheVariants as item
use Rattle.xmas_rule.specs.Items as items
use Rattle.xmas_read.specs.Value.{place_in, key_value, own_keys, items_value}
use Rattle.xmas_read.specs.Refusals.{unless, differing_tags}
use Rattle.xmas_read.specs.Canonical.{key_text, group_text, element_text, items_text}
use Rattle.xmas_read.proofs.CleanForm.{clean_key, clean_keys, clean_group, clean_items}
use Rattle.xmas_read.proofs.Templates.{both_none}
use Rattle.xmas_read.proofs.CleanText.{map_push, KnownKey, KnownGroup, KnownItems, key_written, group_written, then_items, value_push, text_push}

-- a key's value is the same in the canonical form
key_same : (names : List (List ℕ)) (n m : ℕ) (k : Key) → key_value names (key_at n (clean_key k)) ≡ key_value names (key_at m k)
key_same names n m (node v) = refl
key_same names n m (label g v) = refl

-- the values of keys are the same in the canonical form
keys_same : (names : List (List ℕ)) (n m : ℕ) (ks : Keys) → map (key_value names) (keys_at n (clean_keys ks)) ≡ map (key_value names) (keys_at m ks)
keys_same names n m none = refl
keys_same names n m (first g k) = ap (λ (r : ValueKey). r ∷ []) (key_same names (n + length {A = ℕ} []) (m + length g) k)
keys_same names n m (more ks g b k) =
    let at = n + length (written.keys_text (clean_keys ks)) + length {A = ℕ} [] + 1 + length {A = ℕ} [] in
    let from = m + length (written.keys_text ks) + length g + 1 + length b in
    map_push (key_value names) (keys_at n (clean_keys ks)) (key_at at (clean_key k))
    ∙ ap (λ (r : List ValueKey). r ++ key_value names (key_at at (clean_key k)) ∷ []) (keys_same names n m ks)
    ∙ ap (λ (r : ValueKey). map (key_value names) (keys_at m ks) ++ r ∷ []) (key_same names at from k)
    ∙ sym (map_push (key_value names) (keys_at m ks) (key_at from k))

-- the keys of a group label are the same in the canonical form
pub own_same :
    (names : List (List ℕ)) (n m : ℕ) (w : Keys) (without others : List ValueKey) (e : Group) → ((i : ℕ) → map (key_value names) (keys_at i w) ≡ without)
    → own_keys names others (group_at n (clean_group w e)) ≡ own_keys names without (group_at m e)
own_same names n m w without others absent h = h (n + 1 + 1)
own_same names n m w without others (braced g ks b) h = keys_same names (n + 1 + 1) (m + length g + 1) ks

-- the value of an item that shows a variable is the same in the canonical form
shown_same :
    (names : List (List ℕ)) (a b n m : ℕ) (k : Key) (e : Group)
    → items_value names (contents_of (shown_at a (clean_key k) (group_at n (clean_group (first [] (clean_key k)) e)) ∷ []))
    ≡ items_value names (contents_of (shown_at b k (group_at m e) ∷ []))
shown_same names a b n m (node v) e =
    let own : List ValueKey = node_key (place_in names v) ∷ [] in
    ap (λ (r : List ValueKey). items.variable items.whole (place_in names v) r items.done) (own_same names n m (first [] (node v)) own own e (λ i. refl))
shown_same names a b n m (label g v) e =
    let own : List ValueKey = label_key (place_in names v) ∷ [] in
    ap (λ (r : List ValueKey). items.variable items.label_alone (place_in names v) r items.done) (own_same names n m (first [] (label (32 ∷ []) v)) own own e (λ i. refl))

-- the value of items is the same in the canonical form
pub items_same : (names : List (List ℕ)) (n m : ℕ) (xs : Items) → items_value names (contents_of (items_at n (clean_items xs))) ≡ items_value names (contents_of (items_at m xs))
items_same names n m nothing = refl
items_same names n m (variable before g k e) =
    let here = n + length (written.items_text (clean_items before)) + 1 in
    let there = m + length (written.items_text before) + length g in
    let end = n + length (written.items_text (variable (clean_items before) (32 ∷ []) (clean_key k) absent)) in
    let last = m + length (written.items_text (variable before g k absent)) in
    let one = shown_at here (clean_key k) (group_at end (clean_group (first [] (clean_key k)) e)) in
    let other = shown_at there k (group_at last e) in
    value_push names (items_at n (clean_items before)) one
    ∙ ap (λ r. then_items r (items_value names (contents_of (one ∷ [])))) (items_same names n m before)
    ∙ ap (then_items (items_value names (contents_of (items_at m before)))) (shown_same names here there end last k e)
    ∙ sym (value_push names (items_at m before) other)
items_same names n m (literal before g ps) =
    value_push names (items_at n (clean_items before)) _
    ∙ ap (λ r. then_items r (items.literal (meaning (pieces_of (meaning ps))) items.done)) (items_same names n m before)
    ∙ ap (λ l. then_items (items_value names (contents_of (items_at m before))) (items.literal l items.done)) (quoted_pieces (meaning ps)).3
    ∙ sym (value_push names (items_at m before) _)
items_same names n m (element before g name inside b close e) =
    let here = n + length (written.items_text (clean_items before)) + 1 in
    let there = m + length (written.items_text before) + length g in
    let end = n + length (written.items_text (element (clean_items before) (32 ∷ []) name (clean_items inside) (32 ∷ []) name absent)) in
    let last = m + length (written.items_text (element before g name inside b close absent)) in
    value_push names (items_at n (clean_items before)) _
    ∙ ap (λ r. then_items r (items.element name (items_value names (contents_of (items_at (here + 1 + length name + 1) (clean_items inside)))) (own_keys names [] (group_at end (clean_group none e))) items.done)) (items_same names n m before)
    ∙ ap (λ r. then_items (items_value names (contents_of (items_at m before))) (items.element name r (own_keys names [] (group_at end (clean_group none e))) items.done))
    (items_same names (here + 1 + length name + 1) (there + 1 + length name + 1) inside)
    ∙ ap (λ (r : List ValueKey). then_items (items_value names (contents_of (items_at m before))) (items.element name (items_value names (contents_of (items_at (there + 1 + length name + 1) inside))) r items.done))
    (own_same names end last none [] [] e (λ i. refl))
    ∙ sym (value_push names (items_at m before) _)

-- where items with a blank after them are a blank and a text, so are those items with one more after a blank
turned : (before text item rest : List ℕ) → before ++ 32 ∷ [] ≡ 32 ∷ text → item ++ 32 ∷ [] ≡ rest → (before ++ (32 ∷ item)) ++ 32 ∷ [] ≡ 32 ∷ (text ++ rest)
turned before text item rest h k =
    regroup before item ∙ ap (λ r. r ++ (item ++ 32 ∷ [])) h ∙ ap (λ r. 32 ∷ (text ++ r)) k
  where
    regroup : (a b : List ℕ) → (a ++ (32 ∷ b)) ++ 32 ∷ [] ≡ (a ++ 32 ∷ []) ++ (b ++ 32 ∷ [])
    regroup a b = simp append_assoc

-- a literal in its canonical form is written as the canonical text of its label
literal_written : (ps : List Piece) → quoted_text (pieces_of (meaning ps)) ≡ quoted (meaning ps)
literal_written ps = sym (quoted_pieces (meaning ps)).2

-- the keys of a variable's item have the text of its group label, or of the one that is written out for it
own_written : (names : List (List ℕ)) (n m : ℕ) (k : Key) (e : Group) → KnownKey names k → written.IsGroup e → KnownGroup names e
    → (items_text names (items_value names (contents_of (shown_at n k (group_at m e) ∷ []))) ≡ (written.key_text (clean_key k) ++ written.group_text (clean_group (first [] (clean_key k)) e)) ++ 32 ∷ [])
own_written names n m (node v) e h a w =
    let k = node_key (place_in names v) in
    let own : List ValueKey = k ∷ [] in
    let shown : key_text names k ≡ 36 ∷ v = key_written names n (node v) h in
    let group = group_written names m (first [] (node v)) own e (nil_after (key_text names k) ∙ shown) a w in
    regroup (key_text names k) (group_text names (own_keys names own (group_at m e))) ∙ ap (λ r. (key_text names k ++ r) ++ 32 ∷ []) (sym group)
    ∙ ap (λ r. (r ++ written.group_text (clean_group (first [] (node v)) e)) ++ 32 ∷ []) shown
  where
    nil_after : (x : List ℕ) → x ++ [] ≡ x
    nil_after [] = refl
    nil_after (b ∷ x) = ap (λ r. b ∷ r) (nil_after x)

    regroup : (k g : List ℕ) → k ++ (32 ∷ (g ++ (32 ∷ []))) ≡ (k ++ (32 ∷ g)) ++ 32 ∷ []
    regroup k g = simp append_assoc
own_written names n m (label b v) e h a w =
    let k = label_key (place_in names v) in
    let own : List ValueKey = k ∷ [] in
    let shown : key_text names k ≡ written.key_text (clean_key (label b v)) = key_written names n (label b v) h in
    let group = group_written names m (first [] (label (32 ∷ []) v)) own e (nil_after (key_text names k) ∙ shown) a w in
    regroup (key_text names k) (group_text names (own_keys names own (group_at m e))) ∙ ap (λ r. (key_text names k ++ r) ++ 32 ∷ []) (sym group)
    ∙ ap (λ r. (r ++ written.group_text (clean_group (first [] (label (32 ∷ []) v)) e)) ++ 32 ∷ []) shown
  where
    nil_after : (x : List ℕ) → x ++ [] ≡ x
    nil_after [] = refl
    nil_after (b ∷ x) = ap (λ r. b ∷ r) (nil_after x)

    regroup : (k g : List ℕ) → k ++ (32 ∷ (g ++ (32 ∷ []))) ≡ (k ++ (32 ∷ g)) ++ 32 ∷ []
    regroup k g = simp append_assoc

-- the text of an element of the canonical form is that of the canonical text, from its opening tag to its group label
pub element_written :
    (names : List (List ℕ)) (name inside text group own : List ℕ) → inside ++ 32 ∷ [] ≡ 32 ∷ text → group ≡ 32 ∷ own
    → 60 ∷ (name ++ 62 ∷ (inside ++ (32 ∷ 60 ∷ 47 ∷ (name ++ 62 ∷ group)))) ≡ 60 ∷ (name ++ (codes "> " ++ (text ++ (codes "</" ++ (name ++ (codes "> " ++ own))))))
element_written names name inside text group own h k =
    ap (λ r. 60 ∷ (name ++ 62 ∷ r)) (sym (append_assoc inside (32 ∷ []) (60 ∷ 47 ∷ (name ++ 62 ∷ group))))
    ∙ ap (λ r. 60 ∷ (name ++ 62 ∷ (r ++ (60 ∷ 47 ∷ (name ++ 62 ∷ group))))) h
    ∙ ap (λ r. 60 ∷ (name ++ 62 ∷ 32 ∷ (text ++ (60 ∷ 47 ∷ (name ++ 62 ∷ r))))) k

-- the text of items in the canonical form with a blank after it is the canonical text of their value with a blank before it
pub items_written :
    (names : List (List ℕ)) (n : ℕ) (xs : Items) → AreItems xs → KnownItems names xs
    → written.items_text (clean_items xs) ++ 32 ∷ [] ≡ 32 ∷ items_text names (items_value names (contents_of (items_at n xs)))
items_written names n nothing a h = refl
items_written names n (variable before g k e) a h =
    let one = shown_at (n + length (written.items_text before) + length g) k (group_at (n + length (written.items_text (variable before g k absent))) e) in
    let value = items_value names (contents_of (items_at n before)) in
    turned (written.items_text (clean_items before)) (items_text names value) _ (items_text names (items_value names (contents_of (one ∷ [])))) (items_written names n before a.0 h.0)
    (sym (own_written names _ _ k e h.1 a.3 h.2))
    ∙ ap (λ r. 32 ∷ r) (sym (text_push names value (items_value names (contents_of (one ∷ [])))) ∙ ap (items_text names) (sym (value_push names (items_at n before) one)))
items_written names n (literal before g ps) a h =
    let one = item.Text (meaning ps) in
    let value = items_value names (contents_of (items_at n before)) in
    turned (written.items_text (clean_items before)) (items_text names value) _ (quoted (meaning ps) ++ 32 ∷ []) (items_written names n before a.0 h)
    (ap (λ r. r ++ 32 ∷ []) (literal_written ps))
    ∙ ap (λ r. 32 ∷ r) (sym (text_push names value (items.literal (meaning ps) items.done)) ∙ ap (items_text names) (sym (value_push names (items_at n before) one)))
items_written names n (element before g name inside b close e) a h =
    let here = n + length (written.items_text before) + length g in
    let end = n + length (written.items_text (element before g name inside b close absent)) in
    let one = item.Element (record { at = here; name = name; contents = contents_of (items_at (here + 1 + length name + 1) inside); close_at = close_place here name inside b; close_name = close; group = group_at end e }) in
    let value = items_value names (contents_of (items_at n before)) in
    let kids = items_value names (contents_of (items_at (here + 1 + length name + 1) inside)) in
    let own = own_keys names [] (group_at end e) in
    turned (written.items_text (clean_items before)) (items_text names value) _ (element_text names name (items_text names kids) own ++ 32 ∷ []) (items_written names n before a.0 h.0)
    (ap (λ r. r ++ 32 ∷ []) (element_written names name (written.items_text (clean_items inside)) (items_text names kids) (written.group_text (clean_group none e)) (group_text names own)
    (items_written names (here + 1 + length name + 1) inside a.3 h.1) (group_written names end none [] e refl a.6 h.2)))
    ∙ ap (λ r. 32 ∷ r) (sym (text_push names value (items.element name kids own items.done)) ∙ ap (items_text names) (sym (value_push names (items_at n before) one)))

-- two empty lists together are empty
pub none_both : {X : Type 0} (xs ys : List X) → xs ≡ [] → ys ≡ [] → xs ++ ys ≡ []
none_both [] ys h k = k
none_both (x ∷ xs) ys h k = cc

-- where in items and in one more no closing tag differs, none does in all of them
differing_push : (is : List ItemText) (i : ItemText) → differing_tags (contents_of is) ≡ [] → differing_tags (contents_of (i ∷ [])) ≡ [] → differing_tags (contents_of (is ++ i ∷ [])) ≡ []
differing_push [] i h k = k
differing_push (item.Element e ∷ is) i h k =
    let p = both_none (differing_tags e.contents ++ unless (bytes_eq e.name e.close_name) e.close_at) (differing_tags (contents_of is)) h in
    none_both (differing_tags e.contents ++ unless (bytes_eq e.name e.close_name) e.close_at) (differing_tags (contents_of (is ++ i ∷ []))) p.0 (differing_push is i p.1 k)
differing_push (item.Node s ∷ is) i h k = differing_push is i h k
differing_push (item.LabelOf s ∷ is) i h k = differing_push is i h k
differing_push (item.Text l ∷ is) i h k = differing_push is i h k

-- a name doesn't differ from itself
pub unless_same : (x : List ℕ) (at : ℕ) → unless (bytes_eq x x) at ≡ []
unless_same x at = ap (λ b. unless b at) ((bytes_eq-Decides x x).1 refl)

-- no tags differ in the canonical form
pub none_differs : (n : ℕ) (xs : Items) → differing_tags (contents_of (items_at n (clean_items xs))) ≡ []
none_differs n nothing = refl
none_differs n (variable before g (node v) e) = differing_push (items_at n (clean_items before)) _ (none_differs n before) refl
none_differs n (variable before g (label b v) e) = differing_push (items_at n (clean_items before)) _ (none_differs n before) refl
none_differs n (literal before g ps) = differing_push (items_at n (clean_items before)) _ (none_differs n before) refl
none_differs n (element before g name inside b close e) =
    let here = n + length (written.items_text (clean_items before)) + 1 in
    let kids = contents_of (items_at (here + 1 + length name + 1) (clean_items inside)) in
    let at = close_place here name (clean_items inside) (32 ∷ []) in
    differing_push (items_at n (clean_items before)) _ (none_differs n before)
    (none_both (differing_tags kids ++ unless (bytes_eq name name) at) [] (none_both (differing_tags kids) (unless (bytes_eq name name) at) (none_differs (here + 1 + length name + 1) inside) (unless_same name at)) refl)
