-- The template in its canonical form has the same value, and is written as the canonical text of the value.
use Rattle.std.proofs.Common.{◌≡◌, ◌∙◌, ◌+◌, ◌<◌, ℕ, suc, zero, Bool, true, false, cond, ◌||◌, List, [], ◌∷◌, ◌++◌, Option, Some, None, refl, ap, sym, subst, length, map, get_or, arith, append_assoc, bytes_eq, codes}
use Rattle.std.proofs.lemmas.List.{length-append}
use Rattle.std.proofs.lemmas.Slice.Eq.{bytes_eq-Decides}
use Rattle.mix_tree.specs.Spelling.{quoted}
use Rattle.mix_tree.specs.LabelGrammar.{Piece, meaning, inside_quotes}
use Rattle.mix_tree.specs.declared.var.Key.{Key as ValueKey}
use Rattle.mix_tree.specs.declared.var.Key.TheVariants.{Node as node_key, LabelOf as label_key}
use Rattle.path_expr.proofs.Again.{quoted_pieces, pieces_of}
use Rattle.xmas_text.specs.Groups.{GroupForm}
use Rattle.xmas_text.specs.Grammar.{Key, node, label, Keys, none, first, more, Group, absent, braced, Items, nothing, variable, literal, element, HasKeys, AreKeys, IsGroup, AreItems}
use Rattle.xmas_text.specs.Grammar as written
use Rattle.xmas_text.specs.Contents.{Contents}
use Rattle.xmas_text.specs.Elements.{contents_of}
use Rattle.xmas_text.specs.Parsed.{key_at, keys_at, group_at, items_at, shown_at}
use Rattle.xmas_text.specs.declared.var.KeyText.{KeyText}
use Rattle.xmas_text.specs.declared.element.ItemText.{ItemText}
use Rattle.xmas_text.specs.declared.element.ItemText.TheVariants as item
use Rattle.xmas_rule.specs.Items as items
use Rattle.xmas_read.specs.Value.{place_in, key_value, own_keys, items_value}
use Rattle.xmas_read.specs.Refusals.{has_name}
use Rattle.xmas_read.specs.Canonical.{key_text, more_keys, keys_text, group_text, element_text, items_text}
use Rattle.xmas_read.proofs.CleanForm.{clean_key, clean_keys, clean_group, clean_items}

-- a name that is among names stands at its place
pub name_back : (names : List (List ℕ)) (n : List ℕ) → has_name names n ≡ true → get_or names (place_in names n) [] ≡ n
name_back [] n h = cc
name_back (m ∷ names) n h =
    elim (bytes_eq m n) as (λ w. bytes_eq m n ≡ w → (w || has_name names n) ≡ true → get_or (m ∷ names) (cond w 0 (suc (place_in names n))) [] ≡ n) [
      | true ↦ λ e k. (bytes_eq-Decides m n).0 e
      | false ↦ λ e k. name_back names n k
    ] refl h

-- a key's variable is among names
abbrev pub KnownKey : List (List ℕ) → Key → Type 0
KnownKey names (node v) = has_name names v ≡ true
KnownKey names (label g v) = has_name names v ≡ true

-- the variables of keys are among names
abbrev pub KnownKeys : List (List ℕ) → Keys → Type 0
KnownKeys names none = Unit {0}
KnownKeys names (first g k) = KnownKey names k
KnownKeys names (more ks g h k) = KnownKeys names ks × KnownKey names k

-- the variables in a group label are among names
abbrev pub KnownGroup : List (List ℕ) → Group → Type 0
KnownGroup names absent = Unit {0}
KnownGroup names (braced g ks h) = KnownKeys names ks

-- all variables of items are among names
abbrev pub KnownItems : List (List ℕ) → Items → Type 0
KnownItems names nothing = Unit {0}
KnownItems names (variable before g k e) = KnownItems names before × KnownKey names k × KnownGroup names e
KnownItems names (literal before g ps) = KnownItems names before
KnownItems names (element before g name inside h close e) = KnownItems names before × KnownItems names inside × KnownGroup names e

-- the images of a list with one member more are those of the list and that one's image
pub map_push : {X Y : Type 0} (f : X → Y) (xs : List X) (x : X) → map f (xs ++ x ∷ []) ≡ map f xs ++ f x ∷ []
map_push f [] x = refl
map_push f (y ∷ xs) x = ap (λ r. f y ∷ r) (map_push f xs x)

-- a key's value has the text of the key's canonical form
pub key_written : (names : List (List ℕ)) (n : ℕ) (k : Key) → KnownKey names k → key_text names (key_value names (key_at n k)) ≡ written.key_text (clean_key k)
key_written names n (node v) h = ap (λ r. 36 ∷ r) (name_back names v h)
key_written names n (label g v) h = ap (λ r. codes "label " ++ (36 ∷ r)) (name_back names v h)

-- the text of keys after a first one, with one more, is theirs and that one's after a comma
more_push : (names : List (List ℕ)) (ks : List ValueKey) (k : ValueKey) → more_keys names (ks ++ k ∷ []) ≡ more_keys names ks ++ (44 ∷ key_text names k)
more_push names [] k = ap (λ r. 44 ∷ r) (nil_after (key_text names k))
  where
    nil_after : (x : List ℕ) → x ++ [] ≡ x
    nil_after [] = refl
    nil_after (b ∷ x) = ap (λ r. b ∷ r) (nil_after x)
more_push names (j ∷ ks) k = ap (λ r. 44 ∷ (key_text names j ++ r)) (more_push names ks k) ∙ ap (λ r. 44 ∷ r) (sym (append_assoc (key_text names j) (more_keys names ks) (44 ∷ key_text names k)))

-- the text of keys of which there are some, with one more, is theirs and that one's after a comma
keys_push : (names : List (List ℕ)) (ks : List ValueKey) (k : ValueKey) → 0 < length ks → keys_text names (ks ++ k ∷ []) ≡ keys_text names ks ++ (44 ∷ key_text names k)
keys_push names [] k h = absurd (omega arith)
keys_push names (j ∷ ks) k h = ap (λ r. key_text names j ++ r) (more_push names ks k) ∙ sym (append_assoc (key_text names j) (more_keys names ks) (44 ∷ key_text names k))

-- some keys have some values
some_keys : (names : List (List ℕ)) (n : ℕ) (ks : Keys) → HasKeys ks → 0 < length (map (key_value names) (keys_at n ks))
some_keys names n none h = absurd h
some_keys names n (first g k) h = omega arith
some_keys names n (more ks g b k) h =
    let at = n + length (written.keys_text ks) + length g + 1 + length b in
    subst (λ (r : List ValueKey). 0 < length r) (sym (map_push (key_value names) (keys_at n ks) (key_at at k)))
    (omega (arith, length-append (map (key_value names) (keys_at n ks)) (key_value names (key_at at k) ∷ [])))

-- the values of keys have the text of the keys' canonical form
keys_written : (names : List (List ℕ)) (n : ℕ) (ks : Keys) → AreKeys ks → KnownKeys names ks → keys_text names (map (key_value names) (keys_at n ks)) ≡ written.keys_text (clean_keys ks)
keys_written names n none a h = refl
keys_written names n (first g k) a h = nil_after (key_text names (key_value names (key_at (n + length g) k))) ∙ key_written names (n + length g) k h
  where
    nil_after : (x : List ℕ) → x ++ [] ≡ x
    nil_after [] = refl
    nil_after (b ∷ x) = ap (λ r. b ∷ r) (nil_after x)
keys_written names n (more ks g b k) a h =
    let at = n + length (written.keys_text ks) + length g + 1 + length b in
    let before = map (key_value names) (keys_at n ks) in
    ap (keys_text names) (map_push (key_value names) (keys_at n ks) (key_at at k))
    ∙ keys_push names before (key_value names (key_at at k)) (some_keys names n ks a.0)
    ∙ ap (λ r. r ++ (44 ∷ key_text names (key_value names (key_at at k)))) (keys_written names n ks a.1 h.0)
    ∙ ap (λ r. written.keys_text (clean_keys ks) ++ (44 ∷ r)) (key_written names at k h.1)

-- a group label in its canonical form has, after a blank, the canonical text of the keys that it has or that stand for it
pub group_written :
    (names : List (List ℕ)) (n : ℕ) (w : Keys) (own : List ValueKey) (e : Group) → keys_text names own ≡ written.keys_text w → IsGroup e → KnownGroup names e
    → written.group_text (clean_group w e) ≡ 32 ∷ group_text names (own_keys names own (group_at n e))
group_written names n w own absent d a h = ap (λ r. 32 ∷ 123 ∷ (r ++ 125 ∷ [])) (sym d)
group_written names n w own (braced g ks b) d a h = ap (λ r. 32 ∷ 123 ∷ (r ++ 125 ∷ [])) (sym (keys_written names (n + length g + 1) ks a.1 h))

-- items with others after them
abbrev pub then_items : items.Items → items.Items → items.Items
then_items items.done after = after
then_items (items.literal l rest) after = items.literal l (then_items rest after)
then_items (items.variable s v own rest) after = items.variable s v own (then_items rest after)
then_items (items.element l inside own rest) after = items.element l inside own (then_items rest after)

-- the value of items with one more is theirs with that one's after it
pub value_push : (names : List (List ℕ)) (is : List ItemText) (i : ItemText) → items_value names (contents_of (is ++ i ∷ [])) ≡ then_items (items_value names (contents_of is)) (items_value names (contents_of (i ∷ [])))
value_push names [] i = refl
value_push names (item.Element e ∷ is) i = ap (λ r. items.element e.name (items_value names e.contents) (own_keys names [] e.group) r) (value_push names is i)
value_push names (item.Node s ∷ is) i = ap (λ r. items.variable items.whole (place_in names s.var.name) (own_keys names (node_key (place_in names s.var.name) ∷ []) s.group) r) (value_push names is i)
value_push names (item.LabelOf s ∷ is) i = ap (λ r. items.variable items.label_alone (place_in names s.var.name) (own_keys names (label_key (place_in names s.var.name) ∷ []) s.group) r) (value_push names is i)
value_push names (item.Text l ∷ is) i = ap (λ r. items.literal l r) (value_push names is i)

-- the text of items with others after them is theirs and the others'
pub text_push : (names : List (List ℕ)) (a b : items.Items) → items_text names (then_items a b) ≡ items_text names a ++ items_text names b
text_push names items.done b = refl
text_push names (items.literal l rest) b =
    ap (λ r. quoted l ++ (32 ∷ r)) (text_push names rest b) ∙ sym (append_assoc (quoted l) (32 ∷ items_text names rest) (items_text names b))
text_push names (items.variable s v own rest) b =
    let k = key_text names (items.shown_key s v) in
    let g = group_text names own in
    ap (λ r. k ++ (32 ∷ (g ++ (32 ∷ r)))) (text_push names rest b) ∙ regroup k g (items_text names rest) (items_text names b)
  where
    regroup : (k g x y : List ℕ) → k ++ (32 ∷ (g ++ (32 ∷ (x ++ y)))) ≡ (k ++ (32 ∷ (g ++ (32 ∷ x)))) ++ y
    regroup k g x y = simp append_assoc
text_push names (items.element l inside own rest) b =
    ap (λ r. element_text names l (items_text names inside) own ++ (32 ∷ r)) (text_push names rest b)
    ∙ sym (append_assoc (element_text names l (items_text names inside) own) (32 ∷ items_text names rest) (items_text names b))
