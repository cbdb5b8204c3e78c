-- What is refused of items depends on their value alone, but for the places: how many they are, and loose ones.
use Rattle.std.proofs.Common.{◌≡◌, ◌∙◌, ◌+◌, ℕ, Bool, true, false, cond, ◌||◌, ◌&&◌, not, nat_lt, List, [], ◌∷◌, ◌++◌, refl, ap, sym, map}
use Rattle.mix_tree.specs.declared.var.Key.{Key}
use Rattle.mix_tree.specs.Keys.{stands, collects, in_force}
use Rattle.xmas_text.specs.Contents.{Leaf, node, label_of, text, Contents, nothing, element, leaf}
use Rattle.xmas_rule.specs.Items as items
use Rattle.xmas_read.specs.Tree.{items_in}
use Rattle.xmas_read.specs.Value.{own_keys, items_value}
use Rattle.xmas_read.specs.Refusals.{unless, leaf_keys, loose_leaf, loose_items}

-- places as nothing but how many there are
abbrev pub counted : List ℕ → List ℕ
counted places = map (λ (n : ℕ). 0) places

-- the count of the places of two lists is that of the first and that of the second
pub counted_both : (xs ys : List ℕ) → counted (xs ++ ys) ≡ counted xs ++ counted ys
counted_both [] ys = refl
counted_both (x ∷ xs) ys = ap (λ (r : List ℕ). 0 ∷ r) (counted_both xs ys)

-- where the count of places is of none, there are none
pub none_counted : (xs : List ℕ) → counted xs ≡ [] → xs ≡ []
none_counted [] h = refl
none_counted (x ∷ xs) h = cc

-- a place that is listed where a test fails counts as any other place would
pub unless_counted : (b : Bool) (n : ℕ) → counted (unless b n) ≡ unless b 0
unless_counted true n = refl
unless_counted false n = refl

-- where two lists have as many places and the first has none, the second has none
pub none_of_both : (xs ys : List ℕ) → counted xs ≡ counted ys → xs ≡ [] → ys ≡ []
none_of_both xs ys e h = none_counted ys (sym e ∙ ap counted h)

-- how many items there are, at any depth
abbrev pub all_items : items.Items → ℕ
all_items items.done = 0
all_items (items.literal l rest) = 1 + all_items rest
all_items (items.variable s v own rest) = 1 + all_items rest
all_items (items.element l inside own rest) = 1 + all_items inside + all_items rest

-- a template has as many items as its value has
pub items_counted : (names : List (List ℕ)) (c : Contents) → items_in c ≡ all_items (items_value names c)
items_counted names nothing = refl
items_counted names (leaf (node s) after) = ap (λ n. 1 + n) (items_counted names after)
items_counted names (leaf (label_of s) after) = ap (λ n. 1 + n) (items_counted names after)
items_counted names (leaf (text l) after) = ap (λ n. 1 + n) (items_counted names after)
items_counted names (element tags inside after) =
    ap (λ n. 1 + n + items_in after) (items_counted names inside) ∙ ap (λ n. 1 + all_items (items_value names inside) + n) (items_counted names after)

-- the items of a value that show what isn't in force
abbrev pub loose_in : List Key → items.Items → List ℕ
loose_in force items.done = []
loose_in force (items.literal l rest) = loose_in force rest
loose_in force (items.variable s v own rest) = unless (stands (in_force force own) (items.shown_key s v)) 0 ++ loose_in force rest
loose_in force (items.element l inside own rest) = loose_in (in_force force own) inside ++ loose_in force rest

-- where places are counted alike, they are with one more before them that is listed where a test fails
leaf_counted : (b : Bool) (n : ℕ) (xs ys : List ℕ) → counted xs ≡ ys → counted (unless b n ++ xs) ≡ unless b 0 ++ ys
leaf_counted true n xs ys h = h
leaf_counted false n xs ys h = ap (λ (r : List ℕ). 0 ∷ r) h

-- a tree has as many loose items as its value has
pub loose_counted : (names : List (List ℕ)) (force : List Key) (c : Contents) → counted (loose_items names force c) ≡ loose_in force (items_value names c)
loose_counted names force nothing = refl
loose_counted names force (leaf (node s) after) = leaf_counted _ s.at _ _ (loose_counted names force after)
loose_counted names force (leaf (label_of s) after) = leaf_counted _ s.at _ _ (loose_counted names force after)
loose_counted names force (leaf (text l) after) = loose_counted names force after
loose_counted names force (element tags inside after) =
    let around = in_force force (own_keys names [] tags.group) in
    counted_both (loose_items names around inside) (loose_items names force after)
    ∙ ap (λ (r : List ℕ). r ++ counted (loose_items names force after)) (loose_counted names around inside)
    ∙ ap (λ (r : List ℕ). loose_in around (items_value names inside) ++ r) (loose_counted names force after)
