-- Items as they are made, one after another.
use Rattle.std.proofs.Common.{◌≡◌, ◌∙◌, ◌+◌, ◌<◌, ◌≤◌, ℕ, List, [], ◌∷◌, ◌++◌, refl, ap, sym, drop, length, get_or}
use Rattle.std.proofs.lemmas.List.{drop_more, drop_all}
use Rattle.xmas_text.specs.Elements.{item_before, contents_of}
use Rattle.xmas_text.specs.declared.element.ItemText.{ItemText}
use Rattle.xmas_text.specs.declared.element.ItemText.TheVariants as item
use Rattle.xmas_rule.specs.Items.{Items, done}
use Rattle.xmas_rule.specs.Made.{item_before as made_before, items_of}
use Rattle.xmas_rule.specs.declared.template.Item.{Item}
use Rattle.xmas_read.specs.Value.{items_value}
use Rattle.xmas_read.specs.ItemValue.{value_before}

-- made items, each put before the rest
abbrev pub all_before : List Item → Items → Items
all_before [] rest = rest
all_before (i ∷ is) rest = made_before i (all_before is rest)

-- made items put before nothing are the items of their list
pub all_alone : (is : List Item) → all_before is done ≡ items_of is
all_alone [] = refl
all_alone (i ∷ is) = ap (made_before i) (all_alone is)

-- made items with one more, put before the rest, are those put before that one and the rest
pub all_more : (is : List Item) (i : Item) (rest : Items) → all_before (is ++ i ∷ []) rest ≡ all_before is (made_before i rest)
all_more [] i rest = refl
all_more (j ∷ is) i rest = ap (made_before j) (all_more is i rest)

-- the value of an item and those after it is the value of that item before those
pub value_first : (names : List (List ℕ)) (i : ItemText) (is : List ItemText) → items_value names (contents_of (i ∷ is)) ≡ value_before names i (items_value names (contents_of is))
value_first names (item.Element e) is = refl
value_first names (item.Node s) is = refl
value_first names (item.LabelOf s) is = refl
value_first names (item.Text l) is = refl

-- a list from an index on is the member there and those after it
shape : {X : Type 0} (xs : List X) (i : ℕ) (x : X) → i < length xs → x ≡ get_or xs i x → drop i xs ≡ x ∷ drop (i + 1) xs
shape {X} xs i x l e = drop_more xs i x l ∙ ap (λ (y : X). y ∷ drop (i + 1) xs) (sym e)

-- with one item more made, the made items and the value of the rest are still the value of all
pub made_more :
    (names : List (List ℕ)) (texts : List ItemText) (i : ℕ) (t : ItemText) (is : List Item) (made : Item) → i < length texts → t ≡ get_or texts i t
    → ((rest : Items) → made_before made rest ≡ value_before names t rest)
    → all_before is (items_value names (contents_of (drop i texts))) ≡ items_value names (contents_of texts)
    → all_before (is ++ made ∷ []) (items_value names (contents_of (drop (i + 1) texts))) ≡ items_value names (contents_of texts)
made_more names texts i t is made l e m h =
    let rest = items_value names (contents_of (drop (i + 1) texts)) in
    all_more is made rest ∙ ap (all_before is) (m rest ∙ sym (value_first names t (drop (i + 1) texts)))
    ∙ ap (λ ts. all_before is (items_value names (contents_of ts))) (sym (shape texts i t l e))
    ∙ h

-- where all items are made, the made items are the value of all
pub made_all :
    (names : List (List ℕ)) (texts : List ItemText) (i : ℕ) (is : List Item) → length texts ≤ i
    → all_before is (items_value names (contents_of (drop i texts))) ≡ items_value names (contents_of texts) → items_of is ≡ items_value names (contents_of texts)
made_all names texts i is l h = sym (all_alone is) ∙ ap (λ ts. all_before is (items_value names (contents_of ts))) (sym (drop_all i texts l)) ∙ h
