-- Trees that are made one after another.
use Rattle.std.proofs.Common.{◌≡◌, ◌∙◌, ◌<◌, ◌≤◌, ◌+◌, ℕ, zero, suc, List, [], ◌∷◌, ◌++◌, length, drop, get_or, refl, sym, ap, arith}
use Rattle.mix_tree.specs.Forest.{Forest, none, tree, LabelledTree, forest_of, followed, joined}
use Rattle.mix_tree.specs.Nodes.{Documents}
use Rattle.mix_tree.specs.declared.var.Key.{Key}
use Rattle.mix_tree.specs.Keys.{in_force}
use Rattle.xmas_rule.specs.Bindings.{Binding}
use Rattle.xmas_rule.specs.Codes.{items_size}
use Rattle.xmas_rule.specs.Items.{Shown, Items, done, variable, element, whole, label_alone}
use Rattle.xmas_rule.specs.Made.{items_of, item_before}
use Rattle.xmas_rule.specs.Meaning.{instances, parts, shown_first}
use Rattle.xmas_rule.specs.declared.template.Item.{Item}
use Rattle.xmas_rule.specs.declared.template.Item.TheVariants as item
use Rattle.plain_rule.proofs.Tupling.{drop_next, drop_past}
use Rattle.mix_tree.proofs.Forests.{followed-none, followed_assoc}

-- the forest of trees with one more is their forest and then that tree
pub pushed : (ts more : List LabelledTree) (t u : LabelledTree) → more ≡ ts ++ t ∷ [] → t ≡ u → forest_of more ≡ followed (forest_of ts) (tree u.label u.kids none)
pushed ts more t u e f = ap forest_of (e ∙ ap (λ (z : LabelledTree). ts ++ z ∷ []) f) ∙ last ts
  where
    last : (ts : List LabelledTree) → forest_of (ts ++ u ∷ []) ≡ followed (forest_of ts) (tree u.label u.kids none)
    last [] = refl
    last (t ∷ ts) = ap (tree t.label t.kids) (last ts)

-- the trees made so far with those of one member more, and those of the rest, are all trees to be made
pub joined_next : {X : Type 0} (f : X → Forest) (xs : List X) (i : ℕ) (x : X) (some more : Forest) → i < length xs → x ≡ get_or xs i x → more ≡ followed some (f x)
    → followed more (joined f (drop (i + 1) xs)) ≡ followed some (joined f (drop i xs))
joined_next f xs i x some more h e m =
    ap (λ z. followed z (joined f (drop (i + 1) xs))) m ∙ followed_assoc some (f x) (joined f (drop (i + 1) xs)) ∙ ap (λ z. followed some (joined f z)) (sym (drop_next xs i x h e))

-- after the last member no trees are to be made
pub joined_end : {X : Type 0} (f : X → Forest) (xs : List X) (i : ℕ) (some : Forest) → length xs ≤ i → followed some (joined f (drop i xs)) ≡ some
joined_end f xs i some h = ap (λ z. followed some (joined f z)) (drop_past xs i h) ∙ followed-none some

-- the instances of an item and of those after it
instances_before : (docs : Documents) (force : List Key) (x : Item) (rest : Items) (bs : List Binding)
    → instances docs force (item_before x rest) bs ≡ followed (instances docs force (item_before x done) bs) (instances docs force rest bs)
instances_before docs force (item.Text label) rest bs = refl
instances_before docs force (item.Node v keys) rest bs =
    ap (λ z. followed z (instances docs force rest bs)) (sym (followed-none (joined (shown_first docs whole v) (parts docs force keys.items bs))))
instances_before docs force (item.LabelOf v keys) rest bs =
    ap (λ z. followed z (instances docs force rest bs)) (sym (followed-none (joined (shown_first docs label_alone v) (parts docs force keys.items bs))))
instances_before docs force (item.Element t) rest bs = ap (λ z. followed z (instances docs force rest bs)) (sym (followed-none _))

-- the instances made so far with those of one item more, and those of the rest, are all instances to be made
pub instances_next : (docs : Documents) (force : List Key) (items : List Item) (i : ℕ) (x : Item) (bs : List Binding) (some more : Forest) → i < length items → x ≡ get_or items i x
    → more ≡ followed some (instances docs force (item_before x done) bs)
    → followed more (instances docs force (items_of (drop (i + 1) items)) bs) ≡ followed some (instances docs force (items_of (drop i items)) bs)
instances_next docs force items i x bs some more h e m =
    let rest : Items = items_of (drop (i + 1) items) in
    ap (λ z. followed z (instances docs force rest bs)) m
    ∙ followed_assoc some (instances docs force (item_before x done) bs) (instances docs force rest bs)
    ∙ ap (followed some) (sym (instances_before docs force x rest bs))
    ∙ ap (λ z. followed some (instances docs force (items_of z) bs)) (sym (drop_next items i x h e))

-- after the last item no instances are to be made
pub instances_end : (docs : Documents) (force : List Key) (items : List Item) (i : ℕ) (bs : List Binding) (some : Forest) → length items ≤ i
    → followed some (instances docs force (items_of (drop i items)) bs) ≡ some
instances_end docs force items i bs some h = ap (λ z. followed some (instances docs force (items_of z) bs)) (drop_past items i h) ∙ followed-none some

-- an item has no more elements than all items
pub item_small : (items : List Item) (i : ℕ) (x : Item) → i < length items → x ≡ get_or items i x → items_size (item_before x done) ≤ items_size (items_of items)
item_small [] i x h e = absurd (omega arith)
item_small (y ∷ items) zero x h e = let k = before_size y (items_of items) in let n : items_size (item_before x done) ≡ items_size (item_before y done) = ap (λ z. items_size (item_before z done)) e in omega (arith, k, n)
  where
    before_size : (y : Item) (rest : Items) → items_size (item_before y done) ≤ items_size (item_before y rest)
    before_size (item.Text label) rest = omega arith
    before_size (item.Node v keys) rest = omega arith
    before_size (item.LabelOf v keys) rest = omega arith
    before_size (item.Element t) rest = omega arith
item_small (y ∷ items) (suc i) x h e = let k = item_small items i x (omega arith) e in let n = rest_size y (items_of items) in omega (arith, k, n)
  where
    rest_size : (y : Item) (rest : Items) → items_size rest ≤ items_size (item_before y rest)
    rest_size (item.Text label) rest = omega arith
    rest_size (item.Node v keys) rest = omega arith
    rest_size (item.LabelOf v keys) rest = omega arith
    rest_size (item.Element t) rest = omega arith

-- nothing is shown of no bindings
pub shown_of_none : (docs : Documents) (shown : Shown) (v : ℕ) (bs : List Binding) (some : Forest) → length bs ≡ 0 → followed some (shown_first docs shown v bs) ≡ some
shown_of_none docs shown v [] some e = followed-none some
shown_of_none docs shown v (b ∷ bs) some e = absurd (omega arith)

-- the instances of a variable's item, part by part
pub shown_item : (docs : Documents) (force own : List Key) (shown : Shown) (v : ℕ) (bs : List Binding) (found : List (List Binding)) (items : Items) (old new : Forest) → found ≡ parts docs force own bs
    → items ≡ variable shown v own done → new ≡ followed old (joined (shown_first docs shown v) found) → new ≡ followed old (instances docs force items bs)
shown_item docs force own shown v bs found items old new e f n =
    n
    ∙ ap (λ z. followed old (joined (shown_first docs shown v) z)) e
    ∙ ap (followed old) (sym (followed-none (joined (shown_first docs shown v) (parts docs force own bs))))
    ∙ ap (λ z. followed old (instances docs force z bs)) (sym f)

-- the instances of an element, part by part
pub element_item : (docs : Documents) (force own within : List Key) (label : List ℕ) (inside : Items) (bs : List Binding) (found : List (List Binding)) (items : Items) (old new : Forest) → found ≡ parts docs force own bs
    → within ≡ in_force force own → items ≡ element label inside own done → new ≡ followed old (joined (λ part. tree label (instances docs within inside part) none) found)
    → new ≡ followed old (instances docs force items bs)
element_item docs force own within label inside bs found items old new e g f n =
    n
    ∙ ap (λ z. followed old (joined (λ part. tree label (instances docs within inside part) none) z)) e
    ∙ ap (λ k. followed old (joined (λ part. tree label (instances docs k inside part) none) (parts docs force own bs))) g
    ∙ ap (followed old) (sym (followed-none (joined (λ part. tree label (instances docs (in_force force own) inside part) none) (parts docs force own bs))))
    ∙ ap (λ z. followed old (instances docs force z bs)) (sym f)
