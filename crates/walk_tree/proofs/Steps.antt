-- One step of a walk after another.
use Rattle.std.proofs.Common.{◌≡◌, ℕ, ◌+◌, ◌≤◌, true, List, ◌∷◌, ◌++◌, Option, Some, None, refl, ap, sym, ◌∙◌, arith}
use Rattle.std.specs.Prelude.{IfSome}
use Rattle.mix_tree.specs.Forest.{Forest, none, tree, first_label, first_kids, after_first, labels_of}
use Rattle.mix_tree.specs.Place.{trees_at}
use Rattle.lxp_core.specs.View.{View}
use Rattle.tree_buffer.specs.declared.buffer.Buffer.{Buffer}
use Rattle.tree_buffer.specs.declared.spot.Spot.{Spot}
use Rattle.tree_buffer.specs.Document.{document_node}
use Rattle.tree_buffer.specs.Buffer.{number_of, IsSpot, place_of, label_of, below, after, trees_from, IsSourcesOf, Goes}
use Rattle.walk_tree.specs.Walk.{first_labels, labels_from, left}

-- where an answer counts with all that is below and after it at most a number, so does what is left from the answer on
pub left_le : (v : View) (b : Buffer) (r : Option Spot) (n : ℕ) → IfSome r (λ x. 1 + below v b x + after v b x ≤ n) → left v b r ≤ n
left_le v b None n h = omega arith
left_le v b (Some x) n h = h

-- what follows from a property of spots holds of an answer whose spot has it
pub if_some_weaker : (r : Option Spot) (P Q : Spot → Type 0) → ((x : Spot) → P x → Q x) → IfSome r P → IfSome r Q
if_some_weaker None P Q f h = tt
if_some_weaker (Some x) P Q f h = f x h

-- the labels of trees are those of the first one and of those after it
labels_split : (f : Forest) (l : List ℕ) → first_label f ≡ Some l → labels_of f ≡ first_labels f ++ labels_of (after_first f)
labels_split none l e = cc
labels_split (tree label kids rest) l e = refl

-- the labels of the first tree are its own and those of its children
first_split : (f : Forest) (l : List ℕ) → first_label f ≡ Some l → first_labels f ≡ l ∷ labels_of (first_kids f)
first_split none l e = cc
first_split (tree label kids rest) l e = let same : label ≡ l = cc in ap (λ m. m ∷ labels_of kids) same

-- the labels of a subtree are the node's and those from the answer of `down` on
pub labels_down : (v v' : View) (b b' : Buffer) (x : Spot) → IsSourcesOf v b → Goes v b v' b' → IsSpot b x → v.told (number_of b) ≡ true → (r : Option Spot)
    → trees_from (document_node v (number_of b)) b' r ≡ first_kids (trees_at (document_node v (number_of b)) (place_of b x))
    → first_labels (trees_at (document_node v (number_of b)) (place_of b x)) ≡ label_of b x ∷ labels_from v' b' r
labels_down v v' b b' x s goes spot told r trees =
    first_split (trees_at (document_node v (number_of b)) (place_of b x)) (label_of b x) (s.label told x spot)
    ∙ ap (λ t. label_of b x ∷ labels_of t) (sym trees)
    ∙ ap (λ g. label_of b x ∷ labels_of (trees_from g b' r)) (sym goes.document)

-- the labels from a node on are those of its subtree and those from the answer of `right` on
pub labels_right : (v w u : View) (b c d : Buffer) (x : Spot) → IsSourcesOf v b → Goes v b w c → Goes w c u d → IsSpot b x → v.told (number_of b) ≡ true → (r : Option Spot)
    → trees_from (document_node w (number_of c)) d r ≡ after_first (trees_at (document_node w (number_of c)) (place_of c x))
    → labels_from v b (Some x) ≡ first_labels (trees_at (document_node v (number_of b)) (place_of b x)) ++ labels_from u d r
labels_right v w u b c d x s goes goes' spot told r trees =
    let f = document_node v (number_of b) in
    let own = trees_at f (place_of b x) in
    let later : after_first (trees_at (document_node w (number_of c)) (place_of c x)) ≡ after_first (trees_at (document_node v (number_of b)) (place_of b x)) =
    ap (λ g. after_first (trees_at g (place_of c x))) goes.document ∙ ap (λ p. after_first (trees_at f p)) (goes.place x spot) in
    labels_split own (label_of b x) (s.label told x spot)
    ∙ ap (λ t. first_labels own ++ labels_of t) (sym later ∙ sym trees)
    ∙ ap (λ g. first_labels own ++ labels_of (trees_from g d r)) (sym goes'.document)
