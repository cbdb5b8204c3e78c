-- Lists of trees with holes: what they close to, what they weigh, and when they make progress.
use Rattle.std.specs.Prelude.{◌≡◌, ℕ, ◌+◌, List, Bool, true, false}
use Rattle.mix_tree.specs.Forest.{Forest, none, tree, followed}
use Rattle.lxp_core.specs.declared.open_tree.HoleId.{HoleId}

-- a list of trees with holes: none, or a first node (its label and the list below it) or a first hole, and the list after it
pub data Open : Type 0 where
  nil : Open
  node : (label : List ℕ) → (kids : Open) → (rest : Open) → Open
  hole : (id : HoleId) → (rest : Open) → Open

-- the list of trees in which each hole is replaced by the trees that it stands for
abbrev pub closed : (HoleId → Forest) → Open → Forest
closed forest nil = none
closed forest (node label kids rest) = tree label (closed forest kids) (closed forest rest)
closed forest (hole id rest) = followed (forest id) (closed forest rest)

-- the number of nodes plus the weights of the holes
abbrev pub weight_of : (HoleId → ℕ) → Open → ℕ
weight_of weight nil = 0
weight_of weight (node label kids rest) = 1 + weight_of weight kids + weight_of weight rest
weight_of weight (hole id rest) = weight id + weight_of weight rest

-- each hole of a list of trees with holes, at any depth, passes a test
abbrev pub AllHoles : (HoleId → Bool) → Open → Type 0
AllHoles test nil = Unit {0}
AllHoles test (node label kids rest) = AllHoles test kids × AllHoles test rest
AllHoles test (hole id rest) = (test id ≡ true) × AllHoles test rest

-- a list of trees with holes is empty
abbrev pub is_nil : Open → Bool
is_nil nil = true
is_nil (node label kids rest) = false
is_nil (hole id rest) = false

-- a list of trees with holes begins with a hole
abbrev pub begins_with_hole : Open → Bool
begins_with_hole nil = false
begins_with_hole (node label kids rest) = false
begins_with_hole (hole id rest) = true

-- a list of trees with holes has a node at its top level
abbrev pub has_node : Open → Bool
has_node nil = false
has_node (node label kids rest) = true
has_node (hole id rest) = has_node rest

-- in a list of trees with holes no two holes are adjacent, at any depth
abbrev pub IsApart : Open → Type 0
IsApart nil = Unit {0}
IsApart (node label kids rest) = IsApart kids × IsApart rest
IsApart (hole id rest) = (begins_with_hole rest ≡ false) × IsApart rest

-- a list of trees with holes keeps progress: it is empty or has a node at its top level, and no two holes are adjacent at any depth
pub record IsProgress (o : Open) : Type 0 where
  pub top : is_nil o ≡ false → has_node o ≡ true
  pub apart : IsApart o

-- the concatenation of two lists of trees with holes
abbrev pub open_followed : Open → Open → Open
open_followed nil g = g
open_followed (node label kids rest) g = node label kids (open_followed rest g)
open_followed (hole id rest) g = hole id (open_followed rest g)

-- a list of trees, taken as a list of trees with holes that has no hole
abbrev pub without_holes : Forest → Open
without_holes none = nil
without_holes (tree label kids rest) = node label (without_holes kids) (without_holes rest)
