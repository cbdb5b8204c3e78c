-- What a buffer and its spots stand for: all that callers speak of.
use Rattle.std.specs.Prelude.{◌≡◌, ℕ, ◌+◌, ◌<◌, ◌≤◌, true, List, [], ◌∷◌, ◌++◌, Option, Some, None, length}
use Rattle.std.proofs.Common.{get_or}
use Rattle.mix_tree.specs.Forest.{Forest, none, first_label}
use Rattle.mix_tree.specs.Place.{trees_at, next_place}
use Rattle.lxp_core.specs.Open.{Open, nil, weight_of}
use Rattle.lxp_core.specs.View.{View}
use Rattle.tree_buffer.specs.declared.buffer.Buffer.{Buffer}
use Rattle.tree_buffer.specs.declared.spot.Spot.{Spot}
use Rattle.tree_buffer.specs.Document.{document_node}
use Rattle.tree_buffer.specs.Entries.{nodes}
use Rattle.tree_buffer.specs.Nodes.{Nodes, place}
use Rattle.tree_buffer.specs.Sourced.{Sourced}
use Rattle.tree_buffer.specs.Weights.{below_node, after_node}

-- the nodes that a buffer handed out
abbrev pub nodes_of : Buffer → Nodes
nodes_of b = nodes b.entries.items

-- the number of a buffer's source
abbrev pub number_of : Buffer → ℕ
number_of b = b.number

-- a buffer is one of the source of a given number
abbrev pub IsSourceOf : Buffer → ℕ → Type 0
IsSourceOf b n = n ≡ number_of b

-- a spot is one that the buffer handed out
abbrev pub IsSpot : Buffer → Spot → Type 0
IsSpot b x = x.number < length (nodes_of b).links

-- the place that a spot stands for, counted from the document node
abbrev pub place_of : Buffer → Spot → List ℕ
place_of b x = place (nodes_of b).links x.number

-- the label of the node that a spot stands for
abbrev pub label_of : Buffer → Spot → List ℕ
label_of b x = get_or (nodes_of b).labels x.number []

-- the list of those children of a spot that were not handed out, as far as it is known
abbrev pub rest_of : Buffer → Spot → Open
rest_of b x = get_or (nodes_of b).rests x.number nil

-- what a list weighs under the weights of the buffer's source
abbrev pub weigh : View → Buffer → Open → ℕ
weigh v b = weight_of (v.weight b.number)

-- the weight of what lies below a spot, handed out or not
abbrev pub below : View → Buffer → Spot → ℕ
below v b x = below_node (weigh v b) (nodes_of b) x.number

-- the weight of what lies at or below the later siblings of a spot
abbrev pub after : View → Buffer → Spot → ℕ
after v b x = after_node (weigh v b) (nodes_of b) x.number

-- the weight of a spot, of what lies below it, and of what lies at or below its later siblings
abbrev pub from_spot : View → Buffer → Spot → ℕ
from_spot v b x = 1 + below v b x + after v b x

-- where a buffer's source tells its document, the tree of the document node has a given property
abbrev pub IfTold : View → Buffer → (Forest → Type 0) → Type 0
IfTold v b P = v.told (number_of b) ≡ true → P (document_node v (number_of b))

-- the trees that an answered spot stands for: the tree at the spot and those of its later siblings; none without a spot
abbrev pub trees_from : Forest → Buffer → Option Spot → Forest
trees_from f b None = none
trees_from f b (Some x) = trees_at f (place_of b x)

-- spot c stands for the child of p at index k
pub record IsChildSpot (b : Buffer) (p : Spot) (k : ℕ) (c : Spot) : Type 0 where
  pub spot : IsSpot b c
  pub place : place_of b c ≡ place_of b p ++ k ∷ []

-- spot q stands for the next sibling of p, which is the next child of each spot whose child p is
pub record IsNextSpot (b : Buffer) (p q : Spot) : Type 0 where
  pub spot : IsSpot b q
  pub place : Some (place_of b q) ≡ next_place (place_of b p)
  pub child : (u : Spot) (k : ℕ) → IsChildSpot b u k p → IsChildSpot b u (k + 1) q

-- all children of a spot were handed out
abbrev pub HasAllChildren : Buffer → Spot → Type 0
HasAllChildren b x = rest_of b x ≡ nil

-- all siblings of a spot were handed out
abbrev pub HasAllSiblings : Buffer → Spot → Type 0
HasAllSiblings b x = (u : Spot) (k : ℕ) → IsSpot b u → IsChildSpot b u k x → HasAllChildren b u

-- of the spots that a buffer had before a call, only wanted ones have another list of children that are not handed out
abbrev pub ChangesOnly : (Spot → Type 0) → Buffer → Buffer → Type 0
ChangesOnly Wanted b b' = (x : Spot) → IsSpot b x → ¬ Wanted x → rest_of b' x ≡ rest_of b x

-- what a view means is the sources of a buffer: its source is there and knows its holes, and where the source is told,
-- what the buffer holds closes to the document
pub record IsSourcesOf (v : View) (b : Buffer) : Type 0 where
  pub sourced : Sourced v (number_of b) (nodes_of b)
  pub count : number_of b < v.count
  -- each spot has the document's label at its place
  pub label : v.told (number_of b) ≡ true → (x : Spot) → IsSpot b x → first_label (trees_at (document_node v (number_of b)) (place_of b x)) ≡ Some (label_of b x)
  -- what lies below a spot weighs at most the root hole
  pub light : (x : Spot) → IsSpot b x → below v b x ≤ v.weight (number_of b) (v.root (number_of b))
  -- a child with what lies below and after it weighs at most what lies below its parent
  pub lighter : (p : Spot) → IsSpot b p → (k : ℕ) (c : Spot) → IsChildSpot b p k c → 1 + below v b c + after v b c ≤ below v b p

-- a buffer goes on: each earlier spot is one still and stands for the same place and label, its two numbers didn't rise,
-- and what was handed out whole is whole; its source tells the same document
pub record Goes (v : View) (b : Buffer) (v' : View) (b' : Buffer) : Type 0 where
  pub number : number_of b' ≡ number_of b
  pub told : v'.told (number_of b') ≡ v.told (number_of b)
  pub forward : v'.forward (number_of b') ≡ v.forward (number_of b)
  pub document : document_node v' (number_of b') ≡ document_node v (number_of b)
  pub more : length (nodes_of b).links ≤ length (nodes_of b').links
  pub spot : (x : Spot) → IsSpot b x → IsSpot b' x
  pub place : (x : Spot) → IsSpot b x → place_of b' x ≡ place_of b x
  pub label : (x : Spot) → IsSpot b x → label_of b' x ≡ label_of b x
  pub below : (x : Spot) → IsSpot b x → below v' b' x ≤ below v b x
  pub after : (x : Spot) → IsSpot b x → after v' b' x ≤ after v b x
  pub children : (x : Spot) → IsSpot b x → HasAllChildren b x → HasAllChildren b' x
  pub siblings : (x : Spot) → IsSpot b x → HasAllSiblings b x → HasAllSiblings b' x

-- a buffer that calls of its sources don't take: what these mean is its sources still, and it goes on
pub record IsKept (v v' : View) (b : Buffer) : Type 0 where
  pub sources : IsSourcesOf v' b
  pub goes : Goes v b v' b

-- what each call that takes sources and a buffer of theirs leaves, whatever it answers, of that buffer and of others
pub record Ran {S : Type 0} (view : S → View) (came_from : S → S → Type 0) (s : S) (b : Buffer) (s' : S) (b' : Buffer) : Type 0 where
  pub came : came_from s s'
  pub sources : IsSourcesOf (view s') b'
  pub goes : Goes (view s) b (view s') b'
  pub others : (c : Buffer) → IsSourcesOf (view s) c → IsKept (view s) (view s') c
