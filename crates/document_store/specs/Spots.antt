-- How nodes are kept: the bytes of their labels one after another, and for each node where its label ends.
use Rattle.std.specs.Prelude.{◌≡◌, ℕ, ◌≤◌, List, [], ◌∷◌, ◌++◌, length, reverse, slice_range}
use Rattle.std.proofs.Common.{get_or}
use Rattle.std.specs.Str.{IsUtf8}
use Rattle.document_store.specs.declared.spots.Spot.{Spot}
use Rattle.document_store.specs.Laid.{LaidNode}

-- where the labels end, of nodes from the last to the first
abbrev pub end_of : List Spot → ℕ
end_of [] = 0
end_of (s ∷ r) = s.end

-- what is kept of the node at a position; zeros where there are not so many
abbrev pub spot_of : List Spot → ℕ → Spot
spot_of r i = get_or r i (record { end = 0; below = 0 })

-- where the label of the node at a position ends
abbrev pub end_at : List Spot → ℕ → ℕ
end_at r i = (spot_of r i).end

-- the nodes that are kept, from the last to the first
abbrev pub nodes_in : List ℕ → List Spot → List LaidNode
nodes_in bytes [] = []
nodes_in bytes (s ∷ r) = record { label = slice_range bytes (end_of r) s.end; below = s.below } ∷ nodes_in bytes r

-- the bytes of the labels of nodes, as they are kept
abbrev pub bytes_of : List LaidNode → List ℕ
bytes_of [] = []
bytes_of (n ∷ v) = bytes_of v ++ n.label

-- what is kept of each node
abbrev pub spots_of : List LaidNode → List Spot
spots_of [] = []
spots_of (n ∷ v) = record { end = length (bytes_of v ++ n.label); below = n.below } ∷ spots_of v

-- each label of the nodes is a text
abbrev pub AreTexts : List LaidNode → Type 0
AreTexts [] = Unit {0}
AreTexts (n ∷ v) = IsUtf8 n.label × AreTexts v

-- what is kept is that of nodes
pub record Keeps (bytes : List ℕ) (spots : List Spot) (v : List LaidNode) : Type 0 where
  pub bytes_are : bytes ≡ bytes_of v
  pub spots_are : reverse spots ≡ spots_of v
  pub texts : ∥ AreTexts v ∥₁
  pub few : length spots ≤ 4294967295
  pub short : length bytes ≤ 4294967295

-- what is kept is that of the nodes that it shows
abbrev pub IsKept : List ℕ → List Spot → Type 0
IsKept bytes spots = Keeps bytes spots (nodes_in bytes (reverse spots))
