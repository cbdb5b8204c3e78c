-- The nodes that a buffer handed out, in the order in which it did, as lists side by side.
use Rattle.std.specs.Prelude.{◌≡◌, ℕ, ◌+◌, ◌<◌, ◌≤◌, List, [], ◌∷◌, ◌++◌, length}
use Rattle.std.proofs.Common.{get_or}
use Rattle.lxp_core.specs.Open.{Open, nil}

-- the nodes that a buffer handed out, a list for each field; the first one is the document node
pub record Nodes : Type 0 where
  -- each node's parent, and its index among its parent's children
  pub links : List (ℕ × ℕ)
  -- how many of each node's children were handed out, and the first of them
  pub counts : List ℕ
  pub firsts : List ℕ
  -- each node's next sibling, where it was handed out
  pub nexts : List ℕ
  pub labels : List (List ℕ)
  -- the list of each node's other children
  pub rests : List Open

-- the place that a link leads to, where the earlier nodes stand at these places
abbrev pub place_after : List (List ℕ) → ℕ × ℕ → List ℕ
place_after [] link = []
place_after (p ∷ ps) link = get_or (p ∷ ps) link.0 [] ++ link.1 ∷ []

-- given places, followed by the places that further links lead to
abbrev pub grown : List (List ℕ) → List (ℕ × ℕ) → List (List ℕ)
grown ps [] = ps
grown ps (link ∷ links) = grown (ps ++ place_after ps link ∷ []) links

-- the place that each node stands for
abbrev pub places : List (ℕ × ℕ) → List (List ℕ)
places links = grown [] links

-- a node's parent
abbrev pub parent : List (ℕ × ℕ) → ℕ → ℕ
parent links i = (get_or links i (0, 0)).0

-- a node's index among its parent's children
abbrev pub index : List (ℕ × ℕ) → ℕ → ℕ
index links i = (get_or links i (0, 0)).1

-- a node's place
abbrev pub place : List (ℕ × ℕ) → ℕ → List ℕ
place links i = get_or (places links) i []

-- node c is the child of q at index k
pub record IsChild (links : List (ℕ × ℕ)) (q k c : ℕ) : Type 0 where
  pub known : c < length links
  pub after : 0 < c
  pub parent : parent links c ≡ q
  pub index : index links c ≡ k

-- node b is the last child of q that was handed out
pub record IsLast (m : Nodes) (q b : ℕ) : Type 0 where
  pub child : IsChild m.links q (index m.links b) b
  pub last : index m.links b + 1 ≡ get_or m.counts q 0

-- the parents, counts, first children and next siblings of nodes agree with one another, and no two nodes stand at the same place
pub record IsLinked (ls : List (ℕ × ℕ)) (cs fs ns : List ℕ) : Type 0 where
  pub some : 0 < length ls
  pub top : place ls 0 ≡ []
  pub counts : length cs ≡ length ls
  pub firsts : length fs ≡ length ls
  pub nexts : length ns ≡ length ls
  pub back : (i : ℕ) → 0 < i → i < length ls → parent ls i < i
  pub counted : (i : ℕ) → 0 < i → i < length ls → index ls i < get_or cs (parent ls i) 0
  pub few : (i : ℕ) → get_or cs i 0 ≤ length ls
  pub down : (i : ℕ) → i < length ls → 0 < get_or cs i 0 → IsChild ls i 0 (get_or fs i 0)
  pub right : (i : ℕ) → 0 < i → i < length ls → index ls i + 1 < get_or cs (parent ls i) 0 → IsChild ls (parent ls i) (index ls i + 1) (get_or ns i 0)
  pub stands : (i : ℕ) → 0 < i → i < length ls → place ls i ≡ place ls (parent ls i) ++ index ls i ∷ []
  pub distinct : (i j : ℕ) → i < length ls → j < length ls → place ls i ≡ place ls j → i ≡ j

-- each node but one keeps its list of children that are not handed out
abbrev pub KeepsLists : ℕ → Nodes → Nodes → Type 0
KeepsLists q m m' = (i : ℕ) → i < length m.links → ¬ (i ≡ q) → get_or m'.rests i nil ≡ get_or m.rests i nil
