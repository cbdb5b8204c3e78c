-- What lies below a node and after it weighs, whether it was handed out or not.
use Rattle.std.specs.Prelude.{ℕ, ◌+◌, ◌==◌, ◌&&◌, nat_le, Bool, false, cond, List, [], ◌∷◌, if◌then◌else◌}
use Rattle.std.proofs.Common.{get_or}
use Rattle.lxp_core.specs.Open.{Open, nil}
use Rattle.tree_buffer.specs.Nodes.{Nodes, parent, index, place, places}

-- whether place r is at or below a child of place p whose index is at least k
abbrev pub in_from : List ℕ → ℕ → List ℕ → Bool
in_from [] k [] = false
in_from [] k (m ∷ r) = nat_le k m
in_from (x ∷ p) k [] = false
in_from (x ∷ p) k (y ∷ r) = (x == y) && in_from p k r

-- the weight of the nodes at or below the children of a place from an index on, each node counted with what its list weighs
abbrev pub held : (Open → ℕ) → List ℕ → ℕ → List (List ℕ) → List Open → ℕ
held w p k [] os = 0
held w p k (r ∷ rs) [] = 0
held w p k (r ∷ rs) (o ∷ os) = cond (in_from p k r) (1 + w o) 0 + held w p k rs os

-- what the children of node q from index k on weigh, handed out or not
abbrev pub weight_from : (Open → ℕ) → Nodes → ℕ → ℕ → ℕ
weight_from w m q k = held w (place m.links q) k (places m.links) m.rests + w (get_or m.rests q nil)

-- the weight of what lies below a node, handed out or not
abbrev pub below_node : (Open → ℕ) → Nodes → ℕ → ℕ
below_node w m i = weight_from w m i 0

-- the weight of what lies at or below the later siblings of a node; the document node has none
abbrev pub after_node : (Open → ℕ) → Nodes → ℕ → ℕ
after_node w m i = if i == 0 then 0 else weight_from w m (parent m.links i) (index m.links i + 1)
