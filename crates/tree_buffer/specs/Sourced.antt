-- What a buffer's nodes are under a view, and how they go on.
use Rattle.std.specs.Prelude.{◌≡◌, ℕ, ◌<◌, ◌≤◌, true, [], Some, length}
use Rattle.std.proofs.Common.{get_or}
use Rattle.mix_tree.specs.Forest.{first_kids, first_label, from}
use Rattle.mix_tree.specs.Place.{trees_at}
use Rattle.lxp_core.specs.Open.{Open, nil, closed, weight_of, AllHoles, IsApart}
use Rattle.lxp_core.specs.View.{View}
use Rattle.tree_buffer.specs.Document.{document_node}
use Rattle.tree_buffer.specs.Nodes.{Nodes, place}
use Rattle.tree_buffer.specs.Weights.{weight_from, below_node}

-- nodes are those of source n: it knows their holes, and where it tells its document, they stand for that document
pub record Sourced (v : View) (n : ℕ) (m : Nodes) : Type 0 where
  pub number : n < v.count
  pub root : v.knows n (v.root n) ≡ true
  pub rests : length m.rests ≡ length m.links
  pub labels : length m.labels ≡ length m.links
  pub known : (i : ℕ) → AllHoles (v.knows n) (get_or m.rests i nil)
  pub apart : (i : ℕ) → IsApart (get_or m.rests i nil)
  pub lighter : below_node (weight_of (v.weight n)) m 0 ≤ v.weight n (v.root n)
  pub closes : v.told n ≡ true → (i : ℕ) → i < length m.links
      → from (get_or m.counts i 0) (first_kids (trees_at (document_node v n) (place m.links i))) ≡ closed (v.forest n) (get_or m.rests i nil)
  pub stands : v.told n ≡ true → (i : ℕ) → i < length m.links
      → first_label (trees_at (document_node v n) (place m.links i)) ≡ Some (get_or m.labels i [])

-- between two states each node keeps its place and label, what lies below and after it weighs no more, and an empty list of children stays empty
pub record Moved (w : Open → ℕ) (m : Nodes) (w' : Open → ℕ) (m' : Nodes) : Type 0 where
  pub more : length m.links ≤ length m'.links
  pub links : (i : ℕ) → i < length m.links → get_or m'.links i (0, 0) ≡ get_or m.links i (0, 0)
  pub places : (i : ℕ) → i < length m.links → place m'.links i ≡ place m.links i
  pub labels : (i : ℕ) → i < length m.links → get_or m'.labels i [] ≡ get_or m.labels i []
  pub lighter : (i k : ℕ) → i < length m.links → weight_from w' m' i k ≤ weight_from w m i k
  pub whole : (i : ℕ) → i < length m.links → get_or m.rests i nil ≡ nil → get_or m'.rests i nil ≡ nil
