-- The nodes at the parts of a position: those of all variables that are bound on the way to it, hidden ones too.
use Rattle.std.specs.Prelude.{ℕ, zero, suc, cond, ◌==◌, Option, Some, None, List}
use Rattle.mix_tree.specs.Nodes.{Node, document_node}
use Rattle.tree_buffer.specs.declared.spot.Spot.{Spot}
use Rattle.plan_core.specs.Plans.{Operator}
use Rattle.plan_core.specs.Shapes.{Shape, one_source, visits_below, pairs_up, shape_at, passes_on}
use Rattle.lazy_descend.specs.Cursors.{spot_of}
use Rattle.lazy_binding.specs.declared.position.Position.{Position, Top, Found', Pass', First', Pair', Sorted', Row_of-Position-Sorted-0-1 as Row, end_of-Position-Sorted-0-1 as no_more, more_of-Position-Sorted-0-1 as one_more}
use Rattle.lazy_binding.specs.Spots.{or_else}
use Rattle.lazy_binding.specs.World.{World, spot_node}

abbrev mutual
  -- the spot that a position in this shape has for a variable, with its source: also for a variable that the keys of a project or groupBy on the way drop
  pub spot_below : List Operator → Shape → Position → ℕ → Option (ℕ × Spot)
  spot_below ops (one_source s out) (Top t x) v = cond (out == v) (Some (t, x)) None
  spot_below ops (visits_below i start path out) (Found' s q c d) v = cond (out == v) (Some (s, spot_of d.frame)) (spot_below ops (shape_at ops i) c v)
  spot_below ops (pairs_up l r tests) (Pair' q x q' y k) v = or_else (spot_below ops (shape_at ops l) x v) (spot_below ops (shape_at ops r) y v)
  spot_below ops (passes_on i stage) (Pass' q c) v = spot_below ops (shape_at ops i) c v
  spot_below ops (passes_on i stage) (First' q c k) v = spot_below ops (shape_at ops i) c v
  spot_below ops (passes_on i stage) (Sorted' q m row k) v = spot_below_nth ops i row k v
  spot_below ops f c v = None

  -- the spot that the position at an index of a sorted list has for a variable, with its source
  pub spot_below_nth : List Operator → ℕ → {m : _} → Row m → ℕ → ℕ → Option (ℕ × Spot)
  spot_below_nth ops i no_more k v = None
  spot_below_nth ops i (one_more q c rest) zero v = spot_below ops (shape_at ops i) c v
  spot_below_nth ops i (one_more q c rest) (suc k) v = spot_below_nth ops i rest k v

-- the node at an optional spot, which has its source; without one the document node of source 0
abbrev pub node_there : World → Option (ℕ × Spot) → Node
node_there w None = document_node 0
node_there w (Some p) = spot_node w p.0 p.1

-- the nodes of variables at the parts of a position of operator n
abbrev pub nodes_at : World → List Operator → ℕ → Position → ℕ → Node
nodes_at w ops n c v = node_there w (spot_below ops (shape_at ops n) c v)
