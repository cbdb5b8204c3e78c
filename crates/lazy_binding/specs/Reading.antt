-- What is read off a position: its parts, how many keys were seen up to it, and what is so of it in each world.
use Rattle.std.specs.Borrow.{Bor}
use Rattle.std.specs.Prelude.{◌≡◌, ℕ, zero, suc, IsTrue, Option, Some, None, List}
use Rattle.tree_buffer.specs.declared.spot.Spot.{Spot}
use Rattle.plan_core.specs.Plans.{Operator}
use Rattle.mix_tree.specs.Nodes.{Documents}
use Rattle.lxp_core.specs.View.{View}
use Rattle.plan_core.specs.TolledRows.{TolledRow, row_node}
use Rattle.lazy_binding.specs.declared.parts.Growing.{Growing}
use Rattle.lazy_binding.specs.declared.parts.Walk.{Walk}
use Rattle.lazy_binding.specs.World.{World, docs_of, is_told, spot_node, IsSpotIn}
use Rattle.lazy_binding.specs.Bench.{IsBench}
use Rattle.lazy_binding.specs.Cursors.{binding, IsRead, IsOf}
use Rattle.lazy_binding.specs.Parts.{operators, world_of}
use Rattle.lazy_descend.specs.Cursors.{spot_of}
use Rattle.lazy_binding.specs.declared.position.Position.{Position, Start, Top, Found', Pass', First', Seen', Pair', Sorted', Row_of-Position-Sorted-0-1 as Row, end_of-Position-Sorted-0-1 as no_more, more_of-Position-Sorted-0-1 as one_more}

-- the spot at which a position itself stands, with its source; none where it only stands on positions of inputs
abbrev pub held : Position → Option (ℕ × Spot)
held (Top t x) = Some (t, x)
held (Found' s q c d) = Some (s, spot_of d.frame)
held c = None

-- the spot at which a position that may be missing stands, with its source
abbrev pub held_in : Option (Bor Position) → Option (ℕ × Spot)
held_in None = None
held_in (Some p) = held p.now

-- the position at an index of a sorted list; past its end the one before all events
abbrev pub nth : {m : _} → Row m → ℕ → Position
nth no_more k = Start
nth (one_more q c rest) zero = c
nth (one_more q c rest) (suc k) = nth rest k

-- the position of the input in a position, or that of the left input; without an input the one before all events
abbrev pub below : Position → Position
below (Found' s q c d) = c
below (Pass' q c) = c
below (First' q c k) = c
below (Seen' q c k) = c
below (Pair' q l q' r k) = l
below (Sorted' q m row k) = nth row k
below c = Start

-- how many keys of the operator were seen up to a position
abbrev pub count_of : Position → ℕ
count_of (First' q c k) = k
count_of (Seen' q c k) = k
count_of c = 0

-- spot x of source s is that of variable v's node in the binding of a cursor of operator n
pub record Found (w : World) (ops : List Operator) (n : ℕ) (c : Position) (v s : ℕ) (x : Spot) : Type 0 where
  pub read : IsRead ops s
  pub known : IsSpotIn w s x
  pub node : row_node (binding w ops n c) v ≡ spot_node w s x

-- in each world of which a position is one of the operator that is walked, a property holds of the world and of the binding there
abbrev pub InEachWorld : Walk → Position → (World → TolledRow → Type 0) → Type 0
InEachWorld k c holds = (w : World) → IsOf w (operators k.fixed.now) k.op c → holds w (binding w (operators k.fixed.now) k.op c)

-- some sources, with what has grown, are a bench of which a position is one of the operator that is walked
abbrev pub HasStand : Growing → Walk → Position → Type 0
HasStand g k c = (view : View) × IsBench (world_of view g) (operators k.fixed.now) × IsOf (world_of view g) (operators k.fixed.now) k.op c

-- whatever the sources are, if a position is one of the operator that is walked, this holds in their world
abbrev pub InEach : Growing → Walk → Position → (World → Type 0) → Type 0
InEach g k c holds = (view : View) → IsBench (world_of view g) (operators k.fixed.now) → IsOf (world_of view g) (operators k.fixed.now) k.op c → holds (world_of view g)

-- where the sources that the plan reads are told, and a position is one of the operator that is walked, this holds of their world, their documents and the binding there
abbrev pub Tells : Growing → Walk → Position → (World → Documents → TolledRow → Type 0) → Type 0
Tells g k c holds = InEach g k c (λ w. IsTrue (is_told w (operators k.fixed.now)) → holds w (docs_of w) (binding w (operators k.fixed.now) k.op c))
