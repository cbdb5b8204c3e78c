-- The spots at which the getDescendants on the way to a position stand, by the numbers of their operators, and the places of spots.
use Rattle.std.specs.Prelude.{◌≡◌, ℕ, zero, suc, Option, Some, None, List, [], ◌∷◌, set, slice_get, replicate, length}
use Rattle.tree_buffer.specs.declared.buffer.Buffer.{Buffer}
use Rattle.tree_buffer.specs.declared.spot.Spot.{Spot}
use Rattle.tree_buffer.specs.Buffer.{IsSpot, place_of}
use Rattle.plan_core.specs.Plans.{Operator}
use Rattle.plan_core.specs.Shapes.{Shape, visits_below, pairs_up, shape_at, passes_on}
use Rattle.lazy_descend.specs.Cursors.{spot_of}
use Rattle.lazy_binding.specs.declared.position.Position.{Position, Found', Pass', First', Pair', Sorted', Row_of-Position-Sorted-0-1 as Row, end_of-Position-Sorted-0-1 as no_more, more_of-Position-Sorted-0-1 as one_more}
use Rattle.lazy_binding.specs.World.{of_buffer}

-- an optional spot for each operator, with its source
abbrev pub Spots : Type 0
Spots = List (Option (ℕ × Spot))

abbrev mutual
  -- spots by the numbers of operators, once those at which the getDescendants on the way to a position of operator n, in this shape, stand are put among them
  pub noted : List Operator → ℕ → Shape → Position → Spots → Spots
  noted ops n (visits_below i start path out) (Found' s q c d) spots = noted ops i (shape_at ops i) c (set spots n (Some (s, spot_of d.frame)))
  noted ops n (pairs_up l r tests) (Pair' q x q' y k) spots = noted ops r (shape_at ops r) y (noted ops l (shape_at ops l) x spots)
  noted ops n (passes_on i stage) (Pass' q c) spots = noted ops i (shape_at ops i) c spots
  noted ops n (passes_on i stage) (First' q c k) spots = noted ops i (shape_at ops i) c spots
  noted ops n (passes_on i stage) (Sorted' q m row k) spots = noted_nth ops i row k spots
  noted ops n f c spots = spots

  -- the same for the position at an index of a sorted list
  pub noted_nth : List Operator → ℕ → {m : _} → Row m → ℕ → Spots → Spots
  noted_nth ops i no_more k spots = spots
  noted_nth ops i (one_more q c rest) zero spots = noted ops i (shape_at ops i) c spots
  noted_nth ops i (one_more q c rest) (suc k) spots = noted_nth ops i rest k spots

-- the spots at which the getDescendants on the way to a position of operator n stand, by the numbers of their operators
abbrev pub spots_at : List Operator → ℕ → Position → Spots
spots_at ops n c = noted ops n (shape_at ops n) c (replicate (length ops) None)

-- the places of the spots that are there, by the buffers of their sources
abbrev pub places_there : List Buffer → Spots → List (List ℕ)
places_there buffers [] = []
places_there buffers (None ∷ spots) = places_there buffers spots
places_there buffers (Some p ∷ spots) = of_buffer [] (λ b. place_of b p.1) (slice_get buffers p.0) ∷ places_there buffers spots

-- each spot that is there is one of its source's buffer
abbrev pub AreSpots : List Buffer → Spots → Type 0
AreSpots buffers [] = Unit {0}
AreSpots buffers (None ∷ spots) = AreSpots buffers spots
AreSpots buffers (Some p ∷ spots) = ((b : Buffer) × (slice_get buffers p.0 ≡ Some b) × IsSpot b p.1) × AreSpots buffers spots
