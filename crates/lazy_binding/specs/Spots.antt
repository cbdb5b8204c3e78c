-- The spots of variables in the bindings of positions, and the texts by which they are looked up.
use Rattle.std.specs.Prelude.{ℕ, zero, suc, cond, ◌==◌, ◌%◌, ◌^◌, Option, Some, None, List, []}
use Rattle.std.specs.List.{fold}
use Rattle.std.specs.Fmt.{decimal}
use Rattle.std.specs.Hash as fed
use Rattle.std.specs.Hash.FoldHasher as folding
use Rattle.mix_tree.specs.Keys.{has_var}
use Rattle.tree_buffer.specs.declared.spot.Spot.{Spot}
use Rattle.plan_core.specs.Plans.{Operator}
use Rattle.plan_core.specs.Shapes.{Shape, one_source, visits_below, pairs_up, filters, extends, first_by_keys, in_order, shape_at, passes_on}
use Rattle.lazy_descend.specs.Cursors.{spot_of}
use Rattle.lazy_binding.specs.declared.position.Position.{Position, Top, Found', Pass', First', Pair', Sorted', Row_of-Position-Sorted-0-1 as Row, end_of-Position-Sorted-0-1 as no_more, more_of-Position-Sorted-0-1 as one_more}

-- the first of two optional spots that is there
abbrev pub or_else : Option (ℕ × Spot) → Option (ℕ × Spot) → Option (ℕ × Spot)
or_else None p = p
or_else (Some p) q = Some p

abbrev mutual
  -- the spot of a variable in the binding of a position in this shape, with its source
  pub spot_at : List Operator → Shape → Position → ℕ → Option (ℕ × Spot)
  spot_at ops (one_source s out) (Top t x) v = cond (out == v) (Some (t, x)) None
  spot_at ops (visits_below i start path out) (Found' s q c d) v = cond (out == v) (Some (s, spot_of d.frame)) (spot_at ops (shape_at ops i) c v)
  spot_at ops (passes_on i (filters test)) (Pass' q c) v = spot_at ops (shape_at ops i) c v
  spot_at ops (passes_on i (extends out made)) (Pass' q c) v = spot_at ops (shape_at ops i) c v
  spot_at ops (passes_on i (first_by_keys keys group)) (Pass' q c) v = cond (has_var keys v) (spot_at ops (shape_at ops i) c v) None
  spot_at ops (passes_on i (first_by_keys keys group)) (First' q c k) v = cond (has_var keys v) (spot_at ops (shape_at ops i) c v) None
  spot_at ops (pairs_up l r tests) (Pair' q x q' y k) v = or_else (spot_at ops (shape_at ops l) x v) (spot_at ops (shape_at ops r) y v)
  spot_at ops (passes_on i (in_order u desc)) (Sorted' q m row k) v = spot_nth ops i row k v
  spot_at ops f c v = None

  -- the spot of a variable in the binding at an index of a sorted list, with its source
  pub spot_nth : List Operator → ℕ → {m : _} → Row m → ℕ → ℕ → Option (ℕ × Spot)
  spot_nth ops i no_more k v = None
  spot_nth ops i (one_more q c rest) zero v = spot_at ops (shape_at ops i) c v
  spot_nth ops i (one_more q c rest) (suc k) v = spot_nth ops i rest k v

-- the spot of a variable in the binding of operator n's cursor, with its source; none where the variable holds no node
abbrev pub spot_in : List Operator → ℕ → Position → ℕ → Option (ℕ × Spot)
spot_in ops n c v = spot_at ops (shape_at ops n) c v

-- the text of what is hashed: its hash, cut to 32 bits, in decimal digits
unfoldable pub hash_text : fed.HashWrites → List ℕ
hash_text writes = decimal (folding.finish (fold folding.write folding.initial writes) % 2 ^ 32)

-- what a hasher is fed of a spot: its number; nothing where there is none
abbrev pub spot_fed : Option (ℕ × Spot) → fed.HashWrites
spot_fed None = []
spot_fed (Some p) = fed.u32 p.1.number

-- the text of a spot, which its number makes; where there is none, no bytes
unfoldable pub spot_text : Option (ℕ × Spot) → List ℕ
spot_text None = []
spot_text (Some p) = hash_text (fed.u32 p.1.number)
