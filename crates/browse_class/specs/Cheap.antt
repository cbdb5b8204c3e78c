-- Trees whose tolls are within a bound, and what the tolls of a list are.
use Rattle.std.specs.Prelude.{ℕ, ◌≤◌, Option, Some, None}
use Rattle.plan_core.specs.Tolled.{Tolled, ends as the_end, item}
use Rattle.browse_profile.specs.declared.profile.Profile.{Profile}
use Rattle.browse_profile.specs.Bounds.{Within}
use Rattle.browse_profile.specs.Costs.{Costs, ends, stop}

-- the tolls of the list itself
abbrev pub spine : Tolled → Costs
spine (the_end t) = ends t
spine (item t label kids rest) = stop t (spine rest)

-- every toll is within a bound
abbrev pub IsCheap : Option ℕ → Tolled → Type 0
IsCheap most (the_end t) = Within t most
IsCheap most (item t label kids rest) = Within t most × IsCheap most kids × IsCheap most rest

-- every toll below its trees
abbrev pub IsCheapBelow : Option ℕ → Tolled → Type 0
IsCheapBelow most (the_end t) = Unit {0}
IsCheapBelow most (item t label kids rest) = IsCheap most kids × IsCheapBelow most rest

-- the first bound is at most the second
abbrev pub AtMost : Option ℕ → Option ℕ → Type 0
AtMost x None = Unit {0}
AtMost None (Some m) = ⊥
AtMost (Some n) (Some m) = n ≤ m

-- the four bounds of a profile from stop to stop are at most a bound
pub record IsWithin (most : Option ℕ) (p : Profile) : Type 0 where
  pub lead : AtMost p.lead most
  pub between : AtMost p.between most
  pub trail : AtMost p.trail most
  pub none : AtMost p.none most
