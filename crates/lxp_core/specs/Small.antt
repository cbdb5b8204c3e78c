-- Lists with holes that are small enough for a wire.
use Rattle.std.specs.Prelude.{ℕ, zero, suc, ◌+◌, ◌<◌, ◌^◌, length}
use Rattle.lxp_core.specs.Open.{Open, nil, node, hole}

-- how many trees stand side by side, a hole being one
abbrev pub tops_of : Open → ℕ
tops_of nil = 0
tops_of (node label kids rest) = tops_of rest + 1
tops_of (hole id rest) = tops_of rest + 1

-- at most so many levels, a hole being one, and each label and each list below a node is shorter than 2^32
abbrev pub IsSmallWithin : ℕ → Open → Type 0
IsSmallWithin levels nil = Unit {0}
IsSmallWithin zero (node label kids rest) = ⊥
IsSmallWithin zero (hole id rest) = ⊥
IsSmallWithin (suc levels) (node label kids rest) =
    (length label < 2 ^ 32) × (tops_of kids < 2 ^ 32) × IsSmallWithin levels kids × IsSmallWithin (suc levels) rest
IsSmallWithin (suc levels) (hole id rest) = IsSmallWithin (suc levels) rest

-- the list has at most 200 levels, and each label and each list is shorter than 2^32
abbrev pub IsSmall : Open → Type 0
IsSmall o = (tops_of o < 2 ^ 32) × IsSmallWithin 200 o
