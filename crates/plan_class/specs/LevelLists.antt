-- Levels as a list of the first ones and the one that all others are.
use Rattle.std.specs.Prelude.{ℕ, zero, suc, Bool, cond, List, [], ◌∷◌, ◌++◌, drop, map, slice_index_or}
use Rattle.browse_profile.specs.declared.profile.Profile.{Profile}
use Rattle.browse_profile.specs.Profiles.{one_skip, unbounded, in_turn, replaced, once}

-- the first levels, and the one that all others are
pub record Levels : Type 0 where
  pub first : List Profile
  pub rest : Profile

-- the level of a number in a list of levels
abbrev pub level_in : Levels → ℕ → Profile
level_in l j = slice_index_or l.first j l.rest

-- levels that are all one profile
abbrev pub same_levels : Profile → Levels
same_levels p = record { first = []; rest = p }

-- the first stop of a list alone at level 0, and the others as they are
abbrev pub with_first : Profile → Levels → Levels
with_first p l = record { first = once p ∷ drop 1 l.first; rest = l.rest }

-- a list of so many levels of which nothing is known
abbrev pub opens : ℕ → List Profile
opens zero = []
opens (suc m) = unbounded ∷ opens m

-- a list beside each binding of the left side of a join
abbrev pub beside : Profile → Profile → Profile
beside left right = replaced left (in_turn one_skip right)

-- the levels of visits below bindings with a front of m variables
abbrev pub visit_levels : ℕ → Bool → Profile → Profile → Levels
visit_levels m whole input visit =
    cond whole (record { first = opens m ++ replaced input (once visit) ∷ replaced input visit ∷ []; rest = unbounded }) (same_levels unbounded)

-- the levels of pairs, of which the left side has a front of m variables
abbrev pub pair_levels : ℕ → Bool → Profile → Levels → Levels
pair_levels m whole left right =
    cond whole (record { first = opens m ++ map (beside left) right.first; rest = beside left right.rest }) (same_levels unbounded)
