-- Levels that stand side by side, as runs of one profile.
use Rattle.std.specs.Prelude.{ℕ, zero, suc, List, [], ◌∷◌, ◌++◌}
use Rattle.browse_profile.specs.declared.profile.Profile.{Profile}
use Rattle.plan_class.specs.declared.runs.Run.{Run}

-- so many levels of one profile
abbrev pub copies : Profile → ℕ → List Profile
copies p zero = []
copies p (suc n) = p ∷ copies p n

-- the levels of runs, one run after another
abbrev pub levels_of : List Run → List Profile
levels_of [] = []
levels_of (r ∷ runs) = copies r.level (suc r.more) ++ levels_of runs
