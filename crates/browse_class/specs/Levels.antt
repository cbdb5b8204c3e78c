-- Levels: what an operator's events cost where of the bindings that agree in the first variables of its front the first alone counts.
use Rattle.std.specs.Prelude.{ℕ, zero, suc, ◌-◌, ◌≤◌, nat_le, Bool, cond, ◌==◌, length, take, List, []}
use Rattle.mix_tree.specs.Nodes.{Documents}
use Rattle.plan_core.specs.Events.{RowEvents, distinct}
use Rattle.plan_core.specs.Fronts.{node_keys}
use Rattle.plan_core.specs.TolledRows.{TolledRow}
use Rattle.browse_profile.specs.declared.profile.Profile.{Profile}
use Rattle.browse_profile.specs.Costs.{costs_of}
use Rattle.browse_profile.specs.Fits.{Fits}
use Rattle.browse_profile.specs.Profiles.{many, one_skip, unbounded, in_turn, replaced, once}

-- level 0 is that of the first binding alone
abbrev pub with_zero : Profile → (ℕ → Profile) → ℕ → Profile
with_zero p f zero = once p
with_zero p f (suc j) = f (suc j)

-- the profile itself where there is one binding at most
abbrev pub own_level : Profile → Profile
own_level p = cond (many p.most) unbounded p

-- the levels of visits below bindings with a front of m variables: by all of them the first of each visit; by the visit's as well all
abbrev pub visits_level : ℕ → Bool → Profile → Profile → Profile → ℕ → Profile
visits_level m whole own i p j = cond whole (cond (j == suc m) own (cond (j == m) (replaced i (once p)) unbounded)) unbounded

-- the levels of pairs: beside each left binding those of the right side
abbrev pub pairs_level : ℕ → Bool → Profile → (ℕ → Profile) → ℕ → Profile
pairs_level m whole i right j = cond whole (cond (nat_le m j) (replaced i (in_turn one_skip (right (j - m)))) unbounded) unbounded

-- the first bindings by the first j variables of a front are as level j says, whatever is made of them
abbrev pub AreLeveled : Documents → List ℕ → (ℕ → Profile) → RowEvents → Type 0
AreLeveled docs vars levels es =
    (j : ℕ) → j ≤ length vars → (make : TolledRow → RowEvents → TolledRow) → Fits (levels j) (costs_of (distinct docs (node_keys (take j vars)) make [] es))
