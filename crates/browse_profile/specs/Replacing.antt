-- Lists in which each stop is replaced by a list.
use Rattle.std.specs.Prelude.{◌≡◌, ℕ, suc}
use Rattle.browse_profile.specs.Costs.{Costs, ends, stop, more, followed}

-- the second list is the first, each stop replaced by a list of which something holds and that begins where the stop's own step would have ended
abbrev pub IsReplaced : (Costs → Type 0) → Costs → Costs → Type 0
IsReplaced Q (ends t) d = d ≡ ends t
IsReplaced Q (stop t c) d = (u : ℕ) × (e : Costs) × (r : Costs) × (t ≡ suc u) × Q e × IsReplaced Q c r × (d ≡ more u (followed e r))
