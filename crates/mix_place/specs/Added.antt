-- The sources that a view adds, as the code has them.
use Rattle.std.specs.Prelude.{ℕ, Bool}
use Rattle.plan_core.specs.PlanMade.{plan_value}
use Rattle.mix_place.specs.declared.readers.Added.{Added}
use Rattle.mix_place.specs.Views.{adds, lower_of, view_ops}

-- whether a source is one of those that a view adds
abbrev pub added_by : Added → ℕ → Bool
added_by a = adds (plan_value a.plan.now).ops (lower_of a.views.now) (view_ops a.lower.now)
