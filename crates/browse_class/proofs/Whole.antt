-- Where a valid plan's class is bounded, every toll is at most its constant.
use Rattle.std.proofs.Common.{◌≡◌, ℕ, true, false, cond, arith}
use Rattle.std.specs.Prelude.{Bool, Option, Some, None}
use Rattle.plan_core.specs.Typed.{ValidIsTyped}
use Rattle.browse_class.specs.declared.class.Class.TheVariants.{Bounded, Unbrowsable}
use Rattle.browse_class.specs.Cheap.{AtMost}
use Rattle.browse_class.specs.Classes.{constant, sorts_any, class_by, BoundedTolls, KnownOfEvents}
use Rattle.browse_class.specs.Facts.{facts}
use Rattle.browse_class.proofs.Constants.{tolls_within, all_within}
use Rattle.browse_class.proofs.Sound.{events_as_known}

-- a bounded class shows the constant
shown : (s : Bool) (x : Option ℕ) (k : ℕ) → cond s Unbrowsable (class_by x) ≡ Bounded k → AtMost x (Some k)
shown true x k e = cc
shown false None k e = cc
shown false (Some n) k e = (let s : n ≡ k = cc in omega (arith, s))

-- each toll is at most the constant
pub bounded_tolls : ValidIsTyped → BoundedTolls
bounded_tolls types shapes p k valid e docs laid = tolls_within shapes docs laid k p valid (types p valid) (shown (sorts_any p.ops) (constant shapes p.ops) k e)

-- the events are as is known, whatever they cost
pub known_of_events : ValidIsTyped → KnownOfEvents
known_of_events types shapes p valid docs laid n b =
    events_as_known shapes docs laid None tt p valid (types p valid) (λ i h. all_within p.ops (facts shapes p.ops) None tt i h) n b
