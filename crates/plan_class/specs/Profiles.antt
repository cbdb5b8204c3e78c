-- The profiles of a plan: of the events of its operators, and of the lists that its variables have.
use Rattle.std.specs.Prelude.{◌≡◌, ◌<◌, ℕ, List, Some, length, map, slice_index_or}
use Rattle.plan_core.specs.Plans.{Operator}
use Rattle.plan_core.specs.Valid.{a_list, kinds}
use Rattle.browse_profile.specs.declared.profile.Profile.{Profile}
use Rattle.browse_profile.specs.Profiles.{costless}
use Rattle.browse_visit.specs.declared.shape.Shape.{Shape}
use Rattle.browse_visit.specs.Shapes.{shapes_of}
use Rattle.browse_class.specs.Facts.{facts}
use Rattle.plan_class.specs.Known.{Known}
use Rattle.plan_class.specs.VarDomains.{domain_in, AreDomains}
use Rattle.plan_class.specs.declared.profiles.Profiles.{Profiles}

-- the profile of the events of operator n, and of another number that of no events
abbrev pub events_in : Profiles → ℕ → Profile
events_in ps n = slice_index_or ps.events.items n costless

-- the profile of the list that a variable has
abbrev pub list_in : Profiles → ℕ → Profile
list_in ps v = (domain_in ps.domains v).trees

-- the profiles are those that are known of operators, and of the values of their variables
pub record AreOfKnown (known : List Known) (ps : Profiles) : Type 0 where
  pub events : ps.events.items ≡ map (λ (k : Known). k.profile) known
  pub domains : AreDomains ps.domains known

-- the profiles are those of a plan over sources of these shapes: of the events of each operator, and of each list that an operator binds
pub record AreProfiles (shapes : List Shape) (ops : List Operator) (ps : Profiles) : Type 0 where
  pub events : (n : ℕ) → n < length ops → events_in ps n ≡ (facts (shapes_of shapes) ops n).profile
  pub lists : (n v : ℕ) → n < length ops → kinds ops n v ≡ Some a_list → list_in ps v ≡ (facts (shapes_of shapes) ops n).lists v
