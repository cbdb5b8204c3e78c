-- Which lists a profile describes.
use Rattle.std.specs.Prelude.{◌≡◌, true, false}
use Rattle.browse_profile.specs.declared.profile.Profile.{Profile}
use Rattle.browse_profile.specs.Bounds.{Within}
use Rattle.browse_profile.specs.Costs.{Costs, ends, stop, total}
use Rattle.browse_profile.specs.Profiles.{may, many}

-- after a stop, a list goes on as the profile says
abbrev pub After : Profile → Costs → Type 0
After p (ends t) = Within t p.trail
After p (stop t c) = Within t p.between × (many p.most ≡ true) × After p c

-- the list is as the four bounds of the profile say
abbrev pub FourFit : Profile → Costs → Type 0
FourFit p (ends t) = Within t p.none × (p.sure ≡ false)
FourFit p (stop t c) = Within t p.lead × (may p.most ≡ true) × After p c

-- the list is as the profile says
abbrev pub Fits : Profile → Costs → Type 0
Fits p c = FourFit p c × Within (total c) p.all
