-- What a profile that is made of others describes.
use Rattle.std.specs.Prelude.{List}
use Rattle.mix_base.specs.Events.{Event}
use Rattle.browse_profile.specs.declared.profile.Profile.{Profile}
use Rattle.browse_profile.specs.Costs.{Costs, ends, followed, costs_of, first_only}
use Rattle.browse_profile.specs.Fits.{Fits}
use Rattle.browse_profile.specs.Profiles.{unbounded, in_turn, one_of, repeated, replaced, once}
use Rattle.browse_profile.specs.Replacing.{IsReplaced}

-- each way to make a profile of others describes the lists that are made so of what those describe
pub record ProfilesAreSound : Type 0 where
  pub in_turn : (a b : Profile) (c d : Costs) → Fits a c → Fits b d → Fits (in_turn a b) (followed c d)
  pub first : (a b : Profile) (c : Costs) → Fits a c → Fits (one_of a b) c
  pub second : (a b : Profile) (c : Costs) → Fits b c → Fits (one_of a b) c
  pub unbounded : (c : Costs) → Fits unbounded c
  pub repeated_none : (a : Profile) → Fits (repeated a) (ends 0)
  pub repeated_more : (a : Profile) (c d : Costs) → Fits a c → Fits (repeated a) d → Fits (repeated a) (followed c d)
  pub replaced : (i p : Profile) (c d : Costs) → Fits i c → IsReplaced (Fits p) c d → Fits (replaced i p) d
  pub once : (p : Profile) (es : List (Event Profile)) → Fits p (costs_of es) → Fits (once p) (first_only (costs_of es))
