use Rattle.browse_profile.proofs.Fitting.{sound}
use Rattle.browse_profile.proofs.law.profiles_are_sound.Goals as goal

pub returns : goal.returns
returns c = sound
