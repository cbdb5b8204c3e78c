use Rattle.lazy_binding.proofs.Stay.{cursors_kept}
use Rattle.lazy_binding.proofs.law.cursors_stay.Goals as goal

pub returns : goal.returns
returns c = λ old new ops bench kept. cursors_kept old new kept ops bench
