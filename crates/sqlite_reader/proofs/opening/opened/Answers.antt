use Rattle.sqlite_pool.specs.Pool.{state}
use Rattle.sqlite_reader.proofs.Clean.{not_clean}
use Rattle.sqlite_reader.proofs.opening.opened.Goals as goal

-- the disk is never clean, so nothing is asked of it
pub open_trusted-requires-clause-sound : goal.open_trusted-requires-clause-sound
unfolding state
open_trusted-requires-clause-sound c = λ clean. not_clean clean
