use Rattle.sqlite_pool.specs.Pool.{state}
use Rattle.sqlite_reader.proofs.Clean.{never_clean}
use Rattle.sqlite_reader.proofs.defaults.stored.Goals as goal

-- the disk is never clean, so nothing is asked of it
pub get-requires : goal.get-requires
unfolding state
get-requires c = λ clean. never_clean clean
