use Rattle.sqlite_pool.specs.Pool.{state}
use Rattle.sqlite_reader.proofs.Clean.{never_clean}
use Rattle.sqlite_reader.proofs.reader.Engine.rows.Goals as goal

-- the disk is never clean, so nothing is asked of it
pub run_program-requires : goal.run_program-requires
unfolding state
run_program-requires c = λ clean. never_clean clean
