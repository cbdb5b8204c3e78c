-- Before a talk, nothing was taken too soon.
use Rattle.std.proofs.Common.{ℕ, List, [], Option, Some, None, refl, ap, arith, sym}
use Rattle.mix_base.proofs.Lists.{append_nil}
use Rattle.mix_io.specs.Contents.{Appends}
use Rattle.mix_lines.specs.Talks.{IsTakenInTime}

-- where nothing was written, no lines were appended
pub appends_nothing : (before : Option (List ℕ)) → Appends before before []
appends_nothing None = refl
appends_nothing (Some w) = ap Some (sym (append_nil w))

-- where nothing was taken, nothing was taken too soon
pub timely_start : (names : List (List ℕ)) (before : Option (List ℕ)) → IsTakenInTime names [] before before
timely_start names before = record { earlier = []; last = []; parts = refl; short = omega arith; answers = []; all = refl; rest = []; written = appends_nothing before }
