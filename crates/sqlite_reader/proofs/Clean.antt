-- Of a disk that is never clean nothing is asked.
use Rattle.std.proofs.Common.{◌≡◌, arith, false}
use Rattle.std.specs.Bool.{IsTrue}
use Rattle.sqlite_trees.specs.View.{doubt}

-- a disk that would have to be clean here is not, so whatever is asked of it then stands
pub not_clean : {A : Type 0} → IsTrue false → A
not_clean h = cc

-- a store whose disk would have to be clean here is not, so whatever is asked of it then stands
pub never_clean : {A : Type 0} → doubt false ≡ 0 → A
unfolding doubt
never_clean h = absurd (omega arith)
