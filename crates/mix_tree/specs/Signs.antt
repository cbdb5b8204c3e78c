-- How comparisons are written.
use Rattle.std.specs.Prelude.{ℕ, List, codes}
use Rattle.mix_tree.specs.declared.comparing.TestOp.{TestOp}
use Rattle.mix_tree.specs.declared.comparing.TestOp.TheVariants.{Eq, Ne, Lt, Le, Gt, Ge, Same}

-- the sign of a comparison
abbrev pub op_sign : TestOp → List ℕ
op_sign Eq = codes "="
op_sign Ne = codes "!="
op_sign Lt = codes "<"
op_sign Le = codes "<="
op_sign Gt = codes ">"
op_sign Ge = codes ">="
op_sign Same = codes "is"
