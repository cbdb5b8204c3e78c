use Rattle.std.proofs.Common.{take}
use Rattle.path_expr.specs.BuilderState.{state_in}
use Rattle.path_expr.proofs.Images.{BuildsTo}
use Rattle.path_expr.proofs.reading.build_path.Given as goal

abbrev pub invariant-loop-at : goal.invariant-loop-at
invariant-loop-at l = BuildsTo (take l.at l.text) (state_in l.builder)
