use Rattle.std.proofs.Common.{◌≡◌, ◌++◌, drop}
use Rattle.lazy_value.proofs.copying.copy_levels.Given as goal

abbrev pub invariant-loop-level : goal.invariant-loop-level
invariant-loop-level l = l.copy.items ++ drop l.level-index l.levels ≡ l.fn.levels
