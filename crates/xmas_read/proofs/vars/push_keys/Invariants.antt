use Rattle.std.proofs.Common.{◌≡◌, ◌++◌, map, drop}
use Rattle.xmas_read.specs.Tree.{keys_vars}
use Rattle.xmas_read.proofs.vars.push_keys.Given as goal

abbrev pub invariant-loop-key : goal.invariant-loop-key
invariant-loop-key l = map (λ v. v.now) l.vars.items ++ keys_vars (drop l.key-index l.keys) ≡ map (λ v. v.now) l.fn.vars.items ++ keys_vars l.keys
