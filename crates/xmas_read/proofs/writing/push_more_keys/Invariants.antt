use Rattle.std.proofs.Common.{◌≡◌, ◌++◌, drop}
use Rattle.xmas_read.specs.Canonical.{more_keys}
use Rattle.xmas_read.proofs.writing.push_more_keys.Given as goal

abbrev pub invariant-loop-key : goal.invariant-loop-key
invariant-loop-key l = l.out.items ++ more_keys l.names (drop l.key-index l.keys) ≡ l.fn.out.items ++ more_keys l.names l.keys
