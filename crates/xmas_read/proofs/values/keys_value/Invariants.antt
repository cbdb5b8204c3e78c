use Rattle.std.proofs.Common.{◌≡◌, ◌++◌, map, drop}
use Rattle.xmas_read.specs.Value.{key_value}
use Rattle.xmas_read.proofs.values.keys_value.Given as goal

abbrev pub invariant-loop-text : goal.invariant-loop-text
invariant-loop-text l = l.keys.items ++ map (key_value l.names) (drop l.text-index l.texts) ≡ map (key_value l.names) l.texts
