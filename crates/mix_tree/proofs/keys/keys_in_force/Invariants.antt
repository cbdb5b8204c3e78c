use Rattle.std.proofs.Common.{◌≡◌, drop}
use Rattle.mix_tree.specs.Keys.{in_force}
use Rattle.mix_tree.proofs.keys.keys_in_force.Given as goal

abbrev pub invariant-loop-key : goal.invariant-loop-key
invariant-loop-key l = in_force l.keys.items (drop l.key-index l.own) ≡ in_force l.force l.own
