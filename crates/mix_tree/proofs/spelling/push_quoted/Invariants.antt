use Rattle.std.proofs.Common.{◌≡◌, ◌++◌, ◌∷◌, [], drop}
use Rattle.std.specs.List.{flat_map}
use Rattle.mix_tree.specs.Spelling.{escaped, quoted}
use Rattle.mix_tree.proofs.spelling.push_quoted.Given as goal

abbrev pub invariant-loop-byte : goal.invariant-loop-byte
invariant-loop-byte l =
    l.out.items ++ (flat_map escaped (drop l.byte-index l.byte-items) ++ 34 ∷ []) ≡ l.fn.out.items ++ quoted l.label
