-- What is said of the paths so far.
use Rattle.std.proofs.Common.{◌≡◌, take}
use Rattle.std.specs.List.{flat_map}
use Rattle.path_words.specs.Told.{path_lines}
use Rattle.path_words.proofs.told.path_words.Given as goal

abbrev pub invariant-loop-path : goal.invariant-loop-path
invariant-loop-path l = l.words.items ≡ flat_map (path_lines l.shapes l.plan) (take l.path-index l.path-items)
