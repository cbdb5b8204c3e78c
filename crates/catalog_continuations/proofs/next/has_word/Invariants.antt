-- None of the words so far is the one.
use Rattle.std.proofs.Common.{take}
use Rattle.mix_base.specs.Ascents.{Among}
use Rattle.catalog_continuations.proofs.next.has_word.Given as goal

abbrev pub invariant-loop-other : goal.invariant-loop-other
invariant-loop-other l = ¬ Among l.word (take l.other-index l.words)
