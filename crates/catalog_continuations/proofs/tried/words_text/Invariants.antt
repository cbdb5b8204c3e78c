-- The words so far.
use Rattle.std.proofs.Common.{◌≡◌, take}
use Rattle.catalog_continuations.specs.GoesOn.{spelled}
use Rattle.catalog_continuations.proofs.tried.words_text.Given as goal

abbrev pub invariant-loop-word : goal.invariant-loop-word
invariant-loop-word l = l.text.items ≡ spelled (take l.word-index l.words)
