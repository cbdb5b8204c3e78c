-- The lines of the words so far.
use Rattle.std.proofs.Common.{◌≡◌, take}
use Rattle.std.specs.List.{flat_map}
use Rattle.refusal_words.specs.Catalog.{word_line}
use Rattle.refusal_words.proofs.catalog.word_lines.Given as goal

abbrev pub invariant-loop-word : goal.invariant-loop-word
invariant-loop-word l = l.lines.items ≡ flat_map word_line (take l.word-index l.words)
