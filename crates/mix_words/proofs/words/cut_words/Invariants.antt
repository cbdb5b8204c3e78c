use Rattle.std.proofs.Common.{◌≡◌, ◌≤◌, ◌++◌, drop, map, slice_range}
use Rattle.mix_words.specs.Words.{is_blank, words_of}
use Rattle.mix_words.proofs.Pieces.{Free}
use Rattle.mix_words.proofs.words.cut_words.Given as goal

abbrev pub invariant-loop-at : goal.invariant-loop-at
invariant-loop-at l = record {
  inside : l.from ≤ l.at;
  free : Free is_blank (slice_range l.line l.from l.at);
  cut : map (λ w. w.now) l.words.items ++ words_of (drop l.from l.line) ≡ words_of l.line;
}
