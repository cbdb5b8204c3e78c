use Rattle.std.proofs.Common.{length, ◌-◌, ◌≤◌, slice_range}
use Rattle.mix_words.specs.Words.{is_blank}
use Rattle.mix_words.proofs.Pieces.{Free}
use Rattle.mix_script.proofs.words.word_end.Given as goal

abbrev pub invariant-loop-end : goal.invariant-loop-end
invariant-loop-end l = record {
  order : l.from ≤ l.end;
  inside : l.end ≤ length l.text;
  free : Free is_blank (slice_range l.text l.from l.end);
}

abbrev pub decreases-loop-end : goal.decreases-loop-end
decreases-loop-end l = length l.text - l.end
