use Rattle.std.proofs.Common.{◌≡◌, ◌≤◌, ◌++◌, drop, map, slice_range}
use Rattle.mix_words.specs.Lines.{lines_of}
use Rattle.mix_words.proofs.Pieces.{Free}
use Rattle.mix_words.proofs.LineCuts.{is_lf}
use Rattle.mix_words.proofs.lines.cut_lines.Given as goal

abbrev pub invariant-loop-at : goal.invariant-loop-at
invariant-loop-at l = record {
  inside : l.from ≤ l.at;
  free : Free is_lf (slice_range l.text l.from l.at);
  cut : map (λ w. w.now) l.lines.items ++ lines_of (drop l.from l.text) ≡ lines_of l.text;
}
