-- No blank stands from the word's beginning to here.
use Rattle.std.proofs.Common.{◌≡◌, ◌≤◌, ◌<◌, ℕ, false, get_or}
use Rattle.mix_words.specs.Words.{is_blank}
use Rattle.catalog_continuations.proofs.misfit.word_end.Given as goal

abbrev pub invariant-loop-end : goal.invariant-loop-end
invariant-loop-end l = (k : ℕ) → l.begin ≤ k → k < l.end → is_blank (get_or l.line k 0) ≡ false
