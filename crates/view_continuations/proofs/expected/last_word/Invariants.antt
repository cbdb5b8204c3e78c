-- The word that ends at the index begins where the count says.
use Rattle.view_continuations.specs.Expected.{IsLastWord}
use Rattle.view_continuations.proofs.expected.last_word.Given as goal

abbrev pub invariant-loop-k : goal.invariant-loop-k
invariant-loop-k l = IsLastWord l.text l.k l.begin
