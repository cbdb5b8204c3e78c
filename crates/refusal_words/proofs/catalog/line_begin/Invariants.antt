-- The number of the line that the bytes so far end in is counted, and where it is the one that is looked for, it begins here.
use Rattle.std.proofs.Common.{◌≡◌, ◌⊎◌, ◌≤◌, ◌-◌, max, get_or}
use Rattle.refusal_words.specs.Catalog.{line_at}
use Rattle.refusal_words.proofs.catalog.line_begin.Given as goal

abbrev pub invariant-loop-at : goal.invariant-loop-at
invariant-loop-at l = record {
  counted : l.before ≡ line_at l.text l.at;
  within : l.before ≤ max l.number 1;
  begun : l.number ≤ l.before → (l.at ≡ 0) ⊎ (get_or l.text (l.at - 1) 0 ≡ 10);
}
