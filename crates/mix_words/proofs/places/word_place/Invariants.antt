use Rattle.std.proofs.Common.{◌≡◌, true, take, drop}
use Rattle.mix_words.specs.Places.{word_from, place_of_word, ends_blank}
use Rattle.mix_words.proofs.places.word_place.Given as goal

abbrev pub invariant-loop-at : goal.invariant-loop-at
invariant-loop-at l = record {
  apart : ends_blank true (take l.at l.line) ≡ l.is_apart;
  place : word_from l.is_apart l.left l.at (drop l.at l.line) ≡ place_of_word l.count l.line;
}
