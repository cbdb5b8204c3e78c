use Rattle.std.proofs.Common.{rules, append_assoc}
use Rattle.text_places.proofs.shown.place_words.Goals as goal

pub returns : goal.returns
returns c = search (rules, append_assoc)
