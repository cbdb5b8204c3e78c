use Rattle.std.proofs.Common.{rules, append_assoc}
use Rattle.source_checks.proofs.words.size_words.Goals as goal

pub returns : goal.returns
returns c = search (rules, append_assoc)
