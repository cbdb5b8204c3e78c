use Rattle.xmas_text.proofs.Answering.{one_tree}
use Rattle.xmas_text.proofs.law.no_text_spells_two_rules.Goals as goal

pub returns : goal.returns
returns c = one_tree
