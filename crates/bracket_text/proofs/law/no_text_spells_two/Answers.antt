use Rattle.bracket_text.proofs.Complete.{one_spelled}
use Rattle.bracket_text.proofs.law.no_text_spells_two.Goals as goal

pub returns : goal.returns
returns c = one_spelled
