use Rattle.xmas_read.proofs.ReadAgain.{answers_again, only_again}
use Rattle.xmas_read.proofs.law.canonical_text_is_read_again.Goals as goal

pub returns : goal.returns
returns c = λ x sources r h. (answers_again x sources r h, only_again x sources r h)
