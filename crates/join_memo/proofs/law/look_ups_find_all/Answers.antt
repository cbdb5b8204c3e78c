use Rattle.join_memo.proofs.InOrder.{finds_all}
use Rattle.join_memo.proofs.law.look_ups_find_all.Goals as goal

pub returns : goal.returns
returns c = finds_all
