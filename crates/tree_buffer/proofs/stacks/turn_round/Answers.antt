use Rattle.std.proofs.Common.{arith}
use Rattle.tree_buffer.proofs.StackTops.{turned_short}
use Rattle.tree_buffer.proofs.stacks.turn_round.Goals as goal

pub returns-else-len-gt1 : goal.returns-else-len-gt1
returns-else-len-gt1 c = turned_short c.args.list.now.items (omega (arith, c.len.ensures, c.if-len-gt1.false, c.args.list.now.ok.0))
