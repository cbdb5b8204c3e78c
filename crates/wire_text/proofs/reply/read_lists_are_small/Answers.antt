use Rattle.wire_text.proofs.Shallow.{lists_small}
use Rattle.wire_text.proofs.reply.read_lists_are_small.Goals as goal

pub returns : goal.returns
returns c = lists_small
