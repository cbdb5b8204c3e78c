use Rattle.wire_text.proofs.Told.{replies_apart}
use Rattle.wire_text.proofs.reply.replies_are_apart.Goals as goal

pub returns : goal.returns
returns c = replies_apart
