use Rattle.file_link.proofs.Received.{are_received}
use Rattle.file_link.proofs.receiving.replies_are_received.Goals as goal

pub returns : goal.returns
returns c = are_received
