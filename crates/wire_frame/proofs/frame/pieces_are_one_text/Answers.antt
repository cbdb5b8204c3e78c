use Rattle.wire_frame.proofs.Standings.{after-append}
use Rattle.wire_frame.proofs.frame.pieces_are_one_text.Goals as goal

pub returns : goal.returns
returns c = after-append
