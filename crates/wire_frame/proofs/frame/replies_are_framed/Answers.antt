use Rattle.wire_frame.proofs.Framed.{replies_whole, whole_is_the_reply, lost_is_no_reply}
use Rattle.wire_frame.proofs.frame.replies_are_framed.Goals as goal

pub returns-clause-whole : goal.returns-clause-whole
returns-clause-whole c = replies_whole

pub returns-clause-only : goal.returns-clause-only
returns-clause-only c = whole_is_the_reply

pub returns-clause-lost : goal.returns-clause-lost
returns-clause-lost c = lost_is_no_reply
