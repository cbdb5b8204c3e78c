use Rattle.std.proofs.Common.{subst}
use Rattle.wire_text.specs.Replies.{RefusesReply}
use Rattle.lxp_remote.proofs.Unread.{not_a_reply}
use Rattle.lxp_remote.proofs.asking.unread.Goals as goal

pub returns-in-Unexpected-clause-shows : goal.returns-in-Unexpected-clause-shows
returns-in-Unexpected-clause-shows c = λ asked text is refuses. not_a_reply text c.in-Unexpected.field-0 (subst (RefusesReply text) c.in-Unexpected.is refuses)

pub returns-in-TooDeep-clause-shows : goal.returns-in-TooDeep-clause-shows
returns-in-TooDeep-clause-shows c = λ asked text is refuses. c.too_deep-broken.ensures asked text c.in-TooDeep.field-0 is (subst (RefusesReply text) c.in-TooDeep.is refuses)
