use Rattle.std.proofs.Common.{subst, sym}
use Rattle.std.proofs.lemmas.List.{nil_from_length}
use Rattle.wire_text.specs.Request.{IsPrefixOfRequest}
use Rattle.wire_text.proofs.Asked.{nothing_more}
use Rattle.wire_text.proofs.request.read_request.Goals as goal

pub returns-in_default : goal.returns-in_default
returns-in_default c = subst IsPrefixOfRequest (sym (nil_from_length c.args.text.now c.in_default.ensures.cases)) nothing_more
