use Rattle.std.proofs.Common.{subst}
use Rattle.wire_text.specs.Heads.{verdict_of}
use Rattle.wire_text.specs.Reading.{Judges}
use Rattle.wire_text.specs.Reply.{IsReplyText}
use Rattle.wire_text.proofs.Answered.{all_expected}
use Rattle.wire_text.proofs.reply.read_reply.Goals as goal

pub returns-in-Err-Unexpected-clause-only : goal.returns-in-Err-Unexpected-clause-only
returns-in-Err-Unexpected-clause-only c = λ r spelled.
    let x = c.args.text.now in
    let said = subst (λ stop. Judges IsReplyText x (verdict_of stop)) c.in-Err-Unexpected.field-0-is c.in-Err-Unexpected.ensures in
    absurd (all_expected x said.0 (r, spelled.0) said.2)
