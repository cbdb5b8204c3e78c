use Rattle.std.proofs.Common.{sym}
use Rattle.node_text.proofs.Complete.{spells_read}
use Rattle.mix_script.proofs.Texting.{unread_text}
use Rattle.mix_script.proofs.forms.read_text.Goals as goal

pub returns-in-Ok : goal.returns-in-Ok
returns-in-Ok c = sym (spells_read c.args.text.now c.in-Ok.node c.in-Ok.ensures.answers)

pub returns-in-Err-Unexpected : goal.returns-in-Err-Unexpected
returns-in-Err-Unexpected c = unread_text c.args.text.now (rw c.in-Err-Unexpected.field-0-is at c.in-Err-Unexpected.ensures.only)

pub returns-in-Err-Ends : goal.returns-in-Err-Ends
returns-in-Err-Ends c = unread_text c.args.text.now (rw c.in-Err-Ends.field-0-is at c.in-Err-Ends.ensures.only)
