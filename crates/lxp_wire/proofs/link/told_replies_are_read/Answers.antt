use Rattle.lxp_wire.proofs.Carried.{told_read}
use Rattle.lxp_wire.proofs.link.told_replies_are_read.Goals as goal

pub returns : goal.returns
returns c = told_read
