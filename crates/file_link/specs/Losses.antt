-- What a loss does to a link.
use Rattle.std.specs.Prelude.{Bool, true, false}
use Rattle.lxp_wire.specs.declared.link.LinkFault.{LinkFault}
use Rattle.lxp_wire.specs.declared.link.LinkFault.TheVariants as fault
use Rattle.file_link.specs.declared.loss.Loss.{Loss}
use Rattle.file_link.specs.declared.loss.Loss.TheVariants.{Unsent, Ended, Lost, TooLong, Failed, OutOfMemory}

-- the stream of replies may stand inside a reply afterwards, or hold bytes of an old one
abbrev pub breaks : Loss → Bool
breaks Unsent = false
breaks Ended = false
breaks Lost = true
breaks TooLong = true
breaks Failed = true
breaks OutOfMemory = true

-- the fault that a loss is for who asked
abbrev pub fault_of : Loss → LinkFault
fault_of Unsent = fault.Failed
fault_of Ended = fault.Failed
fault_of Lost = fault.Failed
fault_of TooLong = fault.Failed
fault_of Failed = fault.Failed
fault_of OutOfMemory = fault.OutOfMemory
