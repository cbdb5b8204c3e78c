-- Faults of texts as faults of rules.
use Rattle.xmas_text.specs.declared.fault.TextFault.{TextFault}
use Rattle.xmas_text.specs.declared.fault.TextFault.TheVariants as text_fault
use Rattle.xmas_read.specs.declared.fault.Large.TheVariants as large
use Rattle.xmas_read.specs.declared.fault.XmasFault.{XmasFault}
use Rattle.xmas_read.specs.declared.fault.XmasFault.TheVariants as fault

-- the fault of a rule's text as that of a rule: an element too deep is too large
abbrev pub fault_of_text : TextFault → XmasFault
fault_of_text (text_fault.NotUtf8 at) = fault.NotUtf8 at
fault_of_text (text_fault.Unexpected at) = fault.Unexpected at
fault_of_text text_fault.EndsEarly = fault.EndsEarly
fault_of_text text_fault.TooDeep = fault.TooLarge large.Depth
fault_of_text text_fault.OutOfMemory = fault.OutOfMemory
