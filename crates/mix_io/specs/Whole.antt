-- Which refusal of a whole file a fault of one read becomes.
use Rattle.mix_io.specs.declared.files.ReadAtFault.{ReadAtFault}
use Rattle.mix_io.specs.declared.files.ReadAtFault.TheVariants as at
use Rattle.mix_io.specs.declared.whole.ReadWhole.{ReadWhole}
use Rattle.mix_io.specs.declared.whole.ReadWhole.TheVariants as whole

-- the refusal of a whole file that a fault of one read becomes: a failed read, or want of memory
abbrev pub fault_of : ReadAtFault → ReadWhole
fault_of at.Failed = whole.Failed
fault_of at.OutOfMemory = whole.OutOfMemory
