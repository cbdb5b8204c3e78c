-- Faults of pages as faults of a source.
use Rattle.lxp_core.specs.declared.fault.SourceFault.{SourceFault}
use Rattle.lxp_core.specs.declared.fault.SourceFault.TheVariants as source
use Rattle.table_keep.specs.declared.fault.PageFault.{PageFault}
use Rattle.table_keep.specs.declared.fault.PageFault.TheVariants as page

-- the fault of a source that a page that is not given becomes
abbrev pub fault_of : PageFault → SourceFault
fault_of page.Failed = source.Failed
fault_of page.OutOfMemory = source.OutOfMemory
