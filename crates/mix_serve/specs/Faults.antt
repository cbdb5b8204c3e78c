-- Which end of serving a fault below it is.
use Rattle.mix_io.specs.declared.input.TakeFault.{TakeFault}
use Rattle.mix_io.specs.declared.input.TakeFault.TheVariants as take
use Rattle.mix_io.specs.declared.sink.SinkFault.{SinkFault}
use Rattle.mix_io.specs.declared.sink.SinkFault.TheVariants as sink
use Rattle.mix_serve.specs.declared.fault.ServeFault.{ServeFault}
use Rattle.mix_serve.specs.declared.fault.ServeFault.TheVariants.{InputFailed, SinkFailed, OutOfMemory}

-- the end of serving that a fault of the input is
abbrev pub of_take : TakeFault → ServeFault
of_take take.Failed = InputFailed
of_take take.OutOfMemory = OutOfMemory

-- the end of serving that a fault of the sink is
abbrev pub of_sink : SinkFault → ServeFault
of_sink sink.Failed = SinkFailed
of_sink sink.OutOfMemory = OutOfMemory
