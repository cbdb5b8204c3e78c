-- What the functions of this crate say of a file that stops a command.
use Rattle.std.specs.Prelude.{◌≡◌, ℕ, List, string_bytes}
use Rattle.mix_io.specs.Views.{FilesView}
use Rattle.mix_io.specs.declared.sink.SinkFault.{SinkFault}
use Rattle.mix_io.specs.declared.sink.SinkFault.TheVariants as sink
use Rattle.mix_place.specs.declared.refusal.FileFault.{FileFault}
use Rattle.mix_place.specs.declared.refusal.Stop.{Stop}
use Rattle.mix_place.specs.declared.refusal.Stop.TheVariants.{Refused, SinkFailed, OutOfMemory}
use Rattle.mix_place.specs.Causes.{IsRefusalLine, status_of}
use Rattle.mix_place.specs.Files.{IsRefused}

-- the stop that a fault of the sink is
abbrev pub stop_of : SinkFault → Stop
stop_of sink.Failed = SinkFailed
stop_of sink.OutOfMemory = OutOfMemory

-- a file is refused for a given fault, or memory ran out
abbrev pub IsStopFor : List ℕ → FileFault → Stop → Type 0
IsStopFor path fault (Refused r) = (r.status ≡ status_of fault) × IsRefusalLine path fault (string_bytes r.line)
IsStopFor path fault SinkFailed = ⊥
IsStopFor path fault OutOfMemory = Unit {0}

-- a file of a kind was not loaded: it is refused, or memory ran out
abbrev pub IsLoadStop : (List ℕ → FileFault → Type 0) → FilesView → FilesView → List ℕ → Stop → Type 0
IsLoadStop IsNone old new path (Refused r) = IsRefused IsNone old new path r.status (string_bytes r.line)
IsLoadStop IsNone old new path SinkFailed = ⊥
IsLoadStop IsNone old new path OutOfMemory = Unit {0}
