-- What standard input means: it tells nothing of what is left.
use Rattle.std.specs.Prelude.{None}
use Rattle.mix_io.specs.declared.std_input.StdInput.{StdInput}
use Rattle.mix_io.specs.Input.{InputView}

-- what standard input means: it doesn't tell what is left
abbrev pub std_input_view : StdInput → InputView
std_input_view i = record { left = None; taken = i.taken; faults = i.faults }
