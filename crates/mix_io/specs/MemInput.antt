-- What an input in memory means.
use Rattle.std.specs.Prelude.{ℕ, ◌+◌, ◌-◌, ◌^◌, ◌==◌, min, Bool, List, Some, drop}
use Rattle.std.specs.List.{list_any}
use Rattle.mix_io.specs.declared.mem_input.MemInput.{MemInput}
use Rattle.mix_io.specs.Input.{InputView}

-- what an input in memory means: it tells what is left
abbrev pub mem_input_view : MemInput → InputView
mem_input_view i = record { left = Some (drop i.from i.bytes.items); taken = i.from; faults = i.faults }

-- the numbers of the takes, counted from 1, that are to fail of an input in memory
abbrev pub failing_takes : MemInput → List ℕ
failing_takes i = i.failing.items

-- how many takes of an input in memory there were
abbrev pub takes_of : MemInput → ℕ
takes_of i = i.takes

-- the number of the next take of an input in memory, counted from 1; the last number of 64 bits has none after it
abbrev pub next_take : MemInput → ℕ
next_take i = min (takes_of i + 1) (2 ^ 64 - 1)

-- whether the next take of an input in memory is to fail
abbrev pub next_take_fails : MemInput → Bool
next_take_fails i = list_any (λ k. k == next_take i) (failing_takes i)
