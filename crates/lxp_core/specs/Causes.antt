-- What a fault says of the sources.
use Rattle.std.specs.Prelude.{ℕ, Result, IfErr}
use Rattle.mix_base.specs.Counts.{HasRisen}
use Rattle.lxp_core.specs.View.{View}
use Rattle.lxp_core.specs.declared.fault.WalkFault.{WalkFault}
use Rattle.lxp_core.specs.declared.fault.WalkFault.TheVariants.{Failed, OutOfMemory}

-- a fault of a walk is want of memory, or names a source that has a given property and whose count of faults rose
abbrev pub HasRose : (ℕ → Type 0) → View → View → WalkFault → Type 0
HasRose IsNamed old new (Failed s) = IsNamed s × HasRisen (old.faults s) (new.faults s)
HasRose IsNamed old new OutOfMemory = Unit {0}

-- a call answers, or refuses for want of memory or by a source that has a given property and whose count of faults rose
abbrev pub HasCause : {T : Type 0} → (ℕ → Type 0) → View → View → Result T WalkFault → Type 0
HasCause IsNamed old new result = IfErr result (HasRose IsNamed old new)
