-- What a search of a buffer or a mediator becomes.
use Rattle.std.specs.Prelude.{◌≡◌, Option, Some, None, Result, Ok, Err}
use Rattle.lxp_core.specs.declared.fault.WalkFault.{WalkFault}
use Rattle.lxp_core.specs.declared.fault.WalkFault.TheVariants as walk
use Rattle.mix_session.specs.declared.walker.Found.{Found}
use Rattle.mix_session.specs.declared.walker.Found.TheVariants as found

-- a search by a buffer or a mediator comes to this: the node that it found, none, or a fault of the source that its refusal names; never want of memory
abbrev pub of_walk : {V : Type 0} → Result (Option V) WalkFault → Found V → Type 0
of_walk (Ok (Some n)) r = r ≡ found.Node n
of_walk (Ok None) r = r ≡ found.None
of_walk (Err (walk.Failed s)) r = r ≡ found.Fault s
of_walk (Err walk.OutOfMemory) r = ⊥
