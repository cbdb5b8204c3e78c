-- What asking a link comes to.
use Rattle.std.specs.Prelude.{List, ℕ}
use Rattle.lxp_remote.specs.declared.fault.RemoteFault.{RemoteFault}
use Rattle.lxp_remote.specs.declared.fault.RemoteFault.TheVariants.{Wire, OutOfMemory}
use Rattle.lxp_remote.specs.Causes.{Asked, Shows}

-- a text shows the cause that a fault names, which is want of memory or one of the wire
abbrev pub ShowsFault : Asked → List ℕ → RemoteFault → Type 0
ShowsFault asked text (Wire fault) = Shows asked fault text
ShowsFault asked text OutOfMemory = Unit {0}
