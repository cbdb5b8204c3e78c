-- A builder's values as those of the machine with values.
use Rattle.std.specs.Prelude.{◌≡◌, ℕ, List, Option, Result, Ok, Err, map, reverse, option_map, IsUtf8}
use Rattle.path_expr.specs.Building as building
use Rattle.path_expr.specs.declared.build.Level.{Level}
use Rattle.path_expr.specs.declared.build.Spot.{Spot}
use Rattle.path_expr.specs.declared.build.Spot.TheVariants.{Start, Naming, Quoting, Escaping, PastAtom, PastRepeat}
use Rattle.path_expr.specs.declared.build.Builder.{Builder}
use Rattle.std.specs.declared.vec.Vec.{Vec}
use Rattle.std.specs.declared.alloc.Global.{Global}

-- a builder's level as a level of the machine with values
abbrev pub level_in : Level → building.Level
level_in l = building.level l.sequences.items l.members.items

-- a builder's outer levels as those of the machine with values, the innermost first
abbrev pub outer_in : Vec Level Global → List building.Level
outer_in o = reverse (map level_in o.items)

-- what has been read of the member at hand
abbrev pub mode_in : Spot → building.Mode
mode_in Start = building.start
mode_in (Naming l) = building.naming l.items
mode_in (Quoting l) = building.quoting l.items
mode_in (Escaping l) = building.escaping l.items
mode_in (PastAtom p) = building.past_atom p
mode_in (PastRepeat p) = building.past_repeat p

-- a builder as a state of the machine with values
abbrev pub state_in : Builder → building.State
state_in b = building.at (level_in b.here) (outer_in b.outer) (mode_in b.spot)

-- what is given is what the machine gives
abbrev pub Builds : {E : Type 0} → Result (Option Builder) E → Option building.State → Type 0
Builds (Ok b) given = option_map state_in b ≡ given
Builds (Err e) given = Unit {0}

-- a label that ends by this byte is UTF-8
abbrev pub AreUtf8 : Spot → ℕ → Type 0
AreUtf8 Start b = Unit {0}
AreUtf8 (Naming l) b = IsUtf8 l.items
AreUtf8 (Quoting l) b = b ≡ 34 → IsUtf8 l.items
AreUtf8 (Escaping l) b = Unit {0}
AreUtf8 (PastAtom p) b = Unit {0}
AreUtf8 (PastRepeat p) b = Unit {0}

-- a label that ends at the end of the text is UTF-8
abbrev pub AreUtf8Now : Spot → Type 0
AreUtf8Now Start = Unit {0}
AreUtf8Now (Naming l) = IsUtf8 l.items
AreUtf8Now (Quoting l) = Unit {0}
AreUtf8Now (Escaping l) = Unit {0}
AreUtf8Now (PastAtom p) = Unit {0}
AreUtf8Now (PastRepeat p) = Unit {0}
