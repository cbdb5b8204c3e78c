-- A reader's values as those of the machine.
use Rattle.std.specs.Prelude.{◌≡◌, Option, Result, Ok, Err, option_map}
use Rattle.node_text.specs.Machine as machine
use Rattle.node_text.specs.declared.reader.Part.{Part}
use Rattle.node_text.specs.declared.reader.Part.TheVariants.{Piece, Tuple, Inside}
use Rattle.node_text.specs.declared.reader.Reader.{Reader}
use Rattle.node_text.specs.declared.reader.Reader.TheVariants.{Root, Closed, At}

-- what stands before a number
abbrev pub part_in : Part → machine.Part
part_in (Piece levels) = machine.piece levels.items
part_in (Tuple levels number places steps) = machine.tuple levels.items number places.items steps.items
part_in (Inside levels steps) = machine.inside levels.items steps.items

-- what has been read
abbrev pub state_in : Reader → machine.State
state_in Root = machine.root
state_in (Closed levels number places) = machine.closed levels.items number places.items
state_in (At part number) = machine.at (part_in part) number

-- what is given is what the machine gives
abbrev pub Gives : {E : Type 0} → Result (Option Reader) E → Option machine.State → Type 0
Gives (Ok r) given = option_map state_in r ≡ given
Gives (Err e) given = Unit {0}
