-- What a state has read, and which states are read.
use Rattle.std.proofs.Common.{◌<◌, ℕ, IfSome, List, [], ◌∷◌, ◌++◌, length}
use Rattle.std.specs.List.{AllByRecursion}
use Rattle.std.specs.Fmt.{decimal}
use Rattle.node_text.specs.Node.{LevelValue, level, IsWord, AreWords}
use Rattle.node_text.specs.Grammar.{place_text, level_text, levels_text}
use Rattle.node_text.specs.Machine.{Part, piece, tuple, inside, State, root, closed, at}
use Rattle.node_text.proofs.Numbers.{number_text}
use Rattle.node_text.proofs.Texts.{each}

-- a place of a level: some numbers of 64 bits
abbrev pub IsPlace : List ℕ → Type 0
IsPlace p = AreWords p × (0 < length p)

-- a level whose places are not empty and whose numbers have 64 bits
pub record IsLevel (l : LevelValue) : Type 0 where
  pub piece : IsWord l.piece
  pub tuple : AllByRecursion IsPlace l.tuple

-- levels whose places are not empty and whose numbers have 64 bits
abbrev pub AreLevels : List LevelValue → Type 0
AreLevels ls = AllByRecursion IsLevel ls

-- what stands before a number has no empty place, and its numbers have 64 bits
abbrev pub IsPart : Part → Type 0
IsPart (piece ls) = AreLevels ls
IsPart (tuple ls n ps steps) = AreLevels ls × IsWord n × AllByRecursion IsPlace ps × AreWords steps
IsPart (inside ls steps) = AreLevels ls × AreWords steps × (0 < length ls)

-- a state has no empty place, and its numbers have 64 bits
abbrev pub IsState : State → Type 0
IsState root = Unit {0}
IsState (closed ls n ps) = AreLevels ls × IsWord n × AllByRecursion IsPlace ps
IsState (at part number) = IsPart part × IfSome number IsWord

-- the text before a number
abbrev pub part_text : Part → List ℕ
part_text (piece ls) = each 47 level_text ls
part_text (tuple ls n ps steps) = each 47 level_text ls ++ (decimal n ++ 40 ∷ (each 44 place_text ps ++ each 46 decimal steps))
part_text (inside ls steps) = levels_text ls ++ 58 ∷ each 46 decimal steps

-- the text of a state
abbrev pub state_text : State → List ℕ
state_text root = 45 ∷ []
state_text (closed ls n ps) = each 47 level_text ls ++ level_text (level n ps)
state_text (at part number) = part_text part ++ number_text number
