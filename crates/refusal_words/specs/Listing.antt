-- Lists in words, each item on a line of its own.
use Rattle.std.specs.Prelude.{ℕ, List, ◌++◌, codes}
use Rattle.view_continuations.specs.declared.candidate.Candidate.{Candidate}
use Rattle.view_continuations.specs.Candidates.{name_of}

-- the line of an item: two blanks, the item and LF
abbrev pub item_line : List ℕ → List ℕ
item_line item = codes "  " ++ item ++ codes "\n"

-- the line of a candidate's name
abbrev pub candidate_line : Candidate → List ℕ
candidate_line c = item_line (name_of c)
