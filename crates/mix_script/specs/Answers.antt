-- The lines that tell answers.
use Rattle.std.specs.Prelude.{ℕ, ◌<◌, List, [], ◌∷◌, ◌++◌, get_or, codes}
use Rattle.mix_tree.specs.Spelling.{spelling}
use Rattle.mix_script.specs.declared.answer.Answer.{Answer}
use Rattle.mix_script.specs.declared.answer.Answer.TheVariants as answer

-- a fault's source is one of so many that have names
abbrev pub IsNamed : ℕ → Answer → Type 0
IsNamed count answer.Node = Unit {0}
IsNamed count answer.None = Unit {0}
IsNamed count (answer.Label l) = Unit {0}
IsNamed count (answer.Text x) = Unit {0}
IsNamed count answer.NoNode = Unit {0}
IsNamed count (answer.Fault source) = source < count
IsNamed count (answer.Id x) = Unit {0}
IsNamed count answer.Foreign = Unit {0}

-- the client's name and a colon, where the client has a name
abbrev pub prefix_of : List ℕ → List ℕ
prefix_of [] = []
prefix_of (b ∷ bs) = (b ∷ bs) ++ codes ": "

-- the text of an answer, where the sources have these names
abbrev pub answer_text : List (List ℕ) → Answer → List ℕ
answer_text sources answer.Node = codes "node"
answer_text sources answer.None = codes "none"
answer_text sources (answer.Label l) = codes "label " ++ spelling l
answer_text sources (answer.Text x) = codes "text " ++ x
answer_text sources answer.NoNode = codes "no node"
answer_text sources (answer.Fault source) = codes "fault " ++ get_or sources source []
answer_text sources (answer.Id x) = codes "id " ++ x
answer_text sources answer.Foreign = codes "foreign"

-- the line of a client's answer
abbrev pub line_of : List (List ℕ) → List ℕ → Answer → List ℕ
line_of sources client a = prefix_of client ++ answer_text sources a ++ codes "\n"
