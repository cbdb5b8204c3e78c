-- The answers to steps on a finished document, what names hold after them, and the lines that tell them.
use Rattle.std.specs.Prelude.{◌≡◌, ℕ, Bool, true, false, IsTrue, cond, List, [], ◌∷◌, ◌++◌, Option, Some, None, MatchOption, is_some, option_and_then}
use Rattle.std.specs.Str.{bytes_eq}
use Rattle.mix_tree.specs.Forest.{Forest, none, tree, LabelledTree, alone, after_first}
use Rattle.mix_tree.specs.Place.{has_place, next_place, tree_at, trees_at}
use Rattle.bracket_text.specs.Canonical.{canon}
use Rattle.node_text.specs.Node.{NodeValue, IsFormed}
use Rattle.node_text.specs.Grammar.{node_text}
use Rattle.mix_script.specs.Names.{NamesOf, no_names}
use Rattle.mix_script.specs.Answers.{line_of}
use Rattle.mix_script.specs.Trails.{place_to, names_with}
use Rattle.mix_script.specs.declared.step.Act.{Act}
use Rattle.mix_script.specs.declared.step.Act.TheVariants.{Root, Move, Select, Fetch, Print, Id, At}
use Rattle.mix_script.specs.declared.step.Step.{Step}
use Rattle.mix_script.specs.declared.answer.Answer.{Answer}
use Rattle.mix_script.specs.declared.answer.Answer.TheVariants as answer

-- FINISHED DOCUMENTS

-- a finished document: its tree, and the place of the node that an identifier's text names, if it names one
pub record Finished : Type 0 where
  pub tree : LabelledTree
  pub named : NodeValue → Option (List ℕ)

-- a tree of whose nodes no text names one
abbrev pub unnamed : LabelledTree → Finished
unnamed t = record { tree = t; named = λ node. None }

-- which node a text names, by what it says: a relation to the nodes' places
abbrev pub Naming : Type 1
Naming = NodeValue → List ℕ → Type 0

-- what a text says names the node at a place, by a given relation, where it is said to name one, and else no node
abbrev pub IsSense : Naming → NodeValue → Option (List ℕ) → Type 0
IsSense NamesAt node place = MatchOption place ((p : List ℕ) → NamesAt node p → ⊥) (NamesAt node)

-- of the text that an act follows, if it follows one, a finished document says the right place
abbrev pub IsRightFor : Naming → Finished → Act → Type 0
IsRightFor NamesAt f (Root name) = Unit {0}
IsRightFor NamesAt f (Move way name from) = Unit {0}
IsRightFor NamesAt f (Select name from label) = Unit {0}
IsRightFor NamesAt f (Fetch from) = Unit {0}
IsRightFor NamesAt f (Print from) = Unit {0}
IsRightFor NamesAt f (Id from) = Unit {0}
IsRightFor NamesAt f (At name node) = IsSense NamesAt node (f.named node)

-- of each text that steps follow a finished document says the right place
abbrev pub IsRight : Naming → Finished → List Step → Type 0
IsRight NamesAt f [] = Unit {0}
IsRight NamesAt f (step ∷ steps) = IsRightFor NamesAt f step.act × IsRight NamesAt f steps

-- WHAT IS ASKED FOR

-- the places that the clients' names hold
abbrev pub Names : Type 0
Names = NamesOf (List ℕ)

-- the place of the first of these trees with a label, where they are the later siblings of the node at a place
abbrev pub first_labelled : List ℕ → Forest → List ℕ → Option (List ℕ)
first_labelled label none place = None
first_labelled label (tree other kids rest) place =
    cond (bytes_eq other label) (next_place place) (option_and_then (first_labelled label rest) (next_place place))

-- the place of the first later sibling of a node with a label
abbrev pub selected : LabelledTree → List ℕ → List ℕ → Option (List ℕ)
selected t label place = first_labelled label (after_first (trees_at (alone t) place)) place

-- the place that an act asks for: the root, or of the node at the place that its operand holds the first child, the next sibling, or the first later
-- sibling with a label, or the place of the node that a text names
abbrev pub goal_of : Finished → Names → List ℕ → Act → Option (List ℕ)
goal_of f names client (Root name) = Some []
goal_of f names client (Move way name from) = option_and_then (place_to way) (names client from)
goal_of f names client (Select name from label) = option_and_then (selected f.tree label) (names client from)
goal_of f names client (Fetch from) = None
goal_of f names client (Print from) = None
goal_of f names client (Id from) = None
goal_of f names client (At name node) = f.named node

-- ANSWERS

-- what an answer takes that no finished document tells: nothing, that a source failed, or the text of an identifier
pub data Note : Type 0 where
  nothing : Note
  failed : (source : ℕ) → Note
  spelled : (text : List ℕ) → Note

-- the answer where this place is asked for
abbrev pub move_answer : LabelledTree → Option (List ℕ) → Answer
move_answer t None = answer.None
move_answer t (Some place) = cond (has_place (alone t) place) answer.Node answer.None

-- the answer where the label of this tree is asked for
abbrev pub label_answer : Option LabelledTree → Answer
label_answer None = answer.NoNode
label_answer (Some t) = answer.Label t.label

-- the answer where the text of this tree is asked for
abbrev pub text_answer : Option LabelledTree → Answer
text_answer None = answer.NoNode
text_answer (Some t) = answer.Text (canon t)

-- the answer where the node is asked for that a text names
abbrev pub named_answer : Option (List ℕ) → Answer
named_answer None = answer.Foreign
named_answer (Some place) = answer.Node

-- the answer where the text of an identifier is asked for
abbrev pub id_answer : Note → Answer
id_answer nothing = answer.Id []
id_answer (failed source) = answer.Id []
id_answer (spelled text) = answer.Id text

-- no node where the operand's name holds no place, and else this answer
abbrev pub if_held : Option (List ℕ) → Answer → Answer
if_held None a = answer.NoNode
if_held (Some place) a = a

-- a fault of the source that failed, and where none did this answer
abbrev pub unless_failed : Note → Answer → Answer
unless_failed nothing a = a
unless_failed (failed source) a = answer.Fault source
unless_failed (spelled text) a = a

-- the answer to a client's act; that a source failed tells nothing at a fetch or an id
abbrev pub answer_of : Finished → Names → Note → List ℕ → Act → Answer
answer_of f names note client (Root name) = unless_failed note answer.Node
answer_of f names note client (Move way name from) =
    if_held (names client from) (unless_failed note (move_answer f.tree (goal_of f names client (Move way name from))))
answer_of f names note client (Select name from label) =
    if_held (names client from) (unless_failed note (move_answer f.tree (goal_of f names client (Select name from label))))
answer_of f names note client (Fetch from) = label_answer (option_and_then (tree_at f.tree) (names client from))
answer_of f names note client (Print from) =
    if_held (names client from) (unless_failed note (text_answer (option_and_then (tree_at f.tree) (names client from))))
answer_of f names note client (Id from) = if_held (names client from) (id_answer note)
answer_of f names note client (At name node) = unless_failed note (named_answer (f.named node))

-- the names after an answer: the act's name holds the place that was found or none, or all hold what they held
abbrev pub names_after : Finished → Names → List ℕ → Act → Answer → Names
names_after f names client act a = names_with (goal_of f names client act) names client act a

-- the answer to a step, and the names after it
abbrev pub answered : Finished → Names → Note → Step → Answer × Names
answered f names note step =
    let a = answer_of f names note step.client step.act in (a, names_after f names step.client step.act a)

-- TRANSCRIPTS

-- the note of the first step; where the list of notes has ended there is nothing
abbrev pub first_note : List Note → Note
first_note [] = nothing
first_note (note ∷ notes) = note

-- the notes of the steps after the first
abbrev pub later_notes : List Note → List Note
later_notes [] = []
later_notes (note ∷ notes) = notes

-- the lines that answer steps, where names hold this before them
abbrev pub lines_from : Finished → List (List ℕ) → Names → List Note → List Step → List ℕ
lines_from f sources names notes [] = []
lines_from f sources names notes (step ∷ steps) =
    let now = answered f names (first_note notes) step in
    line_of sources step.client now.0 ++ lines_from f sources now.1 (later_notes notes) steps

-- the lines that answer a script
abbrev pub transcript : Finished → List (List ℕ) → List Note → List Step → List ℕ
transcript f sources notes steps = lines_from f sources no_names notes steps

-- WHICH NOTES MAY STAND

-- whether a source may be said to have failed at an act: at one that asks for a node or a text and whose operand's name holds a place, at a root where
-- roots may be, and where a text is followed
abbrev pub may_fail : Bool → Names → List ℕ → Act → Bool
may_fail roots names client (Root name) = roots
may_fail roots names client (Move way name from) = is_some (names client from)
may_fail roots names client (Select name from label) = is_some (names client from)
may_fail roots names client (Fetch from) = false
may_fail roots names client (Print from) = is_some (names client from)
may_fail roots names client (Id from) = false
may_fail roots names client (At name node) = true

-- an act is answered without the text of an identifier: it asks for none, or its operand's name holds no place
abbrev pub NeedsNoText : Names → List ℕ → Act → Type 0
NeedsNoText names client (Root name) = Unit {0}
NeedsNoText names client (Move way name from) = Unit {0}
NeedsNoText names client (Select name from label) = Unit {0}
NeedsNoText names client (Fetch from) = Unit {0}
NeedsNoText names client (Print from) = Unit {0}
NeedsNoText names client (Id from) = is_some (names client from) ≡ false
NeedsNoText names client (At name node) = Unit {0}

-- a text is that of an identifier which names the node at a place, by a given relation
abbrev pub IsTextOf : Naming → List ℕ → List ℕ → Type 0
IsTextOf NamesAt text place = (node : NodeValue) × IsFormed node × (node_text node ≡ text) × NamesAt node place

-- a text answers an act: it is one of an identifier of the node at the place that the operand's name holds
abbrev pub IsTextFor : Naming → Names → List ℕ → Act → List ℕ → Type 0
IsTextFor NamesAt names client (Root name) text = ⊥
IsTextFor NamesAt names client (Move way name from) text = ⊥
IsTextFor NamesAt names client (Select name from label) text = ⊥
IsTextFor NamesAt names client (Fetch from) text = ⊥
IsTextFor NamesAt names client (Print from) text = ⊥
IsTextFor NamesAt names client (Id from) text = MatchOption (names client from) ⊥ (IsTextOf NamesAt text)
IsTextFor NamesAt names client (At name node) text = ⊥

-- a note that stands only where it may: a fault where a source may fail, and at an id a text that names its node
abbrev pub MayBeNoted : Bool → Naming → Names → Step → Note → Type 0
MayBeNoted roots NamesAt names step nothing = NeedsNoText names step.client step.act
MayBeNoted roots NamesAt names step (failed source) = IsTrue (may_fail roots names step.client step.act)
MayBeNoted roots NamesAt names step (spelled text) = IsTextFor NamesAt names step.client step.act text

-- notes that stand only at steps where they may
abbrev pub AreNotes : Bool → Naming → Finished → Names → List Note → List Step → Type 0
AreNotes roots NamesAt f names notes [] = Unit {0}
AreNotes roots NamesAt f names notes (step ∷ steps) =
    let after = (answered f names (first_note notes) step).1 in
    MayBeNoted roots NamesAt names step (first_note notes) × AreNotes roots NamesAt f after (later_notes notes) steps

-- whether a note says that a source failed
abbrev pub is_failed : Note → Bool
is_failed nothing = false
is_failed (failed source) = true
is_failed (spelled text) = false

-- no note says that a source failed
abbrev pub NoneFailed : List Note → Type 0
NoneFailed [] = Unit {0}
NoneFailed (note ∷ notes) = (is_failed note ≡ false) × NoneFailed notes
