-- Which answers steps may have, whatever the document is.
use Rattle.std.specs.Prelude.{◌≡◌, ℕ, ◌+◌, ◌==◌, Bool, true, false, ◌||◌, List, [], ◌∷◌, ◌++◌, Option, Some, None, is_some, cond}
use Rattle.mix_script.specs.Names.{NamesOf}
use Rattle.mix_script.specs.Answers.{line_of}
use Rattle.mix_script.specs.Trails.{names_with}
use Rattle.mix_script.specs.Transcript.{Note, nothing, failed, spelled}
use Rattle.bracket_text.specs.Canonical.{canon}
use Rattle.node_text.specs.Node.{NodeValue}
use Rattle.node_text.specs.Grammar.{Spells}
use Rattle.mix_tree.specs.Forest.{LabelledTree}
use Rattle.mix_script.specs.declared.step.Act.{Act}
use Rattle.mix_script.specs.declared.step.Act.TheVariants.{Root, Move, Select, Fetch, Print, Id, At}
use Rattle.mix_script.specs.declared.step.Step.{Step}
use Rattle.mix_script.specs.declared.answer.Answer.{Answer}
use Rattle.mix_script.specs.declared.answer.Answer.TheVariants as answer

-- which names of each client hold a node
abbrev pub Nodes : Type 0
Nodes = NamesOf (Unit {0})

-- the answers to a command that seeks a node: a node, or none, or a fault of a source that has this property
abbrev pub MayFind : (ℕ → Type 0) → Answer → Type 0
MayFind MayFail answer.Node = Unit {0}
MayFind MayFail answer.None = Unit {0}
MayFind MayFail (answer.Label l) = ⊥
MayFind MayFail (answer.Text x) = ⊥
MayFind MayFail answer.NoNode = ⊥
MayFind MayFail (answer.Fault s) = MayFail s
MayFind MayFail (answer.Id x) = ⊥
MayFind MayFail answer.Foreign = ⊥

-- the answers to a command that goes to the root: where the root is sought in a source those of any search, and else a node
abbrev pub MayFindRoot : Bool → (ℕ → Type 0) → Answer → Type 0
MayFindRoot true MayFail a = MayFind MayFail a
MayFindRoot false MayFail a = a ≡ answer.Node

-- the answers to a command that reads a label
abbrev pub MayRead : Answer → Type 0
MayRead answer.Node = ⊥
MayRead answer.None = ⊥
MayRead (answer.Label l) = Unit {0}
MayRead (answer.Text x) = ⊥
MayRead answer.NoNode = ⊥
MayRead (answer.Fault s) = ⊥
MayRead (answer.Id x) = ⊥
MayRead answer.Foreign = ⊥

-- the answers to a command that prints a subtree: the canonical text of a tree, or a fault of a source that has this property
abbrev pub MayPrint : (ℕ → Type 0) → Answer → Type 0
MayPrint MayFail answer.Node = ⊥
MayPrint MayFail answer.None = ⊥
MayPrint MayFail (answer.Label l) = ⊥
MayPrint MayFail (answer.Text x) = (t : LabelledTree) × (x ≡ canon t)
MayPrint MayFail answer.NoNode = ⊥
MayPrint MayFail (answer.Fault s) = MayFail s
MayPrint MayFail (answer.Id x) = ⊥
MayPrint MayFail answer.Foreign = ⊥

-- the answers to a command that writes an identifier down: a text of what an identifier says
abbrev pub MaySpell : Answer → Type 0
MaySpell answer.Node = ⊥
MaySpell answer.None = ⊥
MaySpell (answer.Label l) = ⊥
MaySpell (answer.Text x) = ⊥
MaySpell answer.NoNode = ⊥
MaySpell (answer.Fault s) = ⊥
MaySpell (answer.Id x) = (node : NodeValue) × Spells x node
MaySpell answer.Foreign = ⊥

-- the answers to a command that follows a text: a node, or that it names none, or a fault of a source that has this property
abbrev pub MayFollow : (ℕ → Type 0) → Answer → Type 0
MayFollow MayFail answer.Node = Unit {0}
MayFollow MayFail answer.None = ⊥
MayFollow MayFail (answer.Label l) = ⊥
MayFollow MayFail (answer.Text x) = ⊥
MayFollow MayFail answer.NoNode = ⊥
MayFollow MayFail (answer.Fault s) = MayFail s
MayFollow MayFail (answer.Id x) = ⊥
MayFollow MayFail answer.Foreign = Unit {0}

-- no node is answered exactly where the operand's name holds none
abbrev pub WhereHeld : Option (Unit {0}) → (Answer → Type 0) → Answer → Type 0
WhereHeld None May a = a ≡ answer.NoNode
WhereHeld (Some node) May a = May a

-- the answers to a client's act, where names hold nodes like this; whether the root is sought in a source
abbrev pub MayAnswer : Bool → (ℕ → Type 0) → Nodes → List ℕ → Act → Answer → Type 0
MayAnswer roots MayFail nodes client (Root name) a = MayFindRoot roots MayFail a
MayAnswer roots MayFail nodes client (Move way name from) a = WhereHeld (nodes client from) (MayFind MayFail) a
MayAnswer roots MayFail nodes client (Select name from label) a = WhereHeld (nodes client from) (MayFind MayFail) a
MayAnswer roots MayFail nodes client (Fetch from) a = WhereHeld (nodes client from) MayRead a
MayAnswer roots MayFail nodes client (Print from) a = WhereHeld (nodes client from) (MayPrint MayFail) a
MayAnswer roots MayFail nodes client (Id from) a = WhereHeld (nodes client from) MaySpell a
MayAnswer roots MayFail nodes client (At name node) a = MayFollow MayFail a

-- which names hold a node after an answer: the act's name after a node and not after none, and else those that did
abbrev pub nodes_after : Nodes → List ℕ → Act → Answer → Nodes
nodes_after nodes client act a = names_with (Some tt) nodes client act a

-- answers to the first of these steps, each of which its step may have after those before it
abbrev pub AreAnswers : Bool → (ℕ → Type 0) → Nodes → List Answer → List Step → Type 0
AreAnswers roots MayFail nodes [] steps = Unit {0}
AreAnswers roots MayFail nodes (a ∷ answers) [] = ⊥
AreAnswers roots MayFail nodes (a ∷ answers) (step ∷ steps) =
    MayAnswer roots MayFail nodes step.client step.act a × AreAnswers roots MayFail (nodes_after nodes step.client step.act a) answers steps

-- the lines that tell answers to the first of these steps
abbrev pub answer_lines : List (List ℕ) → List Answer → List Step → List ℕ
answer_lines names [] steps = []
answer_lines names (a ∷ answers) [] = []
answer_lines names (a ∷ answers) (step ∷ steps) = line_of names step.client a ++ answer_lines names answers steps

-- the source that an answer says has failed
abbrev pub mark_of : Answer → Option ℕ
mark_of answer.Node = None
mark_of answer.None = None
mark_of (answer.Label l) = None
mark_of (answer.Text x) = None
mark_of answer.NoNode = None
mark_of (answer.Fault s) = Some s
mark_of (answer.Id x) = None
mark_of answer.Foreign = None

-- the note that an answer shows
abbrev pub note_of : Answer → Note
note_of answer.Node = nothing
note_of answer.None = nothing
note_of (answer.Label l) = nothing
note_of (answer.Text x) = nothing
note_of answer.NoNode = nothing
note_of (answer.Fault s) = failed s
note_of (answer.Id x) = spelled x
note_of answer.Foreign = nothing

-- the notes that answers show
abbrev pub notes_of : List Answer → List Note
notes_of [] = []
notes_of (a ∷ answers) = note_of a ∷ notes_of answers

-- whether an answer is a fault
abbrev pub is_fault : Answer → Bool
is_fault a = is_some (mark_of a)

-- whether one of these answers is a fault
abbrev pub has_fault : List Answer → Bool
has_fault [] = false
has_fault (a ∷ answers) = is_fault a || has_fault answers

-- whether a mark names this source
abbrev pub is_mark_of : ℕ → Option ℕ → Bool
is_mark_of s None = false
is_mark_of s (Some n) = n == s

-- how many of these answers are faults of this source
abbrev pub faults_of : ℕ → List Answer → ℕ
faults_of s [] = 0
faults_of s (a ∷ answers) = cond (is_mark_of s (mark_of a)) 1 0 + faults_of s answers

-- the sum of what the first of these steps cost, which were answered so, and the step after them, which was begun, where
-- names hold this before them; an act's cost and the names after it are given
abbrev pub begun : {V : Type 0} → (NamesOf V → List ℕ → Act → ℕ) → (NamesOf V → List ℕ → Act → Answer → NamesOf V) → NamesOf V → List Answer → List Step → ℕ
begun cost after names [] [] = 0
begun cost after names [] (step ∷ steps) = cost names step.client step.act
begun cost after names (a ∷ answers) [] = 0
begun cost after names (a ∷ answers) (step ∷ steps) = cost names step.client step.act + begun cost after (after names step.client step.act a) answers steps

-- what the answer to an act adds to the walk charges of the nodes that texts named: that of its own node, where its text named one
abbrev pub charge_of : (NodeValue → ℕ) → Act → Answer → ℕ
charge_of charge (Root name) a = 0
charge_of charge (Move way name from) a = 0
charge_of charge (Select name from label) a = 0
charge_of charge (Fetch from) a = 0
charge_of charge (Print from) a = 0
charge_of charge (Id from) a = 0
charge_of charge (At name node) answer.Node = charge node
charge_of charge (At name node) answer.None = 0
charge_of charge (At name node) (answer.Label l) = 0
charge_of charge (At name node) (answer.Text x) = 0
charge_of charge (At name node) answer.NoNode = 0
charge_of charge (At name node) (answer.Fault s) = 0
charge_of charge (At name node) (answer.Id x) = 0
charge_of charge (At name node) answer.Foreign = 0

-- what nodes that texts named may cost, beside the tolls, by the answers to the first of these steps, where those named before have
-- this sum of walk charges: each node its walk charge once, and once more for each fault behind it
abbrev pub walks_owed : (NodeValue → ℕ) → ℕ → List Answer → List Step → ℕ
walks_owed charge before [] steps = 0
walks_owed charge before (a ∷ answers) [] = 0
walks_owed charge before (a ∷ answers) (step ∷ steps) =
    let own = charge_of charge step.act a in
    (own + cond (is_fault a) before 0) + walks_owed charge (before + own) answers steps
