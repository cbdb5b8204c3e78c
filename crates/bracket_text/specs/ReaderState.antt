-- The reader's values as states of the machine, and what its calls do to them.
use Rattle.std.specs.Prelude.{◌≡◌, ℕ, ◌<◌, ◌≤◌, List, [], ◌∷◌, ◌++◌, length, drop, Option, Some, None, Result, Ok, Err}
use Rattle.std.specs.Str.{IsCharBoundary}
use Rattle.mix_tree.specs.Forest.{Forest, LabelledTree, forest_of, alone}
use Rattle.mix_tree.specs.LabelMachine as spelled
use Rattle.document_store.specs.Laid.{LaidNode, bare_node, laid, IsDocument}
use Rattle.bracket_text.specs.Machine as machine
use Rattle.bracket_text.specs.declared.reader.Mode.{Mode}
use Rattle.bracket_text.specs.declared.reader.Mode.TheVariants.{Start, First, Named, Closed}
use Rattle.bracket_text.specs.declared.reader.Reader.{Reader}
use Rattle.bracket_text.specs.declared.fault.BracketFault.{BracketFault}
use Rattle.bracket_text.specs.declared.fault.BracketFault.TheVariants.{NotUtf8, Unexpected, TooDeep, Ends, OutOfMemory}

-- the nodes of the open trees and of their whole children, after the document node
abbrev pub open_nodes : List machine.Frame → List LaidNode
open_nodes [] = bare_node [] ∷ []
open_nodes (f ∷ o) = laid (forest_of f.kids) ++ bare_node f.label ∷ open_nodes o

-- the places of the open trees, counted from the document node
abbrev pub places : List machine.Frame → List ℕ
places [] = []
places (f ∷ o) = places o ++ length (open_nodes o) ∷ []

-- some nodes lie after those of the open trees
pub record Lies (nodes : List LaidNode) (opened : List ℕ) (hand : List LaidNode) (o : List machine.Frame) : Type 0 where
  pub nodes_are : nodes ≡ hand ++ open_nodes o
  pub places_are : opened ≡ places o

-- all children of the innermost open tree are whole
pub record Shuts (nodes : List LaidNode) (opened : List ℕ) (label : List ℕ) (kids : Forest) (o : List machine.Frame) : Type 0 where
  pub nodes_are : nodes ≡ laid kids ++ bare_node label ∷ open_nodes o
  pub places_are : opened ≡ places o ++ length (open_nodes o) ∷ []

-- the reader has a whole tree at hand
abbrev pub HasTree : Reader → LabelledTree → List machine.Frame → Type 0
HasTree r t o = Lies r.store r.«open».items (laid (alone t)) o

-- the reader has read all children of the innermost open tree
abbrev pub HasAllKids : Reader → LabelledTree → List machine.Frame → Type 0
HasAllKids r t o = Shuts r.store r.«open».items t.label t.kids o

-- the nodes of the tree at hand
abbrev pub hand_nodes : machine.Mode → List LaidNode
hand_nodes machine.start = []
hand_nodes machine.first = []
hand_nodes (machine.spelling s) = []
hand_nodes (machine.named l) = bare_node l ∷ []
hand_nodes (machine.closed t) = laid (alone t)

-- the mode of the reader is that of the machine
abbrev pub SameMode : Mode → machine.Mode → Type 0
SameMode m machine.start = m ≡ Start
SameMode m machine.first = m ≡ First
SameMode m (machine.spelling s) = ⊥
SameMode m (machine.named l) = m ≡ Named
SameMode m (machine.closed t) = m ≡ Closed

-- the reader holds what the machine has read
pub record Holds (r : Reader) (o : List machine.Frame) (m : machine.Mode) : Type 0 where
  pub lies : Lies r.store r.«open».items (hand_nodes m) o
  pub same : SameMode r.mode m

-- in the mode a tree may begin
abbrev pub MayBegin : Mode → Type 0
MayBegin Start = Unit {0}
MayBegin First = Unit {0}
MayBegin Named = ⊥
MayBegin Closed = ⊥

-- the byte at the place does not fit, unless memory ran out
abbrev pub GivesStop : BracketFault → ℕ → Option machine.State → Type 0
GivesStop (NotUtf8 i) at given = ⊥
GivesStop (Unexpected i) at given = (i ≡ at) × (given ≡ None)
GivesStop (TooDeep i) at given = ⊥
GivesStop Ends at given = ⊥
GivesStop OutOfMemory at given = Unit {0}

-- a call leaves what the machine's state says, or names the byte at the place
abbrev pub Gives : Result Unit BracketFault → ℕ → Reader → Option machine.State → Type 0
Gives (Ok u) at r given = (t : machine.State) × (given ≡ Some t) × Holds r t.open' t.mode
Gives (Err e) at r given = GivesStop e at given

-- the fault is what the machine says, unless memory ran out
abbrev pub GivesFault : BracketFault → machine.Verdict → Type 0
GivesFault (NotUtf8 i) said = ⊥
GivesFault (Unexpected i) said = said ≡ machine.unexpected i
GivesFault (TooDeep i) said = said ≡ machine.too_deep i
GivesFault Ends said = said ≡ machine.ends
GivesFault OutOfMemory said = Unit {0}

-- the result is what the machine says, unless memory ran out
abbrev pub GivesVerdict : Result LabelledTree BracketFault → machine.Verdict → Type 0
GivesVerdict (Ok t) said = said ≡ machine.reads t
GivesVerdict (Err e) said = GivesFault e said

-- the result is the document of what the machine says, unless memory ran out
abbrev pub GivesDocument : Result (List LaidNode) BracketFault → machine.Verdict → Type 0
GivesDocument (Ok d) said = (t : LabelledTree) × (said ≡ machine.reads t) × IsDocument d t
GivesDocument (Err e) said = GivesFault e said

-- what a call took of a text leaves what the machine says in the end
pub record Went (text : List ℕ) (at next : ℕ) (s : machine.State) (r : Reader) : Type 0 where
  pub state : machine.State
  pub order : at < next
  pub inside : next ≤ length text
  pub boundary : IsCharBoundary text next
  pub same : machine.verdict s at (drop at text) ≡ machine.verdict state next (drop next text)
  pub holds : Holds r state.open' state.mode

-- what a call took of a text leaves what the machine says in the end, or its fault is what the machine says
abbrev pub Goes : List ℕ → ℕ → Result ℕ BracketFault → machine.State → Reader → Type 0
Goes text at (Ok next) s r = Went text at next s r
Goes text at (Err e) s r = GivesFault e (machine.verdict s at (drop at text))

-- the fault is what is seen of a label, unless memory ran out
abbrev pub IsSeenFault : BracketFault → spelled.Seen → Type 0
IsSeenFault (NotUtf8 i) seen = ⊥
IsSeenFault (Unexpected i) seen = seen ≡ spelled.unexpected i
IsSeenFault (TooDeep i) seen = ⊥
IsSeenFault Ends seen = seen ≡ spelled.ends
IsSeenFault OutOfMemory seen = Unit {0}

-- the label that is seen of a text was put in after some nodes
pub record Pushed (text : List ℕ) (at end : ℕ) (seen : spelled.Seen) (old new : List LaidNode) : Type 0 where
  pub label : List ℕ
  pub nodes : new ≡ bare_node label ∷ old
  pub next : at < end
  pub inside : end ≤ length text
  pub boundary : IsCharBoundary text end
  pub seen_is : seen ≡ spelled.got label end (drop end text)

-- the label that is seen of a text was put in after some nodes, or the fault says why not
abbrev pub Pushes : List ℕ → ℕ → spelled.Seen → Result ℕ BracketFault → List LaidNode → List LaidNode → Type 0
Pushes text at seen (Ok end) old new = Pushed text at end seen old new
Pushes text at seen (Err e) old new = IsSeenFault e seen
