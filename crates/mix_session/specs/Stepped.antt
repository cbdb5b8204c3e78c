-- What one step comes to.
use Rattle.std.specs.Prelude.{◌≡◌, ◌≤◌, ◌+◌, ℕ, IsTrue, List, [], ◌∷◌, Option, Some, None, Result, IfOk, OnErr}
use Rattle.std.specs.declared.alloc.AllocError.{AllocError}
use Rattle.mix_base.specs.Counts.{HasRisenBy}
use Rattle.mix_tree.specs.Forest.{LabelledTree}
use Rattle.node_text.specs.Node.{NodeValue}
use Rattle.lxp_core.specs.View.{View}
use Rattle.mix_script.specs.Names.{NamesOf}
use Rattle.mix_script.specs.Trails.{takes_one_way, with_named, names_on}
use Rattle.mix_script.specs.Transcript.{Finished, IsRightFor, Names, answer_of, names_after}
use Rattle.mix_script.specs.Allowed.{Nodes, MayAnswer, nodes_after, mark_of, note_of, faults_of}
use Rattle.mix_script.specs.Finished.{IsTold}
use Rattle.mix_script.specs.declared.step.Act.{Act}
use Rattle.mix_script.specs.declared.step.Act.TheVariants.{Root, Move, Select, Fetch, Print, Id, At}
use Rattle.mix_script.specs.declared.step.Step.{Step}
use Rattle.mix_script.specs.declared.step.Way.{Way}
use Rattle.mix_script.specs.declared.answer.Answer.{Answer}
use Rattle.mix_script.specs.declared.answer.Answer.TheVariants as answer
use Rattle.mix_session.specs.Meaning.{Course, Meaning, Stays}
use Rattle.mix_session.specs.Held.{HoldNodes, HoldPlaces, HoldTold, IsSession}
use Rattle.mix_session.specs.Printing.{place_toll}
use Rattle.mix_session.specs.Tolls.{toll_from, select_toll, print_toll}

-- what is owed for what a name holds, of the node at a place
abbrev pub owed_for : {V W : Type 0} → Meaning V W → Option V → Option (List ℕ) → ℕ
owed_for m None place = 0
owed_for m (Some n) None = 0
owed_for m (Some n) (Some p) = m.owes n p

-- what is owed before a client's act: for what its operand's name holds, where a step is to be taken from that
abbrev pub owed_before : {V W : Type 0} → Meaning V W → NamesOf V → Names → List ℕ → Act → ℕ
owed_before m values places client (Root name) = 0
owed_before m values places client (Move way name from) = owed_for m (values client from) (places client from)
owed_before m values places client (Select name from label) = owed_for m (values client from) (places client from)
owed_before m values places client (Fetch from) = 0
owed_before m values places client (Print from) = owed_for m (values client from) (places client from)
owed_before m values places client (Id from) = 0
owed_before m values places client (At name node) = 0

-- a course lets an act be answered: one that writes an identifier down where texts can be told, and one that follows a text where texts can be followed
abbrev pub Lets : {W : Type 0} → Course W → Act → Type 0
Lets c (Root name) = Unit {0}
Lets c (Move way name from) = Unit {0}
Lets c (Select name from label) = Unit {0}
Lets c (Fetch from) = Unit {0}
Lets c (Print from) = Unit {0}
Lets c (Id from) = c.Tells
Lets c (At name node) = c.Follows

-- a course lets each of some steps be answered
abbrev pub LetsAll : {W : Type 0} → Course W → List Step → Type 0
LetsAll c [] = Unit {0}
LetsAll c (step ∷ steps) = Lets c step.act × LetsAll c steps

-- a client's act was answered: the answer may be given, a fault by a source that may fail alone; where a tree is the document,
-- it is that of the document under the note that it shows; the names hold what they should then; unless a source failed, nothing is owed
-- any more for the node of which it was asked; and the count of a source that it says has failed rose
pub record IsStep {V W : Type 0} (m m' : Meaning V W) (before after : ℕ → ℕ) (values values' : NamesOf V) (client : List ℕ) (act : Act) (a : Answer) : Type 0 where
  pub allowed : (nodes : Nodes) → HoldNodes m values nodes
      → MayAnswer m.course.roots m.course.MayFail nodes client act a × HoldNodes m' values' (nodes_after nodes client act a)
  pub told : (f : Finished) → m.course.IsDocument f.tree → IsRightFor m.course.NamesAt f act → (places : Names) → HoldPlaces m values places
      → (a ≡ answer_of f places (note_of a) client act) × IsTold m.course.NamesAt places client act a × HoldPlaces m' values' (names_after f places client act a)
  pub trail : IsTrue (takes_one_way act) → m.course.HasTolls → (xs : NamesOf W) → HoldTold m values xs → HoldTold m' values' (names_on m.course.trail xs client act a)
  pub paid : m.course.HasTolls → (t : LabelledTree) → m.course.IsDocument t → (places : Names) → HoldPlaces m values places → mark_of a ≡ None
      → owed_before m' values places client act ≡ 0
  pub counted : (s : ℕ) → HasRisenBy (faults_of s (a ∷ [])) (before s) (after s)

-- a walk led to the node that an act found, unless the act followed a text
abbrev pub IsLedTo : {V W : Type 0} → Meaning V W → Act → V → Type 0
IsLedTo m (Root name) n = m.IsWalked n
IsLedTo m (Move way name from) n = m.IsWalked n
IsLedTo m (Select name from label) n = m.IsWalked n
IsLedTo m (Fetch from) n = Unit {0}
IsLedTo m (Print from) n = Unit {0}
IsLedTo m (Id from) n = Unit {0}
IsLedTo m (At name node) n = Unit {0}

-- what names hold after an answer: the act's name holds a node that was found, or nothing where there is none; after every
-- other answer all hold what they held
abbrev pub NamesGiven : {V W : Type 0} → Meaning V W → NamesOf V → NamesOf V → List ℕ → Act → Answer → Type 0
NamesGiven {V} m values values' client act answer.Node = (n : V) × IsLedTo m act n × (values' ≡ with_named values client act (Some n))
NamesGiven m values values' client act answer.None = values' ≡ with_named values client act None
NamesGiven m values values' client act (answer.Label l) = values' ≡ values
NamesGiven m values values' client act (answer.Text x) = values' ≡ values
NamesGiven m values values' client act answer.NoNode = values' ≡ values
NamesGiven m values values' client act (answer.Fault s) = values' ≡ values
NamesGiven m values values' client act (answer.Id x) = values' ≡ values
NamesGiven m values values' client act answer.Foreign = values' ≡ values

-- the toll of a client's act that takes at most one way, computed from what is told of the nodes that names hold
abbrev pub act_toll : {W : Type 0} → Course W → NamesOf W → List ℕ → Act → ℕ
act_toll c xs client (Root name) = c.root_toll
act_toll c xs client (Move way name from) = toll_from (c.toll way) (xs client from)
act_toll c xs client (Select name from label) = 0
act_toll c xs client (Fetch from) = 0
act_toll c xs client (Print from) = 0
act_toll c xs client (Id from) = 0
act_toll c xs client (At name node) = 0

-- the toll of a client's act on a tree, where names hold these places; the toll of the root, those of ways from places and the reaches of texts are given
abbrev pub act_toll_by : ℕ → (Way → List ℕ → ℕ) → (NodeValue → ℕ) → LabelledTree → Names → List ℕ → Act → ℕ
act_toll_by root toll reach t places client (Root name) = root
act_toll_by root toll reach t places client (Move way name from) = toll_from (toll way) (places client from)
act_toll_by root toll reach t places client (Select name from label) = toll_from (select_toll toll t label) (places client from)
act_toll_by root toll reach t places client (Fetch from) = 0
act_toll_by root toll reach t places client (Print from) = toll_from (print_toll toll t) (places client from)
act_toll_by root toll reach t places client (Id from) = 0
act_toll_by root toll reach t places client (At name node) = reach node

-- the toll of a client's act on a tree that is the document, where names hold given places
abbrev pub tree_toll : {W : Type 0} → Course W → LabelledTree → Names → List ℕ → Act → ℕ
tree_toll c = act_toll_by c.root_toll (place_toll c) c.reach

-- an act that takes at most one way asked at most as many fills as its toll says
abbrev pub IsTolled : {V W : Type 0} → Meaning V W → ℕ → ℕ → NamesOf V → List ℕ → Act → Type 0
IsTolled {V} {W} m fills fills' values client act =
    IsTrue (takes_one_way act) → m.course.HasTolls → (xs : NamesOf W) → HoldTold m values xs → fills' ≤ fills + act_toll m.course xs client act

-- an act on a tree that is the document asked at most as many fills as are owed before it and its toll on that tree says
abbrev pub IsTolledOn : {V W : Type 0} → Meaning V W → ℕ → ℕ → NamesOf V → List ℕ → Act → Type 0
IsTolledOn m fills fills' values client act =
    m.course.HasTolls → (t : LabelledTree) → m.course.IsDocument t → (places : Names) → HoldPlaces m values places → fills' ≤ fills + (owed_before m values places client act + tree_toll m.course t places client act)

-- what one step of a session leaves, whatever it answers, and what it cost; where memory ran out the names hold what they held
pub record Stepped {V W : Type 0} (m m' : Meaning V W) (v v' : View) (values values' : NamesOf V) (client : List ℕ) (act : Act) (r : Result Answer AllocError) : Type 0 where
  pub session : IsSession m' values'
  pub stays : Stays m m'
  pub answer : IfOk r (IsStep m m' v.faults v'.faults values values' client act)
  pub names : IfOk r (NamesGiven m' values values' client act)
  pub still : OnErr r (values' ≡ values)
  pub toll : IsTolled m v.fills v'.fills values client act
  pub cost : IsTolledOn m v.fills v'.fills values client act
