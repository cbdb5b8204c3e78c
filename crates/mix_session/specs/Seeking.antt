-- What a search comes to.
use Rattle.std.specs.Prelude.{◌≡◌, ◌<◌, ◌≤◌, ℕ, false, List, [], Option, Some, None}
use Rattle.mix_base.specs.Counts.{HasRisen}
use Rattle.mix_tree.specs.Forest.{LabelledTree}
use Rattle.mix_tree.specs.Place.{tree_at}
use Rattle.node_text.specs.Node.{NodeValue, IsFormed}
use Rattle.node_text.specs.Grammar.{Spells}
use Rattle.mix_script.specs.Names.{NamesOf, with_name}
use Rattle.mix_script.specs.Trails.{place_to}
use Rattle.mix_script.specs.Transcript.{Naming, move_answer, selected}
use Rattle.mix_script.specs.declared.step.Way.{Way}
use Rattle.mix_script.specs.declared.step.Way.TheVariants.{Down, Right}
use Rattle.mix_script.specs.declared.answer.Answer.{Answer}
use Rattle.mix_script.specs.declared.answer.Answer.TheVariants as answer
use Rattle.mix_session.specs.declared.walker.Found.{Found}
use Rattle.mix_session.specs.declared.walker.Found.TheVariants as found
use Rattle.mix_session.specs.Meaning.{Meaning}

-- a property holds of the node that a search found, if it found one
abbrev pub IfNode : {V : Type 0} → (V → Type 0) → Found V → Type 0
IfNode Is (found.Node n) = Is n
IfNode Is found.None = Unit {0}
IfNode Is (found.Fault s) = Unit {0}

-- what is said holds where no source failed
abbrev pub UnlessFault : {V : Type 0} → Type 0 → Found V → Type 0
UnlessFault Holds (found.Node n) = Holds
UnlessFault Holds found.None = Holds
UnlessFault Holds (found.Fault s) = Unit {0}

-- a value stands for a node to which a walk led
abbrev pub IsReached : {V W : Type 0} → Meaning V W → V → Type 0
IsReached m n = m.IsNode n × m.IsWalked n

-- a search found a node or none, or names as failed a source that may fail and whose count of faults rose
abbrev pub HasCause : {V : Type 0} → (ℕ → Type 0) → (ℕ → ℕ) → (ℕ → ℕ) → Found V → Type 0
HasCause MayFail before after (found.Node n) = Unit {0}
HasCause MayFail before after found.None = Unit {0}
HasCause MayFail before after (found.Fault s) = MayFail s × HasRisen (before s) (after s)

-- what was asked for exists and a given relation holds between it and the node that was found
abbrev pub IsAsked : {V W : Type 0} → (V → W → Type 0) → Option W → V → Type 0
IsAsked {V} {W} With goal n = (x : W) × (goal ≡ Some x) × With n x

-- the answer that a search becomes
abbrev pub answer_found : {V : Type 0} → Found V → Answer
answer_found (found.Node n) = answer.Node
answer_found found.None = answer.None
answer_found (found.Fault s) = answer.Fault s

-- a search for a place of a tree that no source failed found a node exactly where the tree has the place, and the node stands there
abbrev pub IsMoved : {V : Type 0} → (V → List ℕ → Type 0) → LabelledTree → Option (List ℕ) → Found V → Type 0
IsMoved IsAt t goal (found.Node n) = (move_answer t goal ≡ answer.Node) × IsAsked IsAt goal n
IsMoved IsAt t goal found.None = move_answer t goal ≡ answer.None
IsMoved IsAt t goal (found.Fault s) = Unit {0}

-- a text was followed over a document: a node was found that stands wherever the text names one, and it does; or it names none
abbrev pub IsNamedBy : {V : Type 0} → Naming → (V → List ℕ → Type 0) → NodeValue → Found V → Type 0
IsNamedBy NamesAt IsAt node (found.Node n) = (p : List ℕ) × NamesAt node p × ((q : List ℕ) → NamesAt node q → IsAt n q)
IsNamedBy NamesAt IsAt node found.None = (p : List ℕ) → NamesAt node p → ⊥
IsNamedBy NamesAt IsAt node (found.Fault s) = Unit {0}

-- what a search for the root comes to, with the counts of the sources' faults before and after it
pub record IsRoot {V W : Type 0} (m m' : Meaning V W) (before after : ℕ → ℕ) (r : Found V) : Type 0 where
  pub cause : HasCause m.course.MayFail before after r
  pub node : IfNode (IsReached m') r
  pub sure : m.course.roots ≡ false → answer_found r ≡ answer.Node
  pub place : (t : LabelledTree) → m.course.IsDocument t → IsMoved m'.IsAt t (Some []) r
  pub told : m.course.HasTolls → IfNode (IsAsked m'.IsTold (Some m.course.trail.first)) r

-- the numbers of a node fall with a step: a child's height is smaller; a next sibling's number `left` is smaller where a walk had led to the node, and its height
-- no greater
abbrev pub IsSmaller : {V W : Type 0} → Meaning V W → Meaning V W → Way → V → V → Type 0
IsSmaller m m' Down n c = m'.height c < m.height n
IsSmaller m m' Right n c = (m.IsWalked n → m'.left c < m.left n) × (m'.height c ≤ m.height n)

-- what a search for the first child or the next sibling of a node comes to, with the counts of the sources' faults before and after it
pub record IsNext {V W : Type 0} (m m' : Meaning V W) (before after : ℕ → ℕ) (way : Way) (n : V) (r : Found V) : Type 0 where
  pub cause : HasCause m.course.MayFail before after r
  pub node : IfNode (IsReached m') r
  pub place : (p : List ℕ) → m.IsAt n p → (t : LabelledTree) → m.course.IsDocument t → IsMoved m'.IsAt t (place_to way p) r
  pub told : (x : W) → m.IsTold n x → m.course.HasTolls → IfNode (IsAsked m'.IsTold (m.course.trail.to way x)) r
  pub smaller : IfNode (IsSmaller m m' way n) r
  pub paid : m.course.HasTolls → (p : List ℕ) → m.IsAt n p → UnlessFault (m'.owes n p ≡ 0) r

-- what a search among the later siblings of a node for the first one with a label comes to
pub record IsSelected {V W : Type 0} (m m' : Meaning V W) (before after : ℕ → ℕ) (label : List ℕ) (n : V) (r : Found V) : Type 0 where
  pub cause : HasCause m.course.MayFail before after r
  pub node : IfNode (IsReached m') r
  pub place : (p : List ℕ) → m.IsAt n p → (t : LabelledTree) → m.course.IsDocument t → IsMoved m'.IsAt t (selected t label p) r
  pub paid : m.course.HasTolls → (p : List ℕ) → m.IsAt n p → UnlessFault (m'.owes n p ≡ 0) r

-- what following a text comes to
pub record IsFollowed {V W : Type 0} (m m' : Meaning V W) (before after : ℕ → ℕ) (says : NodeValue) (r : Found V) : Type 0 where
  pub cause : HasCause m.course.MayFail before after r
  pub node : IfNode m'.IsNode r
  pub place : (t : LabelledTree) → m.course.IsDocument t → IsNamedBy m.course.NamesAt m'.IsAt says r

-- what the text of an identifier of a node says: something that a text can spell, and that names the node
pub record IsSaid {V W : Type 0} (m : Meaning V W) (n : V) (node : NodeValue) : Type 0 where
  pub formed : IsFormed node
  pub names : (p : List ℕ) → m.IsAt n p → (t : LabelledTree) → m.course.IsDocument t → m.course.NamesAt node p

-- a label is the document's at the place of a node
abbrev pub ReadsLabel : {V W : Type 0} → Meaning V W → V → List ℕ → Type 0
ReadsLabel m n label = (p : List ℕ) → m.IsAt n p → (t : LabelledTree) → m.course.IsDocument t → (u : LabelledTree) × (tree_at t p ≡ Some u) × (label ≡ u.label)

-- what names hold after a search: the given name holds what was found, or nothing; after a fault all hold what they held
abbrev pub names_found : {V : Type 0} → NamesOf V → List ℕ → List ℕ → Found V → NamesOf V
names_found names client name (found.Node n) = with_name names client name (Some n)
names_found names client name found.None = with_name names client name None
names_found names client name (found.Fault s) = names

-- the answer that following a text becomes
abbrev pub answer_followed : {V : Type 0} → Found V → Answer
answer_followed (found.Node n) = answer.Node
answer_followed found.None = answer.Foreign
answer_followed (found.Fault s) = answer.Fault s

-- what names hold after a text was followed: the given name holds the node that it names; where it names none, and after a fault, all hold what they held
abbrev pub names_followed : {V : Type 0} → NamesOf V → List ℕ → List ℕ → Found V → NamesOf V
names_followed names client name (found.Node n) = with_name names client name (Some n)
names_followed names client name found.None = names
names_followed names client name (found.Fault s) = names

-- an answer is the text of an identifier of a node
abbrev pub IsSpelled : {V W : Type 0} → Meaning V W → V → Answer → Type 0
IsSpelled m n answer.Node = ⊥
IsSpelled m n answer.None = ⊥
IsSpelled m n (answer.Label l) = ⊥
IsSpelled m n (answer.Text x) = ⊥
IsSpelled m n answer.NoNode = ⊥
IsSpelled m n (answer.Fault s) = ⊥
IsSpelled m n (answer.Id x) = (node : NodeValue) × Spells x node × IsSaid m n node
IsSpelled m n answer.Foreign = ⊥
