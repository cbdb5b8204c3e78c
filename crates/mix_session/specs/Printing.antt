-- What printing comes to.
use Rattle.std.specs.Prelude.{◌≡◌, ◌≤◌, ◌+◌, ℕ, true, List, [], ◌∷◌, ◌++◌, Option, Some, None, Result, Ok, Err, IfSome}
use Rattle.mix_base.specs.Counts.{HasRisen}
use Rattle.mix_tree.specs.Forest.{Forest, tree, LabelledTree, alone}
use Rattle.mix_tree.specs.Place.{has_place, tree_at, trees_at}
use Rattle.mix_tree.specs.Spelling.{spelling}
use Rattle.bracket_text.specs.Canonical.{canon, canon_trees}
use Rattle.lxp_core.specs.View.{View}
use Rattle.lxp_core.specs.declared.fault.WalkFault.{WalkFault}
use Rattle.lxp_core.specs.declared.fault.WalkFault.TheVariants.{Failed, OutOfMemory}
use Rattle.mix_script.specs.Trails.{place_to}
use Rattle.mix_script.specs.declared.step.Way.{Way}
use Rattle.mix_script.specs.declared.step.Way.TheVariants.{Down, Right}
use Rattle.mix_script.specs.declared.answer.Answer.{Answer}
use Rattle.mix_script.specs.declared.answer.Answer.TheVariants as answer
use Rattle.mix_session.specs.declared.walker.Found.{Found}
use Rattle.mix_session.specs.declared.walker.Found.TheVariants as found
use Rattle.mix_session.specs.Meaning.{Course, Meaning, Stays}
use Rattle.mix_session.specs.Seeking.{IsMoved, IsReached, IsSmaller, ReadsLabel}

-- the toll of a way from a place of the document
abbrev pub place_toll : {W : Type 0} → Course W → Way → List ℕ → ℕ
place_toll c way p = c.toll way (c.at p)

-- a walk answers, or is refused for want of memory or by a source that may fail and whose count of faults rose
abbrev pub FailsBy : {X : Type 0} → (ℕ → Type 0) → (ℕ → ℕ) → (ℕ → ℕ) → Result X WalkFault → Type 0
FailsBy MayFail before after (Ok x) = Unit {0}
FailsBy MayFail before after (Err (Failed s)) = MayFail s × HasRisen (before s) (after s)
FailsBy MayFail before after (Err OutOfMemory) = Unit {0}

-- the canonical text of a tree was put after a text; where a node stands at a place of the document, it is the subtree there
pub record PrintsTree {V W : Type 0} (m : Meaning V W) (n : V) (before after : List ℕ) : Type 0 where
  pub subtree : LabelledTree
  pub text : after ≡ before ++ canon subtree
  pub place : (p : List ℕ) → m.IsAt n p → (t : LabelledTree) → m.course.IsDocument t → tree_at t p ≡ Some subtree

-- the canonical texts of the subtrees of a node and of its later siblings were put after a text, with commas between them
pub record PrintsTrees {V W : Type 0} (m : Meaning V W) (n : V) (before after : List ℕ) : Type 0 where
  pub label : List ℕ
  pub kids : Forest
  pub rest : Forest
  pub text : after ≡ before ++ canon_trees (tree label kids rest)
  pub place : (p : List ℕ) → m.IsAt n p → (t : LabelledTree) → m.course.IsDocument t → trees_at (alone t) p ≡ tree label kids rest

-- where calls have tolls, a call from a node at a place of the document asked at most as many fills as are owed for the node and a given toll of that place says
abbrev pub CostsOn : {V W : Type 0} → Meaning V W → V → ℕ → ℕ → ((Way → List ℕ → ℕ) → LabelledTree → List ℕ → ℕ) → Type 0
CostsOn m n fills fills' toll =
    m.course.HasTolls → (p : List ℕ) → m.IsAt n p → (t : LabelledTree) → m.course.IsDocument t → fills' ≤ fills + (m.owes n p + toll (place_toll m.course) t p)

-- where a node stands at a place of the document, the document has that place
abbrev pub IsThere : {V W : Type 0} → Meaning V W → V → Type 0
IsThere m n = (p : List ℕ) → m.IsAt n p → (t : LabelledTree) → m.course.IsDocument t → has_place (alone t) p ≡ true

-- where calls have tolls, nothing is owed any more for a node
abbrev pub IsPaidFor : {V W : Type 0} → Meaning V W → Meaning V W → V → Type 0
IsPaidFor m m' n = m.course.HasTolls → (p : List ℕ) → m.IsAt n p → m'.owes n p ≡ 0

-- what a search comes to that found a given node, or none
abbrev pub found_as : {V : Type 0} → Option V → Found V
found_as None = found.None
found_as (Some n) = found.Node n

-- a step from a node led to the node that the document has there, or to none where it has none; a found node has smaller numbers, and nothing more is owed
pub record IsStepTo {V W : Type 0} (m m' : Meaning V W) (way : Way) (n : V) (r : Option V) : Type 0 where
  pub node : IfSome r (IsReached m')
  pub place : (p : List ℕ) → m.IsAt n p → (t : LabelledTree) → m.course.IsDocument t → IsMoved m'.IsAt t (place_to way p) (found_as r)
  pub smaller : IfSome r (IsSmaller m m' way n)
  pub paid : IsPaidFor m m' n

-- an answer is the canonical text of the subtree of a node, or a fault of a source that may fail and whose count of faults rose
abbrev pub IsPrinted : {V W : Type 0} → Meaning V W → (ℕ → ℕ) → (ℕ → ℕ) → V → Answer → Type 0
IsPrinted m before after n answer.Node = ⊥
IsPrinted m before after n answer.None = ⊥
IsPrinted m before after n (answer.Label l) = ⊥
IsPrinted m before after n (answer.Text x) = PrintsTree m n [] x
IsPrinted m before after n answer.NoNode = ⊥
IsPrinted m before after n (answer.Fault s) = m.course.MayFail s × HasRisen (before s) (after s)
IsPrinted m before after n (answer.Id x) = ⊥
IsPrinted m before after n answer.Foreign = ⊥

-- the mark after a label: an opening bracket where there is a first child
abbrev pub opening : {V : Type 0} → Option V → List ℕ
opening None = []
opening (Some n) = 91 ∷ []

-- the mark after a tree: a comma where there is a next sibling, and a closing bracket where there is none
abbrev pub closing : {V : Type 0} → Option V → List ℕ
closing None = 93 ∷ []
closing (Some n) = 44 ∷ []

-- the label of a node was put after a text, and an opening bracket where it has a first child
pub record OpensTree {V W : Type 0} (m m' : Meaning V W) (n : V) (before after : List ℕ) (r : Option V) : Type 0 where
  pub label : List ℕ
  pub reads : ReadsLabel m n label
  pub text : after ≡ (before ++ spelling label) ++ opening r
  pub step : IsStepTo m m' Down n r

-- the text of the subtree of a node was put after a text, and the mark after a tree
pub record PrintsOne {V W : Type 0} (m m' : Meaning V W) (n : V) (before after : List ℕ) (r : Option V) : Type 0 where
  pub inner : List ℕ
  pub tree : PrintsTree m n before inner
  pub text : after ≡ inner ++ closing r
  pub step : IsStepTo m m' Right n r

-- the texts of the subtrees of a node and of its later siblings were put after a text, with the closing bracket
pub record PrintsBelow {V W : Type 0} (m : Meaning V W) (n : V) (before after : List ℕ) : Type 0 where
  pub inner : List ℕ
  pub trees : PrintsTrees m n before inner
  pub text : after ≡ inner ++ 93 ∷ []

-- what a walk from a node leaves, whatever it comes to, and what it cost
pub record Walked {V W X : Type 0} (m m' : Meaning V W) (v v' : View) (n : V) (toll : (Way → List ℕ → ℕ) → LabelledTree → List ℕ → ℕ) (r : Result X WalkFault) : Type 0 where
  pub stays : Stays m m'
  pub cause : FailsBy m.course.MayFail v.faults v'.faults r
  pub cost : CostsOn m n v.fills v'.fills toll
