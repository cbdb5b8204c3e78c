-- What a walker means: what is walked, and what stands for its nodes.
use Rattle.std.specs.Prelude.{◌≡◌, ◌≤◌, ℕ, Bool, List}
use Rattle.mix_tree.specs.Forest.{LabelledTree}
use Rattle.node_text.specs.Node.{NodeValue}
use Rattle.mix_script.specs.Trails.{Trail}
use Rattle.mix_script.specs.Transcript.{Naming}
use Rattle.mix_script.specs.declared.step.Way.{Way}

-- what is walked, and at which tolls
pub record Course (W : Type 0) : Type 1 where
  -- whether the root is sought in a source, so that there may be none and the source may fail
  pub roots : Bool
  -- which sources may fail
  pub MayFail : ℕ → Type 0
  -- a tree is the document, and the sources tell it
  pub IsDocument : LabelledTree → Type 0
  -- a call asks at most so many fills as its toll says
  pub HasTolls : Type 0
  -- what is told of nodes for their tolls
  pub trail : Trail W
  -- what is told for tolls of the node at a place of the document
  pub at : List ℕ → W
  -- the toll of coming to the root
  pub root_toll : ℕ
  -- the toll of a way from a node
  pub toll : Way → W → ℕ
  -- the texts of its nodes' identifiers can be told
  pub Tells : Type 0
  -- texts of identifiers can be followed
  pub Follows : Type 0
  -- which node of the document a text names, by what it says
  pub NamesAt : Naming
  -- how many fills are asked at most to follow a text, by what it says
  pub reach : NodeValue → ℕ
  -- what the walk to a place of the document may cost
  pub charge : List ℕ → ℕ

-- what a walker means: the course that it walks, which values stand for nodes, at which places, and their numbers
pub record Meaning (V W : Type 0) : Type 1 where
  -- the sources are the walker's own
  pub IsReady : Type 0
  pub course : Course W
  -- a value stands for a node
  pub IsNode : V → Type 0
  -- the node that a value stands for is at a place of the document
  pub IsAt : V → List ℕ → Type 0
  -- the node that a value stands for has given data told of it
  pub IsTold : V → W → Type 0
  -- a walk led to the node that a value stands for
  pub IsWalked : V → Type 0
  -- what is owed for a value of the node at a place: the walk to it, which the first step from it takes
  pub owes : V → List ℕ → ℕ
  -- nothing is owed where a walk led
  pub walked_owes : (n : V) (p : List ℕ) → IsWalked n → owes n p ≡ 0
  -- no more is owed than the walk to the place may cost
  pub owes_walk : (n : V) (p : List ℕ) → owes n p ≤ course.charge p
  -- a number that falls with each step to the right from where a walk led
  pub left : V → ℕ
  -- a number that falls with each step down, and does not rise with a step to the right
  pub height : V → ℕ

-- from one course to another a walk goes on: the document is the same, no other source may fail, and no toll rose
pub record GoesOn {W : Type 0} (old new : Course W) : Type 0 where
  pub roots : new.roots ≡ old.roots
  pub may : (s : ℕ) → new.MayFail s → old.MayFail s
  pub document : (t : LabelledTree) → old.IsDocument t → new.IsDocument t
  pub tolls : old.HasTolls → new.HasTolls
  pub trail : new.trail ≡ old.trail
  pub at : new.at ≡ old.at
  pub root_toll : new.root_toll ≤ old.root_toll
  pub toll : (way : Way) (x : W) → new.toll way x ≤ old.toll way x
  pub tells : old.Tells → new.Tells
  pub follows : old.Follows → new.Follows
  pub names : (node : NodeValue) (p : List ℕ) → new.NamesAt node p → old.NamesAt node p
  pub named : (node : NodeValue) (p : List ℕ) → old.NamesAt node p → new.NamesAt node p
  pub reach : (node : NodeValue) → new.reach node ≤ old.reach node
  pub charge : (p : List ℕ) → new.charge p ≤ old.charge p

-- what a call leaves of a walker's meaning: the course goes on, each earlier node stays at its place, and neither its numbers nor what is owed for it rose
pub record Stays {V W : Type 0} (old new : Meaning V W) : Type 0 where
  pub ready : new.IsReady
  pub course : GoesOn old.course new.course
  pub node : (n : V) → old.IsNode n → new.IsNode n
  pub place : (n : V) (p : List ℕ) → old.IsAt n p → new.IsAt n p
  pub told : (n : V) (x : W) → old.IsTold n x → new.IsTold n x
  pub walked : (n : V) → old.IsWalked n → new.IsWalked n
  pub owes : (n : V) (p : List ℕ) → old.IsAt n p → new.owes n p ≤ old.owes n p
  pub left : (n : V) → old.IsNode n → new.left n ≤ old.left n
  pub height : (n : V) → old.IsNode n → new.height n ≤ old.height n
