-- What is walked: the document of one source, by a buffer, and that of a plan, by a mediator.
use Rattle.std.proofs.Common.{arith, refl}
use Rattle.std.specs.Prelude.{◌≡◌, ◌≤◌, ◌+◌, ℕ, Bool, true, false, cond, IsTrue, List, ◌∷◌, Some, is_some}
use Rattle.mix_tree.specs.Forest.{LabelledTree, alone}
use Rattle.mix_tree.specs.Nodes.{Documents}
use Rattle.lxp_core.specs.View.{View, document}
use Rattle.tree_buffer.specs.declared.buffer.Buffer.{Buffer}
use Rattle.tree_buffer.specs.declared.spot.Spot.{Spot}
use Rattle.tree_buffer.specs.Buffer.{IsSpot, IsSourcesOf, Goes, number_of, place_of, below, after}
use Rattle.plan_core.specs.Plans.{Operator}
use Rattle.lazy_plan.specs.Bench.{BenchState, KeepsBench, ops_of, told, forward, documents}
use Rattle.lazy_binding.specs.Cursors.{IsRead}
use Rattle.plan_evidence.specs.Held.{UsesHeld}
use Rattle.plan_evidence.specs.Named.{Names}
use Rattle.lazy_follow.specs.Marks.{text_reach}
use Rattle.lazy_walk.specs.Places.{plan_document, down_toll, right_toll}
use Rattle.lazy_walk.specs.Finding.{walk_charge}
use Rattle.lazy_value.specs.declared.ids.NodeId.{NodeId}
use Rattle.lazy_value.specs.declared.ids.NodeId.TheVariants.{Walked, Marked}
use Rattle.lazy_value.specs.declared.mediator.Mediator.{Mediator}
use Rattle.lazy_value.specs.Named.{IsMediatorOf, IsNamed, IsNamedAt, IsWalkedTo, NamedStay, OwesNoMore, found_for, named_height, named_left, owed, state_of}
use Rattle.mix_script.specs.Trails.{node_trail, place_trail}
use Rattle.mix_script.specs.declared.step.Way.{Way}
use Rattle.mix_script.specs.declared.step.Way.TheVariants.{Down, Right}
use Rattle.mix_session.specs.Meaning.{Course, Meaning}

-- ONE SOURCE

-- a source tells its document, which is a given tree alone
abbrev pub IsSourceDocument : View → ℕ → LabelledTree → Type 0
IsSourceDocument v source t = (v.told source ≡ true) × (document v source ≡ alone t)

-- the document of a source: the source alone may fail, and where it is forward each search asks at most one fill; no text names a node of it
abbrev pub source_course : View → ℕ → Course (Unit {0})
source_course v source = record {
  roots = true;
  MayFail = λ s. s ≡ source;
  IsDocument = IsSourceDocument v source;
  HasTolls = v.forward source ≡ true;
  trail = node_trail;
  at = λ p. tt;
  root_toll = 1;
  toll = λ way node. 1;
  Tells = ⊥;
  Follows = Unit {0};
  NamesAt = λ node p. ⊥;
  reach = λ node. 0;
  charge = λ p. 0;
}

-- a spot of the buffer stands for a place of the document's first tree
abbrev pub IsPlace : Buffer → Spot → List ℕ → Type 0
IsPlace b x place = IsSpot b x × (place_of b x ≡ 0 ∷ place)

-- the meaning of a buffer as a walker: its spots stand for nodes of its source's document
abbrev pub source_meaning : View → Buffer → Meaning Spot (Unit {0})
source_meaning v b = record {
  IsReady = IsSourcesOf v b;
  course = source_course v (number_of b);
  IsNode = IsSpot b;
  IsAt = IsPlace b;
  IsTold = λ x node. IsSpot b x;
  IsWalked = λ x. Unit {0};
  owes = λ x p. 0;
  walked_owes = λ x p walked. refl;
  owes_walk = λ x p. omega arith;
  left = after v b;
  height = λ x. below v b x + after v b x;
}

-- what calls keep of a buffer as a walker: its spots, their places and labels, and its source's document
abbrev pub SourceKept : View → Buffer → View → Buffer → Type 0
SourceKept v b v' b' = Goes v b v' b'

-- THE DOCUMENT OF A PLAN

-- the sources tell their documents, and a given tree is the plan's document over them
abbrev pub IsDocument : BenchState → LabelledTree → Type 0
IsDocument st t = IsTrue (told st) × (plan_document st ≡ Some t)

-- the toll of a way from a place of a plan's document
abbrev pub place_toll : Documents → List Operator → Way → List ℕ → ℕ
place_toll docs ops Down p = down_toll docs ops p
place_toll docs ops Right p = right_toll docs ops p

-- the document of a plan: the sources that it reads may fail; over told and forward sources a way from a place asks at most
-- its toll, and the root nothing
abbrev pub plan_course : BenchState → Course (List ℕ)
plan_course st = record {
  roots = false;
  MayFail = IsRead (ops_of st);
  IsDocument = IsDocument st;
  HasTolls = IsTrue (told st) × IsTrue (forward st);
  trail = place_trail;
  at = λ p. p;
  root_toll = 0;
  toll = place_toll (documents st) (ops_of st);
  Tells = Unit {0};
  Follows = UsesHeld (ops_of st);
  NamesAt = Names (documents st) (ops_of st);
  reach = text_reach;
  charge = walk_charge (documents st) (ops_of st);
}

-- nothing is owed for an identifier to which a walk led
pub walked_owes : (st : BenchState) (m : Mediator) (n : NodeId) (p : List ℕ) → IsWalkedTo n → owed st m n p ≡ 0
walked_owes st m (Walked n) p walked = refl
walked_owes st m (Marked t) p walked = absurd walked

-- no more is owed for an identifier than the walk to its place may cost
pub owes_walk : (st : BenchState) (m : Mediator) (n : NodeId) (p : List ℕ) → owed st m n p ≤ walk_charge (documents st) (ops_of st) p
owes_walk st m (Walked n) p = omega arith
owes_walk st m (Marked t) p = unless (is_some (found_for m t.value.text))
  where
    unless : (b : Bool) → cond b 0 (walk_charge (documents st) (ops_of st) p) ≤ walk_charge (documents st) (ops_of st) p
    unless true = omega arith
    unless false = omega arith

-- the meaning of a mediator as a walker: its identifiers stand for nodes of its plan's document
abbrev pub plan_meaning : View → Mediator → Meaning NodeId (List ℕ)
plan_meaning v m = record {
  IsReady = IsMediatorOf v m;
  course = plan_course (state_of v m);
  IsNode = IsNamed (state_of v m);
  IsAt = IsNamedAt (state_of v m);
  IsTold = λ n p. IsWalkedTo n × IsNamedAt (state_of v m) n p;
  IsWalked = IsWalkedTo;
  owes = owed (state_of v m) m;
  walked_owes = walked_owes (state_of v m) m;
  owes_walk = owes_walk (state_of v m) m;
  left = named_left (state_of v m);
  height = named_height (state_of v m);
}

-- what calls keep of a mediator as a walker: its plan and the documents, and each earlier identifier at its place, with numbers that did not rise and no more owed
pub record PlanKept (v : View) (m : Mediator) (v' : View) (m' : Mediator) : Type 0 where
  pub kept : KeepsBench (state_of v m) (state_of v' m')
  pub stay : NamedStay (state_of v m) (state_of v' m')
  pub owed : OwesNoMore (state_of v m) m (state_of v' m') m'
